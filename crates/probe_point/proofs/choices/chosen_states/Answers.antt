use Rattle.std.proofs.Common.{arith}
use Rattle.std.specs.Prelude.{slice_index_or}
use Rattle.std.proofs.lemmas.List.{length_push}
use Rattle.topo.specs.Graphs.{no_arc}
use Rattle.probe_point.specs.Chosen.{chosen_state}
use Rattle.probe_point.proofs.ChosenFacts.{state_push}
use Rattle.probe_point.proofs.choices.chosen_states.Goals as goal

pub loop-arc-preserved : goal.loop-arc-preserved
loop-arc-preserved c =
    let s = c.loop-arc.invariant in
    let x = c.in_ok-chosen_state.field-0 in
    rw c.in_ok-push.ensures.ok (record {
      count = let l = length_push c.loop-arc.states x in omega arith;
      each = state_push c.loop-arc.states x c.loop-arc.arc (λ a. chosen_state c.args.p.now c.args.part.now a (slice_index_or c.args.p.now.arcs a no_arc)) s.count s.each c.in_ok-chosen_state.ensures;
    })
