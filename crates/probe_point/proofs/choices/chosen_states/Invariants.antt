use Rattle.std.proofs.Common.{◌≡◌, ℕ, ◌<◌, length}
use Rattle.std.specs.Prelude.{slice_index_or}
use Rattle.gas_model.specs.Points.{state_at}
use Rattle.topo.specs.Graphs.{no_arc}
use Rattle.probe_point.specs.Chosen.{chosen_state}
use Rattle.probe_point.proofs.choices.chosen_states.Given as goal

abbrev pub invariant-loop-arc : goal.invariant-loop-arc
invariant-loop-arc l = record {
  count : length l.states ≡ l.arc;
  each : (a : ℕ) → a < l.arc → state_at l.states a ≡ chosen_state l.fn.p l.fn.part a (slice_index_or l.fn.p.arcs a no_arc);
}
