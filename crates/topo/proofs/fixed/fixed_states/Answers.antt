use Rattle.std.proofs.Common.{◌≡◌, arith, ap, length}
use Rattle.std.proofs.lemmas.List.{length_push}
use Rattle.topo.proofs.FixedStates.{fixed_at_row, states_push}
use Rattle.topo.proofs.fixed.fixed_states.Goals as goal

pub loop-a-preserved : goal.loop-a-preserved
loop-a-preserved c =
    let count = c.loop-a.invariant.count in
    let long : length c.arcs-count.result.now ≡ length c.args.p.now.arcs = ap length c.arcs-count.ensures.rows in
    let here = fixed_at_row c.args.p.now c.args.part.now c.loop-a.a c.state_of.result (omega arith) c.state_of.ensures in
    rw c.in_ok-push.ensures.items (record {
      count = let l = length_push c.loop-a.states.items c.state_of.result in omega arith;
      each = λ k h. states_push c.args.p.now c.args.part.now c.loop-a.states.items c.state_of.result c.loop-a.a k count c.loop-a.invariant.each here h;
    })
