use Rattle.std.proofs.Common.{arith}
use Rattle.gas_model.proofs.Ruled.{groups_turn}
use Rattle.gas_model.proofs.rulings.rulings_of_arcs.Goals as goal

pub loop-k-preserved : goal.loop-k-preserved
loop-k-preserved c =
    groups_turn c.loop-k.k c.args.arcs c.args.groups.now c.index-groups-k.result _ _ (omega (arith, c.loop-k-test.true)) c.index-groups-k.is c.loop-k.invariant (rw c.as_slice.ensures at c.in_ok-note_decisions.ensures)
