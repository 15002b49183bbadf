use Rattle.std.proofs.Common.{arith}
use Rattle.gas_model.proofs.Decided.{noted_turn}
use Rattle.gas_model.proofs.grouping.note_sets.Goals as goal

pub loop-set-preserved : goal.loop-set-preserved
loop-set-preserved c =
    noted_turn c.args.decided.now c.loop-set.decided c.add.new.self c.args.sets.now c.loop-set.set-index c.set-item.result c.in_ok-add.field-0 (omega (arith, c.loop-set-test.true)) c.set-item.is c.loop-set.invariant
    (rw c.as_str.ensures at c.in_ok-add.ensures.fresh) (rw c.as_str.ensures at c.in_ok-add.ensures.added)
