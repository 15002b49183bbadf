use Rattle.std.proofs.Common.{arith, map}
use Rattle.gas_model.specs.Rows.{set_key}
use Rattle.gas_model.proofs.Decided.{gathered_turn}
use Rattle.gas_model.proofs.grouping.note_group.Goals as goal

pub loop-decision-preserved : goal.loop-decision-preserved
loop-decision-preserved c = record {
  decisions = c.loop-decision.invariant.decisions;
  noted = gathered_turn (λ d. map set_key d.sets) c.args.decided.now c.loop-decision.decided c.note_sets.new.decided c.as_slice-decisions.result.now c.loop-decision.decision-index c.decision-item.result (omega (arith, c.loop-decision-test.true)) c.decision-item.is c.loop-decision.invariant.noted
      (rw c.as_slice.ensures at c.in_ok-note_sets.ensures);
}
