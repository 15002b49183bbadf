use Rattle.std.proofs.Common.{◌∙◌}
use borrow.Author.Count.{below_more}
use Rattle.stable_sweep.proofs.waking.wake_all.Goals as goal

pub loop-slot-preserved : goal.loop-slot-preserved
loop-slot-preserved c = record {
  size = c.put.ensures.size ∙ c.loop-slot.invariant.size;
  few = c.put.ensures.few;
  all = below_more _ _ (λ k h. c.put.ensures.kept k (c.loop-slot.invariant.all k h)) c.put.ensures.put;
}
