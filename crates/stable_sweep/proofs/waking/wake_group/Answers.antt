use Rattle.std.proofs.Common.{◌∙◌}
use borrow.Author.Count.{below_more}
use Rattle.stable_sweep.proofs.waking.wake_group.Goals as goal

pub loop-arc-preserved : goal.loop-arc-preserved
loop-arc-preserved c = record {
  size = c.wake_arc.ensures.size ∙ c.loop-arc.invariant.size;
  few = c.wake_arc.ensures.few;
  put = below_more _ _ (λ a h s. c.wake_arc.ensures.kept _ (c.loop-arc.invariant.put a h s)) c.wake_arc.ensures.put;
}
