use Rattle.std.proofs.Common.{◌≡◌}
use Rattle.stable_sweep.specs.Waiting.{IsFew, KeepsHeld}
use Rattle.stable_sweep.proofs.PutBacks.{PutsUpTo}
use Rattle.stable_sweep.proofs.waiting.put_back_square.Given as goal

abbrev pub invariant-loop-arc : goal.invariant-loop-arc
invariant-loop-arc l = record {
  size : l.queue.size ≡ l.fn.queue.size;
  few : IsFew l.queue;
  kept : KeepsHeld l.fn.queue.held l.queue.held;
  put : PutsUpTo l.p l.state l.current l.arc-items l.arc-index l.queue.held;
}
