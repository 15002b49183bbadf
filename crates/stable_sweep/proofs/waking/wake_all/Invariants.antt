use Rattle.std.proofs.Common.{◌≡◌}
use Rattle.stable_sweep.specs.Waiting.{HoldsAll, IsFew}
use Rattle.stable_sweep.proofs.waking.wake_all.Given as goal

abbrev pub invariant-loop-slot : goal.invariant-loop-slot
invariant-loop-slot l = record {
  size : l.queue.size ≡ l.fn.queue.size;
  few : IsFew l.queue;
  all : HoldsAll l.slot l.queue.held;
}
