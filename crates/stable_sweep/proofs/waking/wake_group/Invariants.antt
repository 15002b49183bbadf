use Rattle.std.proofs.Common.{◌≡◌, ℕ, ◌+◌, ◌<◌, true, length}
use Rattle.link_queue.specs.Queue.{holds}
use Rattle.stable_sweep.specs.Waiting.{IsFew, speaks_of}
use Rattle.stable_sweep.proofs.waking.wake_group.Given as goal

abbrev pub invariant-loop-arc : goal.invariant-loop-arc
invariant-loop-arc l = record {
  size : l.queue.size ≡ l.fn.queue.size;
  few : IsFew l.queue;
  put : (a : ℕ) → a < l.arc → speaks_of l.p l.group a ≡ true → holds (length l.p.nodes + a) l.queue.held ≡ true;
}
