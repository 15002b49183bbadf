use Rattle.std.proofs.Common.{◌≡◌, length}
use Rattle.stable_sweep.proofs.law_queue.emptied.Given as goal

abbrev pub invariant-drain : goal.invariant-drain
invariant-drain l = l.queue.size ≡ l.fn.queue.size

abbrev pub decreases-drain : goal.decreases-drain
decreases-drain l = length l.queue.held
