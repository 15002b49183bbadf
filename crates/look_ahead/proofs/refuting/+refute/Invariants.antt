use Rattle.std.proofs.Common.{◌≡◌}
use Rattle.look_ahead.proofs.refuting.+refute.Given as goal

abbrev pub decreases-refute : goal.decreases-refute
decreases-refute l = l.depth

abbrev pub invariant-loop-head : goal.invariant-loop-head
invariant-loop-head l = l.tools.queue.size ≡ l.initial.tools.queue.size
