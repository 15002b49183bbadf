use Rattle.std.proofs.Common.{◌≡◌}
use Rattle.look_ahead.proofs.forks.left_by.Given as goal

abbrev pub invariant-loop-head : goal.invariant-loop-head
invariant-loop-head l = l.tools.queue.size ≡ l.initial.tools.queue.size
