use Rattle.look_ahead.specs.Views.{CanForkAll}
use Rattle.look_ahead.proofs.forks.add_groups.Given as goal

abbrev pub invariant-loop-group : goal.invariant-loop-group
invariant-loop-group l = CanForkAll l.p l.view l.forks.items
