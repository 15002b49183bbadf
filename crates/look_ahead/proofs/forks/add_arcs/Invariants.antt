use Rattle.look_ahead.specs.Views.{CanForkAll}
use Rattle.look_ahead.proofs.forks.add_arcs.Given as goal

abbrev pub invariant-loop-arc : goal.invariant-loop-arc
invariant-loop-arc l = CanForkAll l.p l.view l.forks.items
