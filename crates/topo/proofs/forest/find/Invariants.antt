use Rattle.topo.proofs.Climb.{Halved}
use Rattle.topo.proofs.forest.find.Given as goal

abbrev pub invariant-loop-up : goal.invariant-loop-up
invariant-loop-up l = Halved l.initial.up l.up l.node l.at

abbrev pub decreases-loop-up : goal.decreases-loop-up
decreases-loop-up l = l.at
