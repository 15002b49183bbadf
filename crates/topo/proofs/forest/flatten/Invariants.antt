use Rattle.topo.proofs.Climb.{Flattened}
use Rattle.topo.proofs.forest.flatten.Given as goal

abbrev pub invariant-loop-n : goal.invariant-loop-n
invariant-loop-n l = Flattened l.initial.up l.up l.n
