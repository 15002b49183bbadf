use Rattle.stable_sweep.specs.Supplies.{AreSupplies}
use Rattle.stable_sweep.proofs.cuts.supplies.Given as goal

abbrev pub invariant-loop-n : goal.invariant-loop-n
invariant-loop-n l = AreSupplies l.p.nodes l.shape.root_of l.n l.all.items
