use Rattle.std.proofs.Common.{[], map}
use Rattle.gas_model.specs.Incidence.{KeepsArcsAt}
use Rattle.gas_model.proofs.incidence.empty_lists.Given as goal

abbrev pub invariant-loop-n : goal.invariant-loop-n
invariant-loop-n l = KeepsArcsAt (map (λ v. v.items) l.lists.items) l._n []
