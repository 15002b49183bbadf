use Rattle.std.proofs.Common.{[], map}
use Rattle.gas_model.specs.Rulings.{KeepsRulings}
use Rattle.gas_model.proofs.rulings.empty_lists.Given as goal

abbrev pub invariant-loop-n : goal.invariant-loop-n
invariant-loop-n l = KeepsRulings (map (λ v. v.items) l.lists.items) l._n []
