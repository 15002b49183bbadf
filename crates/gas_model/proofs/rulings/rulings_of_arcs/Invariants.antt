use Rattle.std.proofs.Common.{take, map}
use Rattle.gas_model.specs.Rulings.{KeepsRulings}
use Rattle.gas_model.proofs.rulings.rulings_of_arcs.Given as goal

abbrev pub invariant-loop-k : goal.invariant-loop-k
invariant-loop-k l = KeepsRulings (map (λ v. v.items) l.lists.items) l.fn.arcs (take l.k l.groups)
