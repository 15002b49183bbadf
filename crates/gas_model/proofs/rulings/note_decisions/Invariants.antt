use Rattle.std.proofs.Common.{take, map}
use Rattle.gas_model.specs.Rulings.{rulings_by, Grew}
use Rattle.gas_model.proofs.rulings.note_decisions.Given as goal

abbrev pub invariant-loop-j : goal.invariant-loop-j
invariant-loop-j l =
    Grew (λ a. rulings_by a l.group 0 (take l.j l.decisions)) (map (λ v. v.items) l.fn.lists.items) (map (λ v. v.items) l.lists.items)
