use Rattle.std.proofs.Common.{take, map}
use Rattle.gas_model.specs.Rulings.{rulings_in, Grew}
use Rattle.gas_model.proofs.rulings.note_sets.Given as goal

abbrev pub invariant-loop-arc : goal.invariant-loop-arc
invariant-loop-arc l =
    Grew (λ a. rulings_in a l.group l.decision (take l.arc-index l.sets)) (map (λ v. v.items) l.fn.lists.items) (map (λ v. v.items) l.lists.items)
