use Rattle.std.proofs.Common.{[], map, refl, subst, List, ◌≡◌, length, ◌<◌, get_or, ◌++◌, ◌∷◌}
use Rattle.std.specs.Prelude.{slice_set}
use Rattle.std.proofs.lemmas.List.{map-set, get_or-map, length-map}
use Rattle.gas_model.specs.declared.rows.Ruling.{Ruling}
use Rattle.gas_model.specs.Rulings.{one_ruling, Grew}
use Rattle.gas_model.proofs.Ruled.{grew_one}
use Rattle.gas_model.proofs.rulings.note.Goals as goal

pub returns : goal.returns
returns c =
    let before : List (List Ruling) = map (λ v. v.items) c.args.lists.now.items in
    let there : c.args.arc < length before = rw (length-map c.args.lists.now.items (λ v. v.items)) c.requires in
    let P : List (List Ruling) → Type 0 = λ l. Grew (one_ruling c.args.arc c.args.ruling) before l in
    let made : slice_set before c.args.arc (get_or before c.args.arc [] ++ c.args.ruling ∷ []) ≡ map (λ v. v.items) (slice_set c.args.lists.now.items c.args.arc c.push.new.self) =
    rw (map-set (λ v. v.items) c.args.lists.now.items c.args.arc c.push.new.self, c.in_ok-push.ensures.items, c.index_mut.ensures.value, get_or-map (λ v. v.items) c.args.lists.now.items c.args.arc c.index_mut.result.now [] c.requires) refl in
    subst P made (grew_one before c.args.arc c.args.ruling there)
