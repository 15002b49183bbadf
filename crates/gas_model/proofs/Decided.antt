-- The arcs that groups decide, kept as a set of their names.
use Rattle.std.proofs.Common.{◌≡◌, ℕ, ◌+◌, ◌<◌, ◌==◌, Bool, true, false, cond, not, ◌||◌, List, [], ◌∷◌, ◌++◌, length, map, take, get_or, Option, None, Some, is_none, refl, sym, ap, ◌∙◌, append_assoc}
use Rattle.std.specs.List.{flat_map}
use Rattle.std.specs.Option.{option_or}
use Rattle.std.specs.Str.{bytes_eq}
use Rattle.std.proofs.lemmas.List.{take_more, map-append}
use Rattle.std.proofs.lemmas.List.Folds.{list_any-append}
use Rattle.std.proofs.lemmas.Grind.{flat_map-append}
use Rattle.std.proofs.lemmas.Slice.Eq.{bytes_eq-Decides}
use Rattle.gas_model.specs.declared.rows.ArcText.{ArcText}
use Rattle.gas_model.specs.declared.rows.SetText.{SetText}
use Rattle.gas_model.specs.declared.rows.DecisionText.{DecisionText}
use Rattle.gas_model.specs.declared.rows.GroupText.{GroupText}
use Rattle.gas_model.specs.declared.rows.ModelFault.TheVariants as fault
use Rattle.gas_model.specs.Rows.{text_ids, arc_takes, set_key, set_fault, decision_key, decision_fault, group_fault_after, first_offence}
use Rattle.base_types.specs.Names.{place, is_among, SameNames}
use Rattle.base_types.specs.Ids.{is_id}

-- one more item of a list that was read there
pub take_item : {X : Type 0} (xs : List X) (i : ℕ) (x : X) → i < length xs → x ≡ get_or xs i x → take (i + 1) xs ≡ take i xs ++ x ∷ []
take_item xs i x lt is = take_more xs i x lt ∙ ap (λ y. take i xs ++ y ∷ []) (sym is)

or_false : (b : Bool) → (b || false) ≡ b
or_false true = refl
or_false false = refl

or_true : (b : Bool) → (b || true) ≡ true
or_true true = refl
or_true false = refl

is_not : (b c : Bool) → b ≡ not c → b ≡ false → c ≡ true
is_not b true e h = refl
is_not b false e h = absurd cc

-- a name that is there already
known : (d : List (List ℕ)) (name id : List ℕ) (same : Bool) → bytes_eq id name ≡ same → is_among d name ≡ true → is_among d id ≡ (is_among d id || (same || false))
known d name id false e h = sym (or_false (is_among d id))
known d name id true e h =
    let equal : id ≡ name = (bytes_eq-Decides id name).0 e in
    ap (is_among d) equal ∙ h ∙ sym (or_true (is_among d id))

-- a name is added where it is new
noted_one : (d : List (List ℕ)) (name : List ℕ) (fresh : Bool) → fresh ≡ not (is_among d name) → SameNames (cond fresh (d ++ name ∷ []) d) (d ++ name ∷ [])
noted_one d name true e id = refl
noted_one d name false e id =
    known d name id (bytes_eq id name) refl (is_not false (is_among d name) e refl) ∙ sym (list_any-append (bytes_eq id) d (name ∷ []))

-- the same names, and the same further ones
pub joined : (d D xs : List (List ℕ)) → SameNames d D → SameNames (d ++ xs) (D ++ xs)
joined d D xs same id =
    list_any-append (bytes_eq id) d xs ∙ ap (λ b. b || is_among xs id) (same id) ∙ sym (list_any-append (bytes_eq id) D xs)

-- a turn of the loop over sets
pub noted_turn : (old d next : List (List ℕ)) (sets : List SetText) (i : ℕ) (s : SetText) (fresh : Bool) → i < length sets → s ≡ get_or sets i s
    → SameNames d (old ++ map set_key (take i sets)) → fresh ≡ not (is_among d s.arc) → next ≡ cond fresh (d ++ s.arc ∷ []) d
    → SameNames next (old ++ map set_key (take (i + 1) sets))
noted_turn old d next sets i s fresh lt is same e f id =
    let more : map set_key (take (i + 1) sets) ≡ map set_key (take i sets) ++ s.arc ∷ [] = ap (map set_key) (take_item sets i s lt is) ∙ map-append set_key (take i sets) (s ∷ []) in
    ap (λ l. is_among l id) f ∙ noted_one d s.arc fresh e id
    ∙ joined d (old ++ map set_key (take i sets)) (s.arc ∷ []) same id
    ∙ ap (λ l. is_among l id) (append_assoc old (map set_key (take i sets)) (s.arc ∷ []))
    ∙ ap (λ l. is_among (old ++ l) id) (sym more)

-- a turn of the loop over what names several
pub gathered_turn : {X : Type 0} (f : X → List (List ℕ)) (old d next : List (List ℕ)) (xs : List X) (i : ℕ) (x : X) → i < length xs → x ≡ get_or xs i x
    → SameNames d (old ++ flat_map f (take i xs)) → SameNames next (d ++ f x) → SameNames next (old ++ flat_map f (take (i + 1) xs))
gathered_turn f old d next xs i x lt is same e id =
    let one : flat_map f (x ∷ []) ≡ f x = append_nil (f x) in
    let more : flat_map f (take (i + 1) xs) ≡ flat_map f (take i xs) ++ f x = ap (flat_map f) (take_item xs i x lt is) ∙ flat_map-append f (take i xs) (x ∷ []) ∙ ap (λ l. flat_map f (take i xs) ++ l) one in
    e id ∙ joined d (old ++ flat_map f (take i xs)) (f x) same id
    ∙ ap (λ l. is_among l id) (append_assoc old (flat_map f (take i xs)) (f x))
    ∙ ap (λ l. is_among (old ++ l) id) (sym more)
  where
    append_nil : (l : List (List ℕ)) → l ++ [] ≡ l
    append_nil [] = refl
    append_nil (y ∷ ys) = ap (λ r. y ∷ r) (append_nil ys)

-- checks that say the same of each item find the same first offence
pub same_offence : {A K F : Type 0} (key : A → K) (f g : List K → A → Option F) (earlier : List K) (xs : List A) → ((e : List K) (x : A) → f e x ≡ g e x) → first_offence key f earlier xs ≡ first_offence key g earlier xs
same_offence key f g earlier [] same = refl
same_offence key f g earlier (x ∷ xs) same =
    ap (λ o. option_or o (first_offence key f (earlier ++ key x ∷ []) xs)) (same earlier x)
    ∙ ap (λ o. option_or (g earlier x) o) (same_offence key f g (earlier ++ key x ∷ []) xs same)

module _ (arcs : List ArcText) (group : List ℕ) (d D : List (List ℕ)) (same : SameNames d D) where
  same_set : (earlier : List (List ℕ)) (s : SetText) → set_fault arcs group d earlier s ≡ set_fault arcs group D earlier s
  same_set earlier s =
      ap (λ b. cond (is_none (place (text_ids arcs) s.arc)) (Some (fault.NoSuchArc group s.arc)) (cond (not (arc_takes arcs s)) (Some (fault.NotActive group s.arc)) (cond (is_among earlier s.arc || b) (Some (fault.TwiceDecided s.arc)) None))) (same s.arc)

  same_decision : (earlier : List (List ℕ)) (x : DecisionText) → decision_fault arcs group d earlier x ≡ decision_fault arcs group D earlier x
  same_decision earlier x =
      ap (λ o. cond (not (is_id x.id)) (Some (fault.OverLimit x.id)) (cond (is_among earlier x.id) (Some (fault.TwiceNamed x.id)) o)) (same_offence set_key (set_fault arcs group d) (set_fault arcs group D) [] x.sets same_set)

-- a group's fault depends on which arcs are decided, and not on the list of their names
pub same_group : (arcs : List ArcText) (ids d D : List (List ℕ)) (g : GroupText) → SameNames d D → group_fault_after arcs ids d g ≡ group_fault_after arcs ids D g
same_group arcs ids d D g same =
    ap (λ o. cond (not (is_id g.id)) (Some (fault.OverLimit g.id)) (cond (is_among ids g.id) (Some (fault.TwiceNamed g.id)) (cond (length g.decisions == 0) (Some (fault.EmptyGroup g.id)) o)))
    (same_offence decision_key (decision_fault arcs g.id d) (decision_fault arcs g.id D) [] g.decisions (same_decision arcs g.id d D same))
