-- The rulings of an arc are of one group, and rise from decision to decision.
use Rattle.std.proofs.Common.{◌≡◌, ℕ, zero, suc, ◌+◌, ◌<◌, ◌≤◌, ◌==◌, ◌⊎◌, inl, inr, refl, sym, ap, ◌∙◌, subst, arith, List, [], ◌∷◌, ◌++◌, map, get_or, Bool, true, false, cond, not, is_none, unwrap_or, None, Some}
use Rattle.std.specs.Prelude.{◌||◌, slice_get}
use Rattle.std.specs.List.{flat_map}
use Rattle.std.specs.Str.{bytes_eq}
use Rattle.std.proofs.lemmas.Bool.{eqb-true, or_parts, or_right}
use Rattle.std.proofs.lemmas.List.{append-nil}
use Rattle.std.proofs.lemmas.List.Folds.{list_any-append}
use Rattle.std.proofs.lemmas.Grind.{flat_map-append}
use Rattle.std.proofs.lemmas.Slice.Eq.{bytes_eq-Decides}
use Rattle.gas_model.specs.declared.rows.ArcText.{ArcText}
use Rattle.gas_model.specs.declared.rows.SetText.{SetText}
use Rattle.gas_model.specs.declared.rows.DecisionText.{DecisionText}
use Rattle.gas_model.specs.declared.rows.GroupText.{GroupText}
use Rattle.gas_model.specs.declared.rows.Ruling.{Ruling}
use Rattle.gas_model.specs.declared.rows.Rows.{Rows}
use Rattle.gas_model.specs.declared.rows.ModelFault.TheVariants as fault
use Rattle.gas_model.specs.Rows.{text_ids, arc_takes, first_offence, rows_fault, set_key, set_of, set_fault, decision_key, decision_of, decision_fault, group_of, group_fault, group_ids, decided_in, decided_by, network_of}
use Rattle.base_types.specs.Names.{place, is_among}
use Rattle.gas_model.specs.Rulings.{rulings_in, rulings_by, rulings_from, rulings_at, AreInOrder}
use Rattle.gas_model.proofs.Remade.{both_none, passed, at_place, clean_decision, clean_group, clean_rows}

-- ---- rising rulings
-- they are of the group k, and their decisions rise from this one on
abbrev Rising : (k from : ℕ) → List Ruling → Type 0
Rising k from [] = Unit {0}
Rising k from (r ∷ rs) = (r.group ≡ k) × (from ≤ r.decision) × Rising k (r.decision + 1) rs

rising_sooner : (k from sooner : ℕ) (rs : List Ruling) → sooner ≤ from → Rising k from rs → Rising k sooner rs
rising_sooner k from sooner [] l h = tt
rising_sooner k from sooner (r ∷ rs) l h = (h.0, omega (arith, l, h.1), h.2)

rising_at : (k from : ℕ) (rs : List Ruling) (i : ℕ) (r : Ruling) → Rising k from rs → slice_get rs i ≡ Some r → (r.group ≡ k) × (from ≤ r.decision)
rising_at k from [] i r h e = absurd cc
rising_at k from (s ∷ rs) zero r h e = let same : s ≡ r = cc in subst (λ (x : Ruling). (x.group ≡ k) × (from ≤ x.decision)) same (h.0, h.1)
rising_at k from (s ∷ rs) (suc i) r h e = let later = rising_at k (s.decision + 1) rs i r h.2 e in (later.0, omega (arith, later.1, h.1))

rising_order : (k from : ℕ) (rs : List Ruling) (i j : ℕ) (r s : Ruling) → Rising k from rs → i < j → slice_get rs i ≡ Some r → slice_get rs j ≡ Some s → r.decision < s.decision
rising_order k from [] i j r s h l e f = absurd cc
rising_order k from (x ∷ rs) zero zero r s h l e f = absurd (omega (arith, l))
rising_order k from (x ∷ rs) zero (suc j) r s h l e f =
    let same : x ≡ r = cc in
    let later = rising_at k (x.decision + 1) rs j s h.2 f in
    let is : x.decision ≡ r.decision = ap (λ (y : Ruling). y.decision) same in
    omega (arith, later.1, is)
rising_order k from (x ∷ rs) (suc i) zero r s h l e f = absurd (omega (arith, l))
rising_order k from (x ∷ rs) (suc i) (suc j) r s h l e f = rising_order k (x.decision + 1) rs i j r s h.2 (omega (arith, l)) e f

in_order : (k from : ℕ) (rs : List Ruling) → Rising k from rs → AreInOrder rs
in_order k from rs h = record {
  group = λ i j r s e f. (rising_at k from rs i r h e).0 ∙ sym (rising_at k from rs j s h f).0;
  decisions = λ i j r s l e f. rising_order k from rs i j r s h l e f;
}

none_in_order : AreInOrder []
none_in_order = record { group = λ i j r s e f. absurd cc; decisions = λ i j r s l e f. absurd cc }

-- ---- the names of arcs
-- a list of names that ends with this one has it
has_last : (names : List (List ℕ)) (id : List ℕ) → is_among (names ++ id ∷ []) id ≡ true
has_last names id =
    list_any-append (bytes_eq id) names (id ∷ []) ∙ or_right (is_among names id) (bytes_eq id id || false) (ap (λ (b : Bool). b || false) ((bytes_eq-Decides id id).1 refl))

not_before : (xs ys : List (List ℕ)) (id : List ℕ) → is_among (xs ++ ys) id ≡ false → (is_among xs id ≡ false) × (is_among ys id ≡ false)
not_before xs ys id h = or_parts (is_among xs id) (is_among ys id) (sym (list_any-append (bytes_eq id) xs ys) ∙ h)

among_right : (xs ys : List (List ℕ)) (id : List ℕ) → is_among ys id ≡ true → is_among (xs ++ ys) id ≡ true
among_right xs ys id h = list_any-append (bytes_eq id) xs ys ∙ or_right (is_among xs id) (is_among ys id) h

among_left : (xs ys : List (List ℕ)) (id : List ℕ) → is_among xs id ≡ true → is_among (xs ++ ys) id ≡ true
among_left xs ys id h = list_any-append (bytes_eq id) xs ys ∙ ap (λ (b : Bool). b || is_among ys id) h

-- the name of the arc a
abbrev name_of : List ArcText → ℕ → List ℕ
name_of arcs a = get_or (text_ids arcs) a []

-- ---- the sets of a decision
-- what they say of the arc a
abbrev said_in : List ArcText → (a k j : ℕ) → List SetText → List Ruling
said_in arcs a k j sets = rulings_in a k j (map (set_of (text_ids arcs)) sets)

-- one of them is for the arc of this name, which nothing before decides
record IsOnly (k j : ℕ) (rs : List Ruling) (name : List ℕ) (decided earlier names : List (List ℕ)) : Type 0 where
  it : Ruling
  alone : rs ≡ it ∷ []
  group : it.group ≡ k
  decision : it.decision ≡ j
  undecided : is_among decided name ≡ false
  first : is_among earlier name ≡ false
  named : is_among names name ≡ true

one_more_set : (name : List ℕ) (k j : ℕ) (decided earlier : List (List ℕ)) (s : SetText) (rest : List SetText) (rs : List Ruling) (here : Bool) → (here ≡ true → s.arc ≡ name)
    → is_among earlier s.arc ≡ false → is_among decided s.arc ≡ false → (rs ≡ []) ⊎ IsOnly k j rs name decided (earlier ++ s.arc ∷ []) (map set_key rest)
    → (cond here (record { group = k; decision = j; allow = s.allow } ∷ rs) rs ≡ []) ⊎ IsOnly k j (cond here (record { group = k; decision = j; allow = s.allow } ∷ rs) rs) name decided earlier (map set_key (s ∷ rest))
one_more_set name k j decided earlier s rest rs true is new free (inl none) = inr (record {
  it = record { group = k; decision = j; allow = s.allow };
  alone = ap (λ (l : List Ruling). record { group = k; decision = j; allow = s.allow } ∷ l) none;
  group = refl;
  decision = refl;
  undecided = ap (is_among decided) (sym (is refl)) ∙ free;
  first = ap (is_among earlier) (sym (is refl)) ∙ new;
  named = ap (λ (b : Bool). b || is_among (map set_key rest) name) ((bytes_eq-Decides name s.arc).1 (sym (is refl)));
})
one_more_set name k j decided earlier s rest rs true is new free (inr some) =
    let twice : is_among (earlier ++ s.arc ∷ []) name ≡ true = ap (λ (id : List ℕ). is_among (earlier ++ id ∷ []) name) (is refl) ∙ has_last earlier name in
    absurd (let f : true ≡ false = sym twice ∙ some.first in cc)
one_more_set name k j decided earlier s rest rs false is new free (inl none) = inl none
one_more_set name k j decided earlier s rest rs false is new free (inr some) = inr (record {
  it = some.it;
  alone = some.alone;
  group = some.group;
  decision = some.decision;
  undecided = some.undecided;
  first = (not_before earlier (s.arc ∷ []) name some.first).0;
  named = or_right (bytes_eq name s.arc) (is_among (map set_key rest) name) some.named;
})

one_set : (arcs : List ArcText) (a : ℕ) (group : List ℕ) (k j : ℕ) (decided earlier : List (List ℕ)) (sets : List SetText) → first_offence set_key (set_fault arcs group decided) earlier sets ≡ None
    → (said_in arcs a k j sets ≡ []) ⊎ IsOnly k j (said_in arcs a k j sets) (name_of arcs a) decided earlier (map set_key sets)
one_set arcs a group k j decided earlier [] clean = inl refl
one_set arcs a group k j decided earlier (s ∷ rest) clean =
    let p = both_none (set_fault arcs group decided earlier s) (first_offence set_key (set_fault arcs group decided) (earlier ++ s.arc ∷ []) rest) clean in
    let q = passed (is_none (place (text_ids arcs) s.arc)) (fault.NoSuchArc group s.arc) _ p.0 in
    let t = passed (not (arc_takes arcs s)) (fault.NotActive group s.arc) _ q.1 in
    let u = passed (is_among earlier s.arc || is_among decided s.arc) (fault.TwiceDecided s.arc) None t.1 in
    let new = or_parts (is_among earlier s.arc) (is_among decided s.arc) u.0 in
    let here : get_or (text_ids arcs) (unwrap_or (place (text_ids arcs) s.arc) 0) [] ≡ s.arc = at_place (text_ids arcs) s.arc _ refl q.0 in
    one_more_set (name_of arcs a) k j decided earlier s rest (said_in arcs a k j rest) ((set_of (text_ids arcs) s).0 == a)
    (λ e. sym here ∙ ap (λ (i : ℕ). get_or (text_ids arcs) i []) (eqb-true (set_of (text_ids arcs) s).0 a e))
    new.0 new.1 (one_set arcs a group k j decided (earlier ++ s.arc ∷ []) rest p.1)

-- ---- the decisions of a group, which are numbered from j
abbrev said_by : List ArcText → (a k j : ℕ) → List DecisionText → List Ruling
said_by arcs a k j ds = rulings_by a k j (map (decision_of (text_ids arcs)) ds)

abbrev names_in : List DecisionText → List (List ℕ)
names_in ds = flat_map (λ d. map set_key d.sets) ds

-- some of them are for the arc of this name, which no group before decides
record AreSome (name : List ℕ) (decided names : List (List ℕ)) : Type 0 where
  undecided : is_among decided name ≡ false
  named : is_among names name ≡ true

record Said (k j : ℕ) (rs : List Ruling) (name : List ℕ) (decided names : List (List ℕ)) : Type 0 where
  rising : Rising k j rs
  some : (rs ≡ []) ⊎ AreSome name decided names

one_more_decision : (name : List ℕ) (k j : ℕ) (decided : List (List ℕ)) (xs ys : List (List ℕ)) (first rs : List Ruling) → (first ≡ []) ⊎ IsOnly k j first name decided [] xs → Said k (j + 1) rs name decided ys
    → Said k j (first ++ rs) name decided (xs ++ ys)
one_more_decision name k j decided xs ys first rs (inl none) said = record {
  rising = subst (λ (l : List Ruling). Rising k j (l ++ rs)) (sym none) (rising_sooner k (j + 1) j rs (omega arith) said.rising);
  some = elim said.some [
    | inl e ↦ inl (ap (λ (l : List Ruling). l ++ rs) none ∙ e)
    | inr s ↦ inr (record { undecided = s.undecided; named = among_right xs ys name s.named })
  ];
}
one_more_decision name k j decided xs ys first rs (inr only) said =
    let at : j ≡ only.it.decision = sym only.decision in
    record {
      rising = subst (λ (l : List Ruling). Rising k j (l ++ rs)) (sym only.alone)
          (only.group, omega (arith, at), subst (λ (n : ℕ). Rising k (n + 1) rs) at said.rising);
      some = inr (record { undecided = only.undecided; named = among_left xs ys name only.named });
    }

by_decisions : (arcs : List ArcText) (a : ℕ) (group : List ℕ) (k j : ℕ) (decided earlier : List (List ℕ)) (ds : List DecisionText) → first_offence decision_key (decision_fault arcs group decided) earlier ds ≡ None
    → Said k j (said_by arcs a k j ds) (name_of arcs a) decided (names_in ds)
by_decisions arcs a group k j decided earlier [] clean = record { rising = tt; some = inl refl }
by_decisions arcs a group k j decided earlier (d ∷ rest) clean =
    let p = both_none (decision_fault arcs group decided earlier d) (first_offence decision_key (decision_fault arcs group decided) (earlier ++ d.id ∷ []) rest) clean in
    let here = one_set arcs a group k j decided [] d.sets (clean_decision arcs group decided earlier d p.0).sets in
    one_more_decision (name_of arcs a) k j decided (map set_key d.sets) (names_in rest) (said_in arcs a k j d.sets) (said_by arcs a k (j + 1) rest) here
    (by_decisions arcs a group k (j + 1) decided (earlier ++ d.id ∷ []) rest p.1)

-- ---- the groups, which are numbered from k
abbrev said_from : List ArcText → (a k : ℕ) → List GroupText → List Ruling
said_from arcs a k gs = rulings_from a k (map (group_of (text_ids arcs)) gs)

-- one of them decides the arc of this name, and no group before
record IsOf (rs : List Ruling) (name : List ℕ) (decided : List (List ℕ)) : Type 0 where
  group : ℕ
  rising : Rising group 0 rs
  undecided : is_among decided name ≡ false

one_more_group : (name : List ℕ) (k : ℕ) (decided names : List (List ℕ)) (first rs : List Ruling) → Said k 0 first name decided names → (rs ≡ []) ⊎ IsOf rs name (decided ++ names) → (first ++ rs ≡ []) ⊎ IsOf (first ++ rs) name decided
one_more_group name k decided names first rs said (inl none) =
    let all : first ++ rs ≡ first = ap (λ (l : List Ruling). first ++ l) none ∙ append-nil first in
    elim said.some [
      | inl e ↦ inl (all ∙ e)
      | inr s ↦ inr (record { group = k; rising = subst (Rising k 0) (sym all) said.rising; undecided = s.undecided })
    ]
one_more_group name k decided names first rs said (inr later) = elim said.some [
  | inl e ↦ inr (record {
    group = later.group;
    rising = subst (λ (l : List Ruling). Rising later.group 0 (l ++ rs)) (sym e) later.rising;
    undecided = (not_before decided names name later.undecided).0;
  })
  | inr s ↦ absurd (let f : true ≡ false = sym (among_right decided names name s.named) ∙ later.undecided in cc)
]

by_groups : (arcs : List ArcText) (a k : ℕ) (earlier gs : List GroupText) → first_offence (λ g. g) (group_fault arcs) earlier gs ≡ None
    → (said_from arcs a k gs ≡ []) ⊎ IsOf (said_from arcs a k gs) (name_of arcs a) (decided_by earlier)
by_groups arcs a k earlier [] clean = inl refl
by_groups arcs a k earlier (g ∷ rest) clean =
    let p = both_none (group_fault arcs earlier g) (first_offence (λ g. g) (group_fault arcs) (earlier ++ g ∷ []) rest) clean in
    let c = clean_group arcs (group_ids earlier) (decided_by earlier) g p.0 in
    let here = by_decisions arcs a g.id k 0 (decided_by earlier) [] g.decisions c.decisions in
    let all : decided_by (earlier ++ g ∷ []) ≡ decided_by earlier ++ decided_in g = flat_map-append decided_in earlier (g ∷ []) ∙ ap (λ (l : List (List ℕ)). decided_by earlier ++ l) (append-nil (decided_in g)) in
    let later = by_groups arcs a (k + 1) (earlier ++ g ∷ []) rest p.1 in
    one_more_group (name_of arcs a) k (decided_by earlier) (decided_in g) (said_by arcs a k 0 g.decisions) (said_from arcs a (k + 1) rest) here
    (subst (λ (d : List (List ℕ)). (said_from arcs a (k + 1) rest ≡ []) ⊎ IsOf (said_from arcs a (k + 1) rest) (name_of arcs a) d) all later)

-- what the groups of a problem say of an arc is in order
pub ordered : (rows : Rows) → rows_fault rows ≡ None → (a : ℕ) → AreInOrder (rulings_at (network_of rows).groups a)
ordered rows clean a = elim (by_groups rows.arcs a 0 [] rows.groups (clean_rows rows clean).groups) [
  | inl none ↦ subst AreInOrder (sym none) none_in_order
  | inr some ↦ in_order some.group 0 (said_from rows.arcs a 0 rows.groups) some.rising
]
