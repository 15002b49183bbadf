-- What the picked decision of the one group that says rulings leaves to their arc.
use Rattle.std.proofs.Common.{tests, ◌≡◌, ◌≢◌, ℕ, zero, suc, ◌<◌, inl, inr, refl, sym, ap, ◌∙◌, subst, arith, ◌≤◌, Ok, Err, List, [], ◌∷◌, length, get_or, Bool, true, false, not, Option, None, Some}
use Rattle.std.specs.Prelude.{◌||◌, ◌&&◌, slice_get}
use Rattle.std.specs.List.{list_all}
use Rattle.std.specs.declared.cmp.Ordering.{Ordering}
use Rattle.std.specs.Ordering.{nat_cmp, MatchOrdering, ordering_index}
use Rattle.std.specs.declared.cmp.Ordering.TheVariants.{Less, Equal, Greater}
use Rattle.std.specs.List.Sorted.{IsBinarySearchResult}
use Rattle.std.specs.Cmp.{ranks, nat_cmp_is}
use Rattle.std.proofs.lemmas.Bool.{and_from, cases_lt, cases_order, eq-eqb, ne_eqb}
use Rattle.std.proofs.lemmas.Option.{slice_get_within, slice_get-get_or, get_or_from_slice_get}
use Rattle.base_types.specs.declared.states.ArcState.{ArcState}
use Rattle.gas_model.specs.declared.rows.Ruling.{Ruling}
use Rattle.base_types.specs.declared.states.Allow.{Allow}
use Rattle.gas_model.specs.declared.rows.Group.{Group}
use Rattle.gas_model.specs.Choices.{allows, picks_allow}
use Rattle.gas_model.specs.Rulings.{leaves, all_leave, pick_in, pick_for, rulings_at, word_allows, AreInOrder}
use Rattle.gas_model.proofs.RuledWords.{words_leave}

-- a test that each item passes
pub all_pass : {X : Type 0} (test : X → Bool) (xs : List X) → ((i : ℕ) (x : X) → slice_get xs i ≡ Some x → test x ≡ true) → list_all test xs ≡ true
all_pass test [] h = refl
all_pass test (x ∷ xs) h = and_from (test x) (list_all test xs) (h 0 x refl) (all_pass test xs (λ i y e. h (suc i) y e))

-- a test that each item but one passes
one_decides : {X : Type 0} (test : X → Bool) (xs : List X) (i : ℕ) (x : X) → slice_get xs i ≡ Some x → ((j : ℕ) (y : X) → j ≢ i → slice_get xs j ≡ Some y → test y ≡ true) → list_all test xs ≡ test x
one_decides test [] i x e h = absurd cc
one_decides test (y ∷ xs) zero x e h =
    let same : y ≡ x = cc in
    let rest : list_all test xs ≡ true = all_pass test xs (λ j z f. h (suc j) z (λ n. absurd (omega arith)) f) in
    ap (λ (b : Bool). test y && b) rest ∙ and_true (test y) ∙ ap test same
  where
    and_true : (b : Bool) → (b && true) ≡ b
    and_true true = refl
    and_true false = refl
one_decides test (y ∷ xs) (suc i) x e h =
    ap (λ (b : Bool). b && list_all test xs) (h 0 y (λ n. absurd (omega arith)) refl) ∙ one_decides test xs i x e (λ j z n f. h (suc j) z (λ m. n (let s : j ≡ i = omega arith in s)) f)

-- a ruling of a decision that isn't picked leaves each state
pub leaves_unpicked : (state : ArcState) (r : Ruling) → leaves None state r ≡ true
leaves_unpicked state r = refl

leaves_another : (state : ArcState) (r : Ruling) (d : ℕ) → d ≢ r.decision → leaves (Some d) state r ≡ true
leaves_another state r d n = ap (λ (b : Bool). not b || allows r.allow state) (ne_eqb d r.decision n)

leaves_picked : (state : ArcState) (r : Ruling) (d : ℕ) → d ≡ r.decision → leaves (Some d) state r ≡ allows r.allow state
leaves_picked state r d e = ap (λ (b : Bool). not b || allows r.allow state) (eq-eqb d r.decision e)

-- the pick of each ruling's group is that of the first
picked_alike : (pick : ℕ → Option ℕ) (rulings : List Ruling) (i : ℕ) (r : Ruling) → AreInOrder rulings → slice_get rulings i ≡ Some r → pick r.group ≡ pick_for pick rulings
picked_alike pick [] i r o e = absurd cc
picked_alike pick (first ∷ rulings) i r o e = ap pick (o.group i 0 r first e refl)

pub none_says : (pick : ℕ → Option ℕ) (state : ArcState) (rulings : List Ruling) → AreInOrder rulings → pick_for pick rulings ≡ None → true ≡ all_leave pick state rulings
none_says pick state rulings o e =
    sym (all_pass (λ r. leaves (pick r.group) state r) rulings (λ i r f. ap (λ p. leaves p state r) (picked_alike pick rulings i r o f ∙ e)))

-- no ruling is of the decision
pub another_says : (pick : ℕ → Option ℕ) (state : ArcState) (rulings : List Ruling) (d : ℕ) → AreInOrder rulings → pick_for pick rulings ≡ Some d
    → ((i : ℕ) (r : Ruling) → slice_get rulings i ≡ Some r → d ≢ r.decision) → true ≡ all_leave pick state rulings
another_says pick state rulings d o e n =
    sym (all_pass (λ r. leaves (pick r.group) state r) rulings (λ i r f. ap (λ p. leaves p state r) (picked_alike pick rulings i r o f ∙ e) ∙ leaves_another state r d (n i r f)))

-- this ruling is of the decision
pub it_says : (pick : ℕ → Option ℕ) (state : ArcState) (rulings : List Ruling) (d i : ℕ) (r : Ruling) → AreInOrder rulings → pick_for pick rulings ≡ Some d
    → slice_get rulings i ≡ Some r → d ≡ r.decision → allows r.allow state ≡ all_leave pick state rulings
it_says pick state rulings d i r o e at is =
    let here : leaves (pick r.group) state r ≡ allows r.allow state = ap (λ p. leaves p state r) (picked_alike pick rulings i r o at ∙ e) ∙ leaves_picked state r d is in
    sym (one_decides (λ s. leaves (pick s.group) state s) rulings i r at
    (λ j s n f. ap (λ p. leaves p state s) (picked_alike pick rulings j s o f ∙ e) ∙ leaves_another state s d (apart j s n f))
    ∙ here)
  where
    apart : (j : ℕ) (s : Ruling) → j ≢ i → slice_get rulings j ≡ Some s → d ≢ s.decision
    apart j s n f same = elim (cases_order j i) [
      | inl alike ↦ n alike
      | inr (inl below) ↦ let more = o.decisions j i s r below f at in omega (arith, more, is, same)
      | inr (inr above) ↦ let more = o.decisions i j r s above at f in omega (arith, more, is, same)
    ]

-- ---- a binary search by the decision
abbrev of_decision : ℕ → Ruling → Ordering
of_decision d r = nat_cmp r.decision d

-- what was found is of the decision
found_decision : (d : ℕ) (r : Ruling) → nat_cmp r.decision d ≡ Equal → d ≡ r.decision
found_decision d r e = let t = subst (λ (o : Ordering). MatchOrdering o (r.decision < d) (r.decision ≡ d) (d < r.decision)) e (ranks r.decision d) in omega (arith, t)

pub found_says : (pick : ℕ → Option ℕ) (state : ArcState) (rulings : List Ruling) (d i : ℕ) (none : Ruling) → AreInOrder rulings → pick_for pick rulings ≡ Some d
    → i < length rulings → IsBinarySearchResult (of_decision d) rulings (Ok i) → allows (get_or rulings i none).allow state ≡ all_leave pick state rulings
found_says pick state rulings d i none o e l found =
    it_says pick state rulings d i (get_or rulings i none) o e (slice_get-get_or rulings i none l) (found_decision d (get_or rulings i none) (found none))

-- what was not found is nowhere
higher : (d a b : ℕ) → a ≤ b → ordering_index (nat_cmp a d) ≤ ordering_index (nat_cmp b d)
higher d a b le = grind (arith, tests)

risen : (rulings : List Ruling) (i j : ℕ) (none : Ruling) → AreInOrder rulings → i ≤ j → j < length rulings → (get_or rulings i none).decision ≤ (get_or rulings j none).decision
risen rulings i j none o le l = elim (cases_order i j) [
  | inl same ↦ let e = ap (λ (k : ℕ). (get_or rulings k none).decision) same in omega (arith, e)
  | inr (inl below) ↦ let s = o.decisions i j (get_or rulings i none) (get_or rulings j none) below (slice_get-get_or rulings i none (omega (arith, le, l))) (slice_get-get_or rulings j none l) in omega (arith, s)
  | inr (inr above) ↦ absurd (omega (arith, above, le))
]

missed_at : (rulings : List Ruling) (d place : ℕ) → AreInOrder rulings → IsBinarySearchResult (of_decision d) rulings (Err place) → (i : ℕ) (r : Ruling) → slice_get rulings i ≡ Some r → d ≢ r.decision
missed_at rulings d place o missed i r at same =
    let l = slice_get_within rulings i r at in
    let here : get_or rulings i r ≡ r = get_or_from_slice_get rulings i r r at in
    let parted = missed (λ a b none le within. higher d _ _ (risen rulings a b none o le within)) in
    let equal : nat_cmp (get_or rulings i r).decision d ≡ Equal = sym (nat_cmp_is (get_or rulings i r).decision d Equal (ap (λ (x : Ruling). x.decision) here ∙ sym same)) in
    elim (cases_lt i place) [
      | inl before ↦ absurd (let f : Less ≡ Equal = sym (parted.0 i r (omega arith) before) ∙ equal in cc)
      | inr after ↦ absurd (let f : Greater ≡ Equal = sym (parted.1 i r after l) ∙ equal in cc)
    ]

pub missed_says : (pick : ℕ → Option ℕ) (state : ArcState) (rulings : List Ruling) (d place : ℕ) → AreInOrder rulings → pick_for pick rulings ≡ Some d
    → IsBinarySearchResult (of_decision d) rulings (Err place) → true ≡ all_leave pick state rulings
missed_says pick state rulings d place o e missed = another_says pick state rulings d o e (missed_at rulings d place o missed)

-- ---- the word for an arc of a problem
-- no rulings leave each state
pub unruled : (picks : List (Option ℕ)) (groups : List Group) (a : ℕ) (state : ArcState) (rulings : List Ruling) → rulings ≡ rulings_at groups a → slice_get rulings 0 ≡ None → true ≡ picks_allow groups picks a state
unruled picks groups a state rulings e none = empty rulings none ∙ ap (all_leave (pick_in picks) state) e ∙ sym (words_leave groups picks a state)
  where
    empty : (rulings : List Ruling) → slice_get rulings 0 ≡ None → true ≡ all_leave (pick_in picks) state rulings
    empty [] h = refl
    empty (r ∷ rs) h = absurd cc

-- the pick of the first ruling's group is the one that counts
first_pick : (pick : ℕ → Option ℕ) (rulings : List Ruling) (r : Ruling) → slice_get rulings 0 ≡ Some r → pick_for pick rulings ≡ pick r.group
first_pick pick [] r e = absurd cc
first_pick pick (s ∷ rulings) r e = let same : s ≡ r = cc in ap (λ (x : Ruling). pick x.group) same

pub ruled : (picks : List (Option ℕ)) (groups : List Group) (a : ℕ) (state : ArcState) (rulings : List Ruling) (r : Ruling) (word : Option Allow) (pick : Option ℕ) → rulings ≡ rulings_at groups a → slice_get rulings 0 ≡ Some r
    → pick ≡ pick_in picks r.group → ((pick_of : ℕ → Option ℕ) (state : ArcState) → pick_for pick_of rulings ≡ pick → word_allows word state ≡ all_leave pick_of state rulings)
    → word_allows word state ≡ picks_allow groups picks a state
ruled picks groups a state rulings r word pick e first is says =
    says (pick_in picks) state (first_pick (pick_in picks) rulings r first ∙ sym is) ∙ ap (all_leave (pick_in picks) state) e ∙ sym (words_leave groups picks a state)
