-- An arc to which states are left though all groups are picked is loose.
use Rattle.std.proofs.Common.{◌≡◌, ◌≢◌, ℕ, zero, suc, ◌+◌, ◌<◌, Bool, true, false, cond, not, ◌&&◌, List, [], ◌∷◌, ◌++◌, filter, length, Option, Some, None, refl, sym, subst, ◌∙◌, ◌⊎◌, inl, inr, arith, get_or}
use Rattle.std.proofs.lemmas.Bool.{and_parts, and_from}
use Rattle.std.proofs.lemmas.Bool.Decides.{nat_tests}
use Rattle.std.proofs.lemmas.List.Folds.{list_all-append}
use Rattle.std.specs.Prelude.{slice_get, is_none, is_some}
use Rattle.std.specs.List.{list_all}
use Rattle.std.specs.Option.{option_or}
use Rattle.base_types.specs.declared.states.Allow.{Allow}
use Rattle.gas_model.specs.declared.rows.ArcRow.{ArcRow}
use Rattle.base_types.specs.declared.states.ArcState.{ArcState}
use Rattle.gas_model.specs.declared.rows.Decision.{Decision}
use Rattle.gas_model.specs.declared.rows.Group.{Group}
use Rattle.gas_model.specs.declared.rows.PartState.{PartState}
use Rattle.gas_model.specs.Rows.{Network}
use Rattle.gas_model.specs.Choices.{states_of, only, allows, words_in, words_if, words_for, words_allow, picks_allow, allowed_states, fixed_state, named_state}
use Rattle.search_reach.specs.Depth.{fixes, is_in_group, is_fixed_by, is_loose, loose_from}
use Rattle.search_order.proofs.Members.{Member}
use Rattle.tree_pool.proofs.Lists.{there}
use Rattle.search_reach.proofs.Filters.{fewer}
use Rattle.nom_search.proofs.Runs.{filter_short}

-- a decision is picked for the group k
pub record IsPicked (groups : List Group) (picks : List (Option ℕ)) (k : ℕ) : Type 0 where
  pub decision : ℕ
  pub group : Group
  pub pick : get_or picks k None ≡ Some decision
  pub row : slice_get groups k ≡ Some group
  pub within : decision < length group.decisions

none_of_some : {A : Type 0} (x : A) → None ≡ Some x → ⊥
none_of_some x h = cc

-- words of two lists
both_allow : (state : ArcState) (xs ys : List Allow) → words_allow state (xs ++ ys) ≡ true → (words_allow state xs ≡ true) × (words_allow state ys ≡ true)
both_allow state xs ys h = and_parts _ _ (sym (list_all-append (λ word. allows word state) xs ys) ∙ h)

-- what all picked decisions allow, each one does
rest_allow : (state : ArcState) (g : Group) (groups : List Group) (pick : Option ℕ) (picks : List (Option ℕ)) (a : ℕ)
    → words_allow state (words_for (g ∷ groups) (pick ∷ picks) a) ≡ true → words_allow state (words_for groups picks a) ≡ true
rest_allow state g groups None picks a h = h
rest_allow state g groups (Some j) picks a h = (both_allow state (words_if (slice_get g.decisions j) a) (words_for groups picks a) h).1

pub pick_allows : (state : ArcState) (groups : List Group) (picks : List (Option ℕ)) (k a : ℕ) (g : Group) (j : ℕ) (d : Decision)
    → get_or picks k None ≡ Some j → slice_get groups k ≡ Some g → slice_get g.decisions j ≡ Some d
    → words_allow state (words_for groups picks a) ≡ true → words_allow state (words_in d a) ≡ true
pick_allows state [] picks k a g j d pick row here h = absurd (none_of_some g row)
pick_allows state (x ∷ groups) [] k a g j d pick row here h = absurd (none_of_some j pick)
pick_allows state (x ∷ groups) (None ∷ picks) zero a g j d pick row here h = absurd (none_of_some j pick)
pick_allows state (x ∷ groups) (Some i ∷ picks) zero a g j d pick row here h =
    let same : x ≡ g = cc row in
    let number : i ≡ j = cc pick in
    let there2 : slice_get x.decisions i ≡ Some d = (rw (same, number) here) in
    let all : words_allow state (words_if (slice_get x.decisions i) a) ≡ true = (both_allow state (words_if (slice_get x.decisions i) a) (words_for groups picks a) h).0 in
    subst (λ (o : Option Decision). words_allow state (words_if o a) ≡ true) there2 all
pick_allows state (x ∷ groups) (o ∷ picks) (suc k) a g j d pick row here h = pick_allows state groups picks k a g j d pick row here (rest_allow state x groups o picks a h)

only_one : (xs : List ArcState) → is_some (only xs) ≡ true → length xs ≡ 1
only_one [] h = absurd cc
only_one (x ∷ []) h = refl
only_one (x ∷ (y ∷ xs)) h = absurd cc

not_one : (xs : List ArcState) → is_none (only xs) ≡ true → length xs ≢ 1
not_one [] h = omega arith
not_one (x ∷ []) h = absurd cc
not_one (x ∷ (y ∷ xs)) h = omega arith

left_none : {A : Type 0} (x y : Option A) → is_none (option_or x y) ≡ true → (is_none x ≡ true) × (is_none y ≡ true)
left_none None y h = (refl, h)
left_none (Some x) y h = absurd cc

item_of : {A : Type 0} (t : A → Bool) (xs : List A) (k : ℕ) (x : A) → list_all t xs ≡ true → slice_get xs k ≡ Some x → t x ≡ true
item_of t [] k x all at = absurd (none_of_some x at)
item_of t (y ∷ xs) zero x all at = let e : y ≡ x = cc at in subst (λ z. t z ≡ true) e (and_parts _ _ all).0
item_of t (y ∷ xs) (suc k) x all at = item_of t xs k x (and_parts _ _ all).1 at

true_or : (b : Bool) → (b ≡ true) ⊎ (b ≡ false)
true_or true = inl refl
true_or false = inr refl

-- where not all pass, one fails
one_fails_by : {A : Type 0} (t : A → Bool) (x : A) (xs : List A) → (list_all t xs ≡ false → (k : ℕ) × (y : A) × (slice_get xs k ≡ Some y) × (t y ≡ false))
    → (b : Bool) → t x ≡ b → (b && list_all t xs) ≡ false → (k : ℕ) × (y : A) × (slice_get (x ∷ xs) k ≡ Some y) × (t y ≡ false)
one_fails_by t x xs rest true e h = let z = rest h in (suc z.0, z.1, z.2, z.3)
one_fails_by t x xs rest false e h = (0, x, refl, e)

one_fails : {A : Type 0} (t : A → Bool) (xs : List A) → list_all t xs ≡ false → (k : ℕ) × (x : A) × (slice_get xs k ≡ Some x) × (t x ≡ false)
one_fails t [] h = absurd cc
one_fails t (x ∷ xs) h = one_fails_by t x xs (one_fails t xs) (t x) refl h

not_false : (b : Bool) → not b ≡ false → b ≡ true
not_false true h = refl
not_false false h = absurd cc

slice_lt : {A : Type 0} (xs : List A) (k : ℕ) (x : A) → slice_get xs k ≡ Some x → k < length xs
slice_lt [] k x h = absurd (none_of_some x h)
slice_lt (y ∷ xs) zero x h = omega arith
slice_lt (y ∷ xs) (suc k) x h = let e = slice_lt xs k x h in omega arith

module _ (p : Network) (part : PartState) (a : ℕ) (row : ArcRow) (picked : (k : ℕ) → k < length p.groups → IsPicked p.groups part.picks k)
    (free : is_none (fixed_state p part a row) ≡ true) (some : 0 < length (allowed_states p part a row)) where
  abbrev left : ArcState → Bool
  left state = picks_allow p.groups part.picks a state

  abbrev by_word : Decision → ArcState → Bool
  by_word d state = words_allow state (words_in d a)

  two_left : length (filter left (states_of row.kind)) ≢ 1
  two_left =
      not_one (filter left (states_of row.kind))
      (left_none (named_state part.states a) (only (filter left (states_of row.kind))) (left_none (only (states_of row.kind)) _ free).1).1

  many : 1 < length (states_of row.kind)
  many = let a = filter_short left (states_of row.kind) in let b = two_left in let c = some in omega arith

  -- no group fixes it
  fixed_by_none : (k : ℕ) (g : Group) → slice_get p.groups k ≡ Some g → is_fixed_by a row g ≡ true → ⊥
  fixed_by_none k g at fixed =
      let z = picked k (slice_lt p.groups k g at) in
      let same : z.group ≡ g = (let e = z.row in cc) in
      let within : z.decision < length g.decisions = subst (λ (x : Group). z.decision < length x.decisions) same z.within in
      let d = there g.decisions z.decision within in
      let fixed_here = item_of (fixes a row) g.decisions z.decision d.0 (and_parts (is_in_group a g) (list_all (fixes a row) g.decisions) fixed).1 d.1 in
      let one = only_one (filter (by_word d.0) (states_of row.kind)) fixed_here in
      let le = fewer left (by_word d.0) (states_of row.kind) (λ state h. pick_allows state p.groups part.picks k a g z.decision d.0 z.pick at d.1 h) in
      let b = two_left in
      let c = some in
      omega arith

  pub loose : is_loose p a row ≡ true
  loose =
      and_from _ _ (let e = many in grind (arith, nat_tests))
      (elim (true_or (list_all (λ g. not (is_fixed_by a row g)) p.groups)) [
        | inl e ↦ e
        | inr e ↦
            let z = one_fails (λ g. not (is_fixed_by a row g)) p.groups e in
            absurd (fixed_by_none z.0 z.1 z.2 (not_false (is_fixed_by a row z.1) z.3))
      ])

-- a loose arc is among the loose arcs
now_or : (b : Bool) (a : ℕ) (xs : List ℕ) (x : ℕ) → Member x xs → Member x (cond b (a ∷ xs) xs)
now_or true a xs x h = inr h
now_or false a xs x h = h

pub listed : (p : Network) (k : ℕ) (rows : List ArcRow) (i : ℕ) (row : ArcRow) → slice_get rows i ≡ Some row → is_loose p (k + i) row ≡ true → Member (k + i) (loose_from p k rows)
listed p k [] i row at loose = absurd (none_of_some row at)
listed p k (x ∷ rows) zero row at loose =
    let same : x ≡ row = cc at in
    let place : k + 0 ≡ k = omega arith in
    let here : is_loose p k x ≡ true = (rw (same, ← place) loose) in
    subst (λ (n : ℕ). Member n (loose_from p k (x ∷ rows))) (sym place) (rw here (inl refl))
listed p k (x ∷ rows) (suc i) row at loose =
    let place : (k + 1) + i ≡ k + suc i = omega arith in
    let rest = listed p (k + 1) rows i row at (subst (λ (n : ℕ). is_loose p n row ≡ true) (sym place) loose) in
    now_or (is_loose p k x) k (loose_from p (k + 1) rows) (k + suc i) (subst (λ (n : ℕ). Member n (loose_from p (k + 1) rows)) place rest)
