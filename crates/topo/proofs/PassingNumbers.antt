-- The numbers below a bound that pass a test, in order.
use Rattle.std.proofs.Common.{◌≡◌, ℕ, zero, suc, ◌<◌, ◌+◌, ◌==◌, ◌&&◌, ◌||◌, refl, inl, inr, sym, ap, ◌∙◌, arith, Bool, true, false, subst, List, [], ◌∷◌, ◌++◌, length, get_or, cond}
use Rattle.std.specs.Prelude.{nat_lt}
use Rattle.std.specs.List.{list_any}
use Rattle.std.proofs.lemmas.Bool.{cases_eq}
use Rattle.std.proofs.lemmas.Bool.Decides.{nat_tests}
use Rattle.std.proofs.lemmas.List.{get_or_push, get_or_append_left, length_push, append_assoc, append-nil}
use Rattle.std.proofs.lemmas.List.Folds.{list_any-append}
use Rattle.gas_model.specs.declared.rows.ArcRow.{ArcRow}
use Rattle.gas_model.specs.Points.{touches, arcs_from, arcs_at}
use Rattle.topo.specs.Graphs.{graph_of, no_arc, is_at, Lists}
use Rattle.topo.specs.Walks.{those}

-- where the last number passes it stands at the end
those_yes : (q : ℕ → Bool) (k : ℕ) → q k ≡ true → those q (suc k) ≡ those q k ++ k ∷ []
those_yes q k t = ap (λ (b : Bool). those q k ++ cond b (k ∷ []) []) t

those_no : (q : ℕ → Bool) (k : ℕ) → q k ≡ false → those q (suc k) ≡ those q k
those_no q k t = ap (λ (b : Bool). those q k ++ cond b (k ∷ []) []) t ∙ append-nil (those q k)

-- what the numbers are, one more at a time
pub record Those (q : ℕ → Bool) (k : ℕ) (xs : List ℕ) : Type 0 where
  pub passes : (i : ℕ) → i < length xs → (get_or xs i 0 < k) × (q (get_or xs i 0) ≡ true)
  pub ascending : (i j : ℕ) → i < j → j < length xs → get_or xs i 0 < get_or xs j 0
  pub complete : (a : ℕ) → a < k → q a ≡ true → (i : ℕ) × (i < length xs) × (get_or xs i 0 ≡ a)

those_push : (q : ℕ → Bool) (k : ℕ) (xs : List ℕ) → q k ≡ true → Those q k xs → Those q (suc k) (xs ++ k ∷ [])
those_push q k xs t s =
    let long : length (xs ++ k ∷ []) ≡ length xs + 1 = length_push xs k in
    let last : get_or (xs ++ k ∷ []) (length xs) 0 ≡ k = get_or_push xs k 0 (length xs) refl in
    let old : (i : ℕ) → i < length xs → get_or (xs ++ k ∷ []) i 0 ≡ get_or xs i 0 = λ i h. get_or_append_left xs (k ∷ []) 0 i h in
    record {
      passes = λ i h. elim (cases_eq i (length xs)) [
        | inl e ↦ let here : get_or (xs ++ k ∷ []) i 0 ≡ k = ap (λ (j : ℕ). get_or (xs ++ k ∷ []) j 0) e ∙ last in (omega arith, ap q here ∙ t)
        | inr e ↦ let o = old i (omega arith) in let p = s.passes i (omega arith) in (let lt = p.0 in omega arith, ap q o ∙ p.1)
      ];
      ascending = λ i j h hj. let o = old i (omega arith) in elim (cases_eq j (length xs)) [
        | inl e ↦ let here : get_or (xs ++ k ∷ []) j 0 ≡ k = ap (λ (m : ℕ). get_or (xs ++ k ∷ []) m 0) e ∙ last in let lt = (s.passes i (omega arith)).0 in omega arith
        | inr e ↦ let o2 = old j (omega arith) in let lt = s.ascending i j h (omega arith) in omega arith
      ];
      complete = λ a h e. elim (cases_eq a k) [
        | inl e1 ↦ (length xs, omega arith, last ∙ sym e1)
        | inr e1 ↦ let c = s.complete a (omega arith) e in (c.0, (let lt = c.1 in omega arith), old c.0 c.1 ∙ c.2)
      ];
    }

those_same : (q : ℕ → Bool) (k : ℕ) (xs : List ℕ) → q k ≡ false → Those q k xs → Those q (suc k) xs
those_same q k xs t s = record {
  passes = λ i h. let p = s.passes i h in (let lt = p.0 in omega arith, p.1);
  ascending = s.ascending;
  complete = λ a h e. elim (cases_eq a k) [ inl e1 ↦ absurd (clash (sym (ap q e1 ∙ t) ∙ e)) | inr e1 ↦ s.complete a (omega arith) e ];
}
  where
    clash : false ≡ true → ⊥
    clash e = cc

pub those_are : (q : ℕ → Bool) (k : ℕ) → Those q k (those q k)
those_are q zero = record { passes = λ i h. absurd (omega arith); ascending = λ i j h hj. absurd (omega arith); complete = λ a h e. absurd (omega arith) }
those_are q (suc k) =
    let cases : (b : Bool) → q k ≡ b → Those q (suc k) (those q (suc k)) = λ b. elim b as (λ b. q k ≡ b → Those q (suc k) (those q (suc k))) [
      | true ↦ λ t. subst (Those q (suc k)) (sym (those_yes q k t)) (those_push q k (those q k) t (those_are q k))
      | false ↦ λ t. subst (Those q (suc k)) (sym (those_no q k t)) (those_same q k (those q k) t (those_are q k))
    ] in cases (q k) refl

pub those_below : (q : ℕ → Bool) (k i : ℕ) → i < length (those q k) → get_or (those q k) i 0 < k
those_below q k i h = ((those_are q k).passes i h).0

-- they list what the test stands for
pub those_list : (q : ℕ → Bool) (k : ℕ) (P : ℕ → Type 0) → ((a : ℕ) → a < k → q a ≡ true → P a) → ((a : ℕ) → P a → (a < k) × (q a ≡ true)) → Lists (those q k) P
those_list q k P f h =
    let s = those_are q k in
    record {
      ascending = s.ascending;
      sound = λ i lt. let p = s.passes i lt in f _ p.0 p.1;
      complete = λ a x. let p = h a x in s.complete a p.0 p.1;
    }

pub those_like : (p q : ℕ → Bool) (k : ℕ) → ((a : ℕ) → a < k → p a ≡ q a) → those p k ≡ those q k
those_like p q zero e = refl
those_like p q (suc k) e =
    ap (λ (xs : List ℕ). xs ++ cond (p k) (k ∷ []) []) (those_like p q k (λ a h. e a (omega arith))) ∙ ap (λ (b : Bool). those q k ++ cond b (k ∷ []) []) (e k (omega arith))

-- a number is among them where it passes
pub any_those : (q : ℕ → Bool) (k a : ℕ) → list_any (λ c. c == a) (those q k) ≡ (nat_lt a k && q a)
any_those q zero a = grind (arith, nat_tests)
any_those q (suc k) a =
    let one : (b : Bool) → list_any (λ c. c == a) (cond b (k ∷ []) []) ≡ (b && (k == a)) = λ b. elim b as (λ b. list_any (λ c. c == a) (cond b (k ∷ []) []) ≡ (b && (k == a))) [ true ↦ grind (arith, nat_tests) | false ↦ refl ] in
    let both : list_any (λ c. c == a) (those q (suc k)) ≡ ((nat_lt a k && q a) || (q k && (k == a))) = list_any-append (λ c. c == a) (those q k) (cond (q k) (k ∷ []) []) ∙ ap (λ (b : Bool). b || list_any (λ c. c == a) (cond (q k) (k ∷ []) [])) (any_those q k a) ∙ ap (λ (b : Bool). (nat_lt a k && q a) || b) (one (q k)) in
    both ∙ elim (cases_eq a k) [
      | inl e ↦ let same : q a ≡ q k = ap q e in grind (arith, nat_tests)
      | inr e ↦ grind (arith, nat_tests)
    ]

-- the arcs at a node, as the rows are counted
arcs_from-those : (n i : ℕ) (q : ℕ → Bool) (rows : List ArcRow) → ((k : ℕ) → k < length rows → q (i + k) ≡ touches n (get_or rows k no_arc)) → those q i ++ arcs_from n i rows ≡ those q (i + length rows)
arcs_from-those n i q [] f = append-nil (those q i) ∙ ap (those q) {x = i} {y = i + 0} (omega arith)
arcs_from-those n i q (row ∷ rows) f =
    let here : q i ≡ touches n row = ap q {x = i} {y = i + 0} (omega arith) ∙ f 0 (omega arith) in
    let rest : List ℕ = arcs_from n (i + 1) rows in
    let moved : (b : Bool) → those q i ++ cond b (i ∷ rest) rest ≡ (those q i ++ cond b (i ∷ []) []) ++ rest = λ b. elim b as (λ b. those q i ++ cond b (i ∷ rest) rest ≡ (those q i ++ cond b (i ∷ []) []) ++ rest) [
      | true ↦ sym (append_assoc (those q i) (i ∷ []) rest)
      | false ↦ ap (λ (xs : List ℕ). xs ++ rest) (sym (append-nil (those q i)))
    ] in
    let next : those q (i + 1) ++ rest ≡ those q (i + 1 + length rows) = arcs_from-those n (i + 1) q rows (λ k h. ap q {x = i + 1 + k} {y = i + suc k} (omega arith) ∙ f (suc k) (omega arith)) in
    moved (touches n row) ∙ ap (λ (b : Bool). (those q i ++ cond b (i ∷ []) []) ++ rest) (sym here) ∙ ap (λ (k : ℕ). those q k ++ rest) {x = suc i} {y = i + 1} (omega arith) ∙ next ∙ ap (those q) {x = i + 1 + length rows} {y = i + suc (length rows)} (omega arith)

pub arcs_at-those : (rows : List ArcRow) (n : ℕ) → arcs_at rows n ≡ those (is_at (graph_of rows) n) (length rows)
arcs_at-those rows n = arcs_from-those n 0 (is_at (graph_of rows) n) rows (λ k h. ap (is_at (graph_of rows) n) {x = 0 + k} {y = k} (omega arith)) ∙ ap (those (is_at (graph_of rows) n)) {x = 0 + length rows} {y = length rows} (omega arith)
