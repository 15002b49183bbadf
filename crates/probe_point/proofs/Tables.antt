-- Lists and functions that are given place by place.
use Rattle.std.proofs.Common.{◌≡◌, ◌≢◌, ℕ, zero, suc, ◌<◌, ◌==◌, refl, sym, ap, ◌∙◌, inl, inr, arith, cond, List, [], ◌∷◌, ◌++◌, length, get_or, length-append, ℤ, pos}
use Rattle.std.proofs.lemmas.Bool.{cases_eq}
use Rattle.std.proofs.lemmas.Bool.Decides.{eqb_tells}
use Rattle.std.proofs.lemmas.List.{get_or_push, get_or_append_left}

-- a list of n items, the item f i at the place i
pub record Table {A : Type 0} (f : ℕ → A) (none : A) (n : ℕ) : Type 0 where
  pub items : List A
  pub long : length items ≡ n
  pub at : (i : ℕ) → i < n → get_or items i none ≡ f i

pub table : {A : Type 0} (f : ℕ → A) (none : A) (n : ℕ) → Table f none n
table f none zero = record { items = []; long = refl; at = λ i h. absurd (omega arith) }
table f none (suc n) =
    let t = table f none n in
    let long : length t.items ≡ n = t.long in
    record {
      items = t.items ++ f n ∷ [];
      long = omega (arith, length-append t.items (f n ∷ []), long);
      at = λ i h. elim (cases_eq i n) [
        | inl same ↦ ap (λ (j : ℕ). get_or (t.items ++ f n ∷ []) j none) same ∙ get_or_push t.items (f n) none n long ∙ ap f (sym same)
        | inr other ↦ get_or_append_left t.items (f n ∷ []) none i (omega (arith, long)) ∙ t.at i (omega arith)
      ];
    }

-- the numbers, but x at the place a
abbrev pub put : (ℕ → ℤ) → ℕ → ℤ → ℕ → ℤ
put q a x i = cond (i == a) x (q i)

pub put_here : (q : ℕ → ℤ) (a i : ℕ) (x : ℤ) → i ≡ a → put q a x i ≡ x
put_here q a i x e = elim (eqb_tells i a) [ inl y ↦ ap (λ b. cond b x (q i)) y.0 | inr n ↦ absurd (n.1 e) ]

pub put_there : (q : ℕ → ℤ) (a i : ℕ) (x : ℤ) → i ≢ a → put q a x i ≡ q i
put_there q a i x d = elim (eqb_tells i a) [ inl y ↦ absurd (d y.1) | inr n ↦ ap (λ b. cond b x (q i)) n.0 ]

-- the numbers f a at the first k places of a list, and 0 elsewhere
abbrev pub given : (ℕ → ℤ) → List ℕ → ℕ → ℕ → ℤ
given f places zero a = pos 0
given f places (suc k) a = cond (a == get_or places k 0) (f a) (given f places k a)

pub given_at : (f : ℕ → ℤ) (places : List ℕ) (k i : ℕ) → i < k → given f places k (get_or places i 0) ≡ f (get_or places i 0)
given_at f places zero i h = absurd (omega arith)
given_at f places (suc k) i h = elim (eqb_tells (get_or places i 0) (get_or places k 0)) [
  | inl y ↦ ap (λ b. cond b (f (get_or places i 0)) (given f places k (get_or places i 0))) y.0
  | inr n ↦ elim (cases_eq i k) [
    | inl same ↦ absurd (n.1 (ap (λ (j : ℕ). get_or places j 0) same))
    | inr other ↦ ap (λ b. cond b (f (get_or places i 0)) (given f places k (get_or places i 0))) n.0 ∙ given_at f places k i (omega arith)
  ]
]

pub given_off : (f : ℕ → ℤ) (places : List ℕ) (k a : ℕ) → ((i : ℕ) → i < k → a ≢ get_or places i 0) → given f places k a ≡ pos 0
given_off f places zero a d = refl
given_off f places (suc k) a d = elim (eqb_tells a (get_or places k 0)) [
  | inl y ↦ absurd (d k (omega arith) y.1)
  | inr n ↦ ap (λ b. cond b (f a) (given f places k a)) n.0 ∙ given_off f places k a (λ i h. d i (omega arith))
]
