-- The first law of a list that a test refuses, part by part.
use Rattle.std.proofs.Common.{◌≡◌, ℕ, zero, suc, ◌+◌, ◌<◌, refl, sym, ap, ◌∙◌, arith, List, [], ◌∷◌, ◌++◌, map, Bool, true, false, IsTrue, add-zero, append_assoc}
use Rattle.std.specs.List.{list_all, range_with_len}
use Rattle.std.proofs.lemmas.Bool.{and_from}
use Rattle.std.proofs.lemmas.List.Folds.{list_all-append}
use Rattle.element_laws.specs.declared.broken.Broken.{Broken}
use Rattle.element_laws.specs.FirstBroken.{laws_for, IsFirstRefused}

-- it stands in the first part
pub first_left : (test : Broken → Bool) (xs ys : List Broken) (law : Broken) → IsFirstRefused test xs law → IsFirstRefused test (xs ++ ys) law
first_left test xs ys law f = record {
  earlier = f.earlier;
  later = f.later ++ ys;
  order = ap (λ (l : List Broken). l ++ ys) f.order ∙ append_assoc f.earlier (law ∷ f.later) ys;
  kept = f.kept;
  broken = f.broken;
}

-- it stands behind the first part, which the test passes
pub first_right : (test : Broken → Bool) (xs ys : List Broken) (law : Broken) → list_all test xs ≡ true → IsFirstRefused test ys law → IsFirstRefused test (xs ++ ys) law
first_right test xs ys law h f = record {
  earlier = xs ++ f.earlier;
  later = f.later;
  order = ap (λ (l : List Broken). xs ++ l) f.order ∙ sym (append_assoc xs f.earlier (law ∷ f.later));
  kept = list_all-append test xs f.earlier ∙ and_from (list_all test xs) (list_all test f.earlier) h f.kept;
  broken = f.broken;
}

-- ---- one part: a law for each row, from the row a on
kept_from : (test : Broken → Bool) (law : ℕ → Broken) (a n : ℕ) → ((i : ℕ) → i < n → IsTrue (test (law (a + i)))) → list_all test (map law (range_with_len a n)) ≡ true
kept_from test law a zero h = refl
kept_from test law a (suc n) h =
    let here : test (law a) ≡ true = ap (λ (i : ℕ). test (law i)) (sym (add-zero a)) ∙ h 0 (omega arith) in
    and_from (test (law a)) (list_all test (map law (range_with_len (a + 1) n))) here
    (kept_from test law (a + 1) n (λ i l. ap (λ (j : ℕ). test (law j)) (let e : a + 1 + i ≡ a + suc i = omega arith in e) ∙ h (suc i) (omega arith)))

first_from : (test : Broken → Bool) (law : ℕ → Broken) (a n i j : ℕ) → j ≡ a + i → i < n → test (law j) ≡ false → ((k : ℕ) → k < i → IsTrue (test (law (a + k)))) → IsFirstRefused test (map law (range_with_len a n)) (law j)
first_from test law a zero i j e l b h = absurd (omega arith)
first_from test law a (suc n) zero j e l b h = record {
  earlier = [];
  later = map law (range_with_len (a + 1) n);
  order = ap (λ (i : ℕ). law i ∷ map law (range_with_len (a + 1) n)) (let s : a ≡ j = omega arith in s);
  kept = refl;
  broken = b;
}
first_from test law a (suc n) (suc i) j e l b h =
    let here : test (law a) ≡ true = ap (λ (k : ℕ). test (law k)) (sym (add-zero a)) ∙ h 0 (omega arith) in
    let f = first_from test law (a + 1) n i j (omega arith) (omega arith) b (λ k m. ap (λ (z : ℕ). test (law z)) (let s : a + 1 + k ≡ a + suc k = omega arith in s) ∙ h (suc k) (omega arith)) in
    record {
      earlier = law a ∷ f.earlier;
      later = f.later;
      order = ap (λ (laws : List Broken). law a ∷ laws) f.order;
      kept = and_from (test (law a)) (list_all test f.earlier) here f.kept;
      broken = f.broken;
    }

pub all_kept : (test : Broken → Bool) (law : ℕ → Broken) (n : ℕ) → ((i : ℕ) → i < n → IsTrue (test (law i))) → list_all test (laws_for law n) ≡ true
all_kept test law n h = kept_from test law 0 n (λ i l. ap (λ (j : ℕ). test (law j)) (let e : 0 + i ≡ i = omega arith in e) ∙ h i l)

pub first_of : (test : Broken → Bool) (law : ℕ → Broken) (n i : ℕ) → i < n → test (law i) ≡ false → ((k : ℕ) → k < i → IsTrue (test (law k))) → IsFirstRefused test (laws_for law n) (law i)
first_of test law n i l b h = first_from test law 0 n i i (omega arith) l b (λ k m. ap (λ (j : ℕ). test (law j)) (let e : 0 + k ≡ k = omega arith in e) ∙ h k m)
