-- Lists of numbers.
use Rattle.std.proofs.Common.{◌≡◌, ℕ, ◌<◌, ◌*◌, ◌^◌, inl, inr, refl, sym, ◌∙◌, ap, subst, arith, IsTrue, Bool, true, List, [], ◌∷◌, ◌++◌, length, replicate, take, drop, ℤ, pos}
use Rattle.std.specs.List.{list_all}
use Rattle.std.proofs.Math.Seq.{take-append_seam}
use Rattle.std.proofs.lemmas.Bool.{cases_eq, cases_lt}
use Rattle.std.proofs.lemmas.List.Recursion.{and_from_places}
use Rattle.std.proofs.lemmas.List.{get_or-replicate, get_or_past, get_or_push, get_or_append_left, length_push, length-replicate}
use Rattle.integer_laws.specs.Sizes.{IsWithin}
use Rattle.integer_laws.proofs.Ring.{linear}
use Rattle.base_types.specs.Numbers.{is_flow, is_square}
use Rattle.gas_model.specs.Near.{number_at as at}
use Rattle.gas_model.proofs.LimitFacts.{square_size}
use Rattle.probe_point.specs.Probes.{AreSmall}
use Rattle.probe_point.specs.Squares.{AreSquares}

-- zeros are 0 at each place, and beyond
pub zero_at : (count i : ℕ) → at (replicate count (pos 0)) i ≡ pos 0
zero_at count i = elim (cases_lt i count) [
  | inl lt ↦ get_or-replicate count i (pos 0) (pos 0) lt
  | inr ge ↦ get_or_past (replicate count (pos 0)) i (pos 0) (omega (arith, length-replicate count (pos 0)))
]

pub zeros_at : (count : ℕ) (xs : List ℤ) (i : ℕ) → xs ≡ replicate count (pos 0) → at xs i ≡ pos 0
zeros_at count xs i e = ap (λ (ys : List ℤ). at ys i) e ∙ zero_at count i

pub small_zeros : (count : ℕ) (xs : List ℤ) → xs ≡ replicate count (pos 0) → AreSmall 1 xs
small_zeros count xs e i lt = subst (λ (z : ℤ). IsWithin (1 * 1000000000000) z) (sym (zeros_at count xs i e)) (omega arith)

pub square_zeros : (count : ℕ) (xs : List ℤ) → xs ≡ replicate count (pos 0) → AreSquares xs
square_zeros count xs e i lt = subst (λ (z : ℤ). IsTrue (is_square z)) (sym (zeros_at count xs i e)) refl

-- one more small number
pub small_push : (m : ℕ) (xs : List ℤ) (x : ℤ) → IsWithin (m * 1000000000000) x → AreSmall m xs → AreSmall m (xs ++ x ∷ [])
small_push m xs x h s i lt = elim (cases_lt i (length xs)) [
  | inl less ↦ subst (λ (z : ℤ). IsWithin (m * 1000000000000) z) (sym (get_or_append_left xs (x ∷ []) (pos 0) i less)) (s i less)
  | inr ge ↦ elim (cases_eq i (length xs)) [
    | inl e ↦ subst (λ (z : ℤ). IsWithin (m * 1000000000000) z) (sym (ap (at (xs ++ x ∷ [])) e ∙ get_or_push xs x (pos 0) (length xs) refl)) h
    | inr ne ↦ subst (λ (z : ℤ). IsWithin (m * 1000000000000) z) (sym (get_or_past (xs ++ x ∷ []) i (pos 0) (let l = length_push xs x in omega arith))) (omega arith)
  ]
]

-- what a vector has after a write to all of it
pub written : {X : Type 0} (n : ℕ) (new old : List X) → length new ≡ n → take n (new ++ drop (length new) old) ≡ new
written n new old e = ap (λ (k : ℕ). take k (new ++ drop (length new) old)) (sym e) ∙ take-append_seam new (drop (length new) old)

-- small numbers are flows
flow_in : (z : ℤ) → IsWithin (1 * 1000000000000) z → is_flow z ≡ true
flow_in z h = grind (arith, linear)

all_at : (test : ℤ → Bool) (xs : List ℤ) → ((i : ℕ) → i < length xs → test (at xs i) ≡ true) → list_all test xs ≡ true
all_at test xs h = and_from_places (list_all test) test refl (λ _ _. refl) xs (pos 0) h

pub small_flows : (xs : List ℤ) → AreSmall 1 xs → list_all is_flow xs ≡ true
small_flows xs s = all_at is_flow xs (λ i lt. flow_in (at xs i) (s i lt))

pub are_squares : (xs : List ℤ) → AreSquares xs → list_all is_square xs ≡ true
are_squares xs s = all_at is_square xs s

-- numbers that a setting can have
pub small_within : (xs : List ℤ) → AreSmall 1 xs → (i : ℕ) → i < length xs → IsWithin (10 ^ 16) (at xs i)
small_within xs s i lt = let h = s i lt in omega arith

pub squares_within : (xs : List ℤ) → AreSquares xs → (i : ℕ) → i < length xs → IsWithin (10 ^ 16) (at xs i)
squares_within xs s i lt = square_size (at xs i) (s i lt)
