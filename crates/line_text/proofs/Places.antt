-- The first place of a byte, and the test of UTF-8.
use Rattle.std.proofs.Common.{◌≡◌, ◌≤◌, ℕ, ◌+◌, List, [], ◌∷◌, length, Bool, true, false, cond, not, position, unwrap_or, refl, arith, inl, inr}
use Rattle.std.specs.List.{prefix_len, position_or_len}
use Rattle.std.specs.Str.{IsUtf8, is_utf8}
use Rattle.std.proofs.lemmas.Str.{IsUtf8-from_is_utf8}
use Rattle.std.proofs.lemmas.Bool.{cases_lt, lt-ltb, le-ltb}

prefix_len-le : {X : Type 0} (p : X → Bool) (xs : List X) → prefix_len p xs ≤ length xs
prefix_len-le p [] = omega arith
prefix_len-le p (x ∷ xs) = elim (p x) as (λ b. cond b (1 + prefix_len p xs) 0 ≤ length (x ∷ xs)) [ true ↦ omega (arith, prefix_len-le p xs) | false ↦ omega arith ]

pub len_is : {X : Type 0} (p : X → Bool) (xs : List X) → (unwrap_or (position p xs) (length xs) ≡ position_or_len p xs) × (position_or_len p xs ≤ length xs)
len_is p xs =
    let le = prefix_len-le (λ x. not (p x)) xs in
    elim (cases_lt (position_or_len p xs) (length xs)) [
      | inl lt ↦ (rw (lt-ltb _ _ lt) refl, le)
      | inr ge ↦ (rw (le-ltb _ _ ge) (omega (arith, le, ge)), le)
    ]

pub not_utf8 : (bs : List ℕ) → (IsUtf8 bs → ⊥) → is_utf8 bs ≡ false
not_utf8 bs h = by (is_utf8 bs) refl
  where
    by : (b : Bool) → is_utf8 bs ≡ b → b ≡ false
    by true e = absurd (h (IsUtf8-from_is_utf8 bs e))
    by false e = refl
