-- How many places a decimal has.
use Rattle.std.proofs.Common.{◌≡◌, ◌≤◌, ◌+◌, ℕ, List, Bool, true, false, not, ◌||◌, Option, Some, None, position, refl, arith}
use Rattle.std.specs.Prelude.{◌==◌, nat_le}
use Rattle.std.proofs.lemmas.Bool.{leb-true}
use Rattle.gas_units.specs.Decimals.{digit_count, places, mantissa, exponent, past, is_too_long}
use Rattle.gas_units.proofs.Sizes.{count_drop}

past_few : (o : Option ℕ) (bs : List ℕ) → digit_count (past o bs) ≤ digit_count bs
past_few None bs = omega arith
past_few (Some n) bs = count_drop (n + 1) bs

pub places_few : (bs : List ℕ) → digit_count (places bs) ≤ digit_count bs
places_few bs = past_few (position (λ b. b == 46) bs) bs

neither : (a b : Bool) → (not a || not b) ≡ false → (a ≡ true) × (b ≡ true)
neither true true e = (refl, refl)
neither true false e = absurd cc
neither false b e = absurd cc

pub long_not : (bs : List ℕ) → is_too_long bs ≡ false → (digit_count (mantissa bs) ≤ 30) × (digit_count (exponent bs) ≤ 2)
long_not bs e = let h = neither (nat_le (digit_count (mantissa bs)) 30) (nat_le (digit_count (exponent bs)) 2) e in (leb-true _ 30 h.0, leb-true _ 2 h.1)
