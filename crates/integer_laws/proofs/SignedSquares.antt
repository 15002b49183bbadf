-- Signed squares, by the sign of the number.
use Rattle.std.proofs.Common.{◌≡◌, zero, suc, refl, arith, ℤ, pos, negsuc, ◌*ℤ◌, ◌≤ℤ◌, neg_ℤ}
use Rattle.std.proofs.lemmas.Int.{ints}
use Rattle.integer_laws.specs.Products.{signed_square}
use Rattle.integer_laws.proofs.Ring.{linear, mul_neg}

pub signed_forward : (z : ℤ) → pos 0 ≤ℤ z → signed_square z ≡ z *ℤ z
signed_forward (pos n) h = refl
signed_forward (negsuc n) h = absurd (omega (arith, ints))

pub signed_back : (z : ℤ) → z ≤ℤ pos 0 → signed_square z ≡ neg_ℤ (z *ℤ z)
signed_back (pos zero) h = refl
signed_back (pos (suc n)) h = absurd (omega (arith, ints))
signed_back (negsuc n) h = omega (arith, linear, mul_neg (negsuc n) (pos (suc n)))
