-- How large sums and products are, and that they fit 128 bits.
use Rattle.std.proofs.Common.{◌≡◌, ◌⊎◌, ℕ, ◌+◌, ◌*◌, ◌^◌, ◌<◌, inl, inr, refl, arith, ℤ, pos, negsuc, ◌+ℤ◌, ◌-ℤ◌, ◌*ℤ◌, ◌≤ℤ◌, unsigned_abs, FitsSigned, mul-le-mul}
use Rattle.std.proofs.lemmas.Int.{unsigned_abs-mul, fits_signed_from_abs}
use Rattle.std.specs.Int.{w128}
use borrow.Author.Differences.{up, down}
use Rattle.integer_laws.specs.Sizes.{IsWithin}
use Rattle.integer_laws.specs.Products.{SizesMultiply, PositiveFactorsCancel}
use Rattle.integer_laws.proofs.Ring.{linear, mul_le_left, le_of_mul_left}

pub within_parts : (z : ℤ) → unsigned_abs z ≡ up z + down z
within_parts (pos n) = omega arith
within_parts (negsuc n) = omega arith

pub one_part : (z : ℤ) → (up z ≡ 0) ⊎ (down z ≡ 0)
one_part (pos n) = inr refl
one_part (negsuc n) = inl refl

pub within_fits : (m : ℕ) (z : ℤ) → IsWithin m z → m < 2 ^ 127 → FitsSigned w128 z
within_fits m z h k = fits_signed_from_abs w128 z (omega arith)

pub product_within : (a b : ℤ) (m n : ℕ) → IsWithin m a → IsWithin n b → IsWithin (m * n) (a *ℤ b)
product_within a b m n h k = rw (unsigned_abs-mul a b) (mul-le-mul h k)

pub sum_within : (a b : ℤ) (m n : ℕ) → IsWithin m a → IsWithin n b → IsWithin (m + n) (a +ℤ b)
sum_within a b m n h k = omega (arith, linear, within_parts, one_part (a +ℤ b))

pub difference_within : (a b : ℤ) (m n : ℕ) → IsWithin m a → IsWithin n b → IsWithin (m + n) (a -ℤ b)
difference_within a b m n h k = omega (arith, linear, within_parts, one_part (a -ℤ b))

-- a number from 0 to m
pub between_within : (m : ℕ) (z : ℤ) → pos 0 ≤ℤ z → z ≤ℤ pos m → IsWithin m z
between_within m (pos n) h k = omega (arith, linear)
between_within m (negsuc n) h k = absurd (omega (arith, linear))

-- what the crate's functions carry
pub sizes_multiply : SizesMultiply
sizes_multiply a b m n h k = product_within a b m n h k

pub positive_factors_cancel : PositiveFactorsCancel
positive_factors_cancel k a b p = (le_of_mul_left k a b (omega (arith, linear)), mul_le_left k a b (omega (arith, linear)))
