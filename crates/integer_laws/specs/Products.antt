-- What is said of products of whole numbers: their sizes, and their order by a positive factor.
use Rattle.std.specs.Prelude.{ℕ, ◌*◌, ℤ, pos, ◌*ℤ◌, ◌≤ℤ◌, ◌↔◌, unsigned_abs}
use Rattle.integer_laws.specs.Sizes.{IsWithin}

-- the size of a product is at most the product of the sizes
abbrev pub SizesMultiply : Type 0
SizesMultiply = (a b : ℤ) (m n : ℕ) → IsWithin m a → IsWithin n b → IsWithin (m * n) (a *ℤ b)

-- products by a factor of at least 1 are in the order of what is multiplied
abbrev pub PositiveFactorsCancel : Type 0
PositiveFactorsCancel = (k a b : ℤ) → pos 1 ≤ℤ k → ((k *ℤ a) ≤ℤ (k *ℤ b)) ↔ (a ≤ℤ b)

-- a number times its size: the square with the sign of the number
abbrev pub signed_square : ℤ → ℤ
signed_square z = z *ℤ pos (unsigned_abs z)
