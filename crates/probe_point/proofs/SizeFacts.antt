-- Sizes of products.
use Rattle.std.proofs.Common.{ℕ, ◌≤◌, ◌^◌, arith, ℤ, pos, ◌*ℤ◌, FitsSigned}
use Rattle.std.specs.Int.{w128}
use Rattle.integer_laws.specs.Sizes.{IsWithin}
use Rattle.integer_laws.proofs.SizeLemmas.{product_within, within_fits}

pub drag_size : (a b : ℤ) → IsWithin (2 ^ 39) a → IsWithin (10 ^ 24) b → IsWithin (10 ^ 36) (a *ℤ b)
drag_size a b h k = let p = product_within a b (2 ^ 39) (10 ^ 24) h k in omega arith

pub loss_size : (a b : ℤ) → IsWithin 400000000 a → IsWithin (2 ^ 64) b → IsWithin (10 ^ 28) (a *ℤ b)
loss_size a b h k = let p = product_within a b 400000000 (2 ^ 64) h k in omega arith

pub twice_size : (a b : ℤ) → IsWithin 400000000 a → IsWithin (2 ^ 64) b → IsWithin (10 ^ 30) (pos 2 *ℤ (a *ℤ b))
twice_size a b h k = let p = product_within (pos 2) (a *ℤ b) 2 (10 ^ 28) (omega arith) (loss_size a b h k) in omega arith

pub fits_in : (m : ℕ) (z : ℤ) → m ≤ 10 ^ 37 → IsWithin m z → FitsSigned w128 z
fits_in m z le h = within_fits m z h (omega arith)
