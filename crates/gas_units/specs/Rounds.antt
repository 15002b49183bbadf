-- Whole quotients and roots, rounded down and up.
use Rattle.std.specs.Prelude.{ℕ, ◌*◌, ◌≤◌, ℤ, ◌+ℤ◌, ◌*ℤ◌, ◌≤ℤ◌, ◌<ℤ◌}

-- q is the greatest whole number with q * d ≤ n
pub record IsFloor (n d q : ℤ) : Type 0 where
  pub at_most : (q *ℤ d) ≤ℤ n
  pub greatest : n <ℤ (q *ℤ d +ℤ d)

-- q is the least whole number with n ≤ q * d
pub record IsCeiling (n d q : ℤ) : Type 0 where
  pub at_least : n ≤ℤ (q *ℤ d)
  pub least : (q *ℤ d) <ℤ (n +ℤ d)

-- r is the greatest number with r * r ≤ n
pub record IsRootDown (n r : ℕ) : Type 0 where
  pub at_most : r * r ≤ n
  pub greatest : (s : ℕ) → s * s ≤ n → s ≤ r

-- r is the least number with n ≤ r * r
pub record IsRootUp (n r : ℕ) : Type 0 where
  pub at_least : n ≤ r * r
  pub least : (s : ℕ) → n ≤ s * s → r ≤ s
