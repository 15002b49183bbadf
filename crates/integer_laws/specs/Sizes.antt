-- How large a whole number is.
use Rattle.std.specs.Prelude.{ℕ, ◌≤◌, ℤ, unsigned_abs}

-- the size of z is at most m
abbrev pub IsWithin : ℕ → ℤ → Type 0
IsWithin m z = unsigned_abs z ≤ m
