-- Places that come in going round a list.
use Rattle.std.proofs.Common.{◌≡◌, ℕ, ◌<◌, ◌≤◌, ◌+◌, ◌-◌, ◌⊎◌, inl, inr, arith}
use Rattle.std.proofs.lemmas.Bool.Decides.{nat_tests}
use Rattle.box_split.specs.Forks.{round, start}

lt_or_ge : (i t : ℕ) → (i < t) ⊎ (t ≤ i)
lt_or_ge i t = grind arith

-- the search begins within a list that isn't empty
pub begins_within : (n turn i : ℕ) → i < n → start n turn < n
begins_within n turn i h = grind (arith, nat_tests)

-- each place comes in going round
pub came_round : (n from i : ℕ) → from < n → i < n → (k : ℕ) × (k < n) × (round n from k ≡ i)
came_round n from i t h = elim (lt_or_ge i from) [
  | inl lt ↦ (i + n - from, grind arith, grind (arith, nat_tests))
  | inr ge ↦ (i - from, grind arith, grind (arith, nat_tests))
]
