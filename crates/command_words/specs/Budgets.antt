-- How many boxes a search may split.
use Rattle.std.specs.Prelude.{ℕ, nat_le, ◌&&◌, if◌then◌else◌, Option, Some, None}

-- where nothing is said
abbrev pub default_budget : ℕ
default_budget = 256

-- at most
abbrev pub most_budget : ℕ
most_budget = 16384

-- so many, if they are one at least, and not too many
abbrev pub budget_of : ℕ → Option ℕ
budget_of boxes = if nat_le 1 boxes && nat_le boxes most_budget then Some boxes else None
