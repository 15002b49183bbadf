-- Where a line ends.
use Rattle.std.specs.Prelude.{◌≡◌, ℕ, ◌==◌, not, List, true}
use Rattle.std.specs.List.{list_all}

-- no line feed stands among the bytes
abbrev pub HasNoFeed : List ℕ → Type 0
HasNoFeed bytes = list_all (λ b. not (b == 10)) bytes ≡ true
