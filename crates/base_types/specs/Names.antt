-- Names and their places in a list of names.
use Rattle.std.specs.Prelude.{◌≡◌, ℕ, List, Bool, Option, map, position}
use Rattle.std.specs.List.{list_any}
use Rattle.std.specs.Str.{bytes_eq}
use denote.Bor.{Bor}

-- the texts of borrowed keys
abbrev pub texts : List (Bor (List ℕ)) → List (List ℕ)
texts ks = map (λ k. k.now) ks

-- the place of a name in a list of names
abbrev pub place : List (List ℕ) → List ℕ → Option ℕ
place names id = position (bytes_eq id) names

-- whether a name is among these
abbrev pub is_among : List (List ℕ) → List ℕ → Bool
is_among names id = list_any (bytes_eq id) names

-- the same names are among both lists
abbrev pub SameNames : List (List ℕ) → List (List ℕ) → Type 0
SameNames xs ys = (id : List ℕ) → is_among xs id ≡ is_among ys id
