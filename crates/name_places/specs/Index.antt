-- Different names, and the place of each by an ordered map.
use Rattle.std.specs.Prelude.{ℕ, List, position, ◌≡◌}
use Rattle.std.specs.Str.{bytes_eq}
use Rattle.std.specs.BTreeMap.{BTreeMap}
use Rattle.name_places.specs.ByName.{look}
use denote.Bor.{Bor}

-- the map has the first place of each name of a list, and no other name
abbrev pub IsIndexOf : BTreeMap (Bor (List ℕ)) ℕ → List (List ℕ) → Type 0
IsIndexOf m names = (id : List ℕ) → look m id ≡ position (bytes_eq id) names
