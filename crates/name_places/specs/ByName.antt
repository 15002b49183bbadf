-- Values by name.
use Rattle.std.specs.Prelude.{ℕ, List, Option, Some, None, if◌then◌else◌}
use Rattle.std.specs.Ordering.{nat_cmp}
use Rattle.std.specs.Cmp.Lexicographic.{slice_cmp}
use Rattle.std.specs.Str.{bytes_eq}
use Rattle.std.specs.BTreeMap.{BTreeMap, get_by}
use denote.Bor.{Bor}

-- the value of a name
abbrev pub look : {V : Type 0} → BTreeMap (Bor (List ℕ)) V → List ℕ → Option V
look m id = get_by (λ k. slice_cmp nat_cmp id k.now) m

-- no name has a value
abbrev pub nothing : {V : Type 0} → List ℕ → Option V
nothing id = None

-- one name has this value, and no other name has one
abbrev pub only_for : {V : Type 0} → List ℕ → V → List ℕ → Option V
only_for name value id = if bytes_eq id name then Some value else None
