-- The name of an element without its prefix.
use Rattle.std.specs.Prelude.{◌≡◌, ◌⊎◌, ◌==◌, ℕ, List, ◌∷◌, ◌++◌, false}
use Rattle.std.specs.List.{list_any}
use Rattle.tag_outline.specs.Outline.{local_name}

-- a name is this one, which has no `:`, or a prefix, a `:` and this one
abbrev pub IsLocalPart : List ℕ → List ℕ → Type 0
IsLocalPart name local = (list_any (λ b. b == 58) local ≡ false) × ((name ≡ local) ⊎ ((prefix : List ℕ) × (name ≡ prefix ++ 58 ∷ local)))

-- each name has one such part, and it is the one by which elements are called
abbrev pub LocalNames : Type 0
LocalNames = (name : List ℕ) → IsLocalPart name (local_name name) × ((part : List ℕ) → IsLocalPart name part → part ≡ local_name name)
