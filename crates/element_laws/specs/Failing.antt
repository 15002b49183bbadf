-- The first place at which a test fails.
use Rattle.std.specs.Prelude.{◌≡◌, ℕ, ◌<◌, List, Bool, true, false, Option, None, Some, slice_get, IsTrue}
use Rattle.std.specs.Option.{option_map_or}

-- the test of the row at a place, if there is one
abbrev pub passes_at : {X : Type 0} → (X → Bool) → List X → ℕ → Bool
passes_at test rows i = option_map_or test (slice_get rows i) true

-- of the places below n, the first at which the test fails, or none where it passes at all
abbrev pub IsFirstFailing : (ℕ → Bool) → ℕ → Option ℕ → Type 0
IsFirstFailing test n None = (i : ℕ) → i < n → IsTrue (test i)
IsFirstFailing test n (Some i) = (i < n) × (test i ≡ false) × ((k : ℕ) → k < i → IsTrue (test k))
