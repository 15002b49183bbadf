-- Picks that are in range, group after group.
use Rattle.std.proofs.Common.{◌≡◌, ℕ, ◌<◌, List, length, Some}
use Rattle.std.specs.Prelude.{slice_get}
use Rattle.gas_model.specs.declared.rows.Group.{Group}

-- the first k picks are in range
abbrev pub AreInRange : List Group → List ℕ → ℕ → Type 0
AreInRange groups picks k = (i : ℕ) (g : Group) (j : ℕ) → i < k → slice_get groups i ≡ Some g → slice_get picks i ≡ Some j → j < length g.decisions
