-- Boxes with their scale, and how far their ends go.
use Rattle.std.specs.Prelude.{ℕ, ◌<◌, ◌≤◌, ℤ, List, length, slice_index_or}
use Rattle.gas_model.specs.declared.rows.Ends.{Ends}
use Rattle.gas_model.specs.Boxes.{Bounds, no_ends}
use Rattle.gas_model.specs.BoxLimits.{IsScale, AreFlowEnds, AreSquareEnds}

-- what contracts see of a box with its scale: its ends count parts of 1/scale
pub record ScaledBounds : Type 0 where
  pub scale : ℤ
  pub bounds : Bounds

-- there are at most 2,000 of them, each within its limits
pub record AreHeld (limits : Ends → Type 0) (all : List Ends) : Type 0 where
  pub few : length all ≤ 2000
  pub each : (i : ℕ) → i < length all → limits (slice_index_or all i no_ends)

-- what each box keeps
pub record IsHeld (K : ℤ) (b : Bounds) : Type 0 where
  pub scale : IsScale K
  pub flows : AreHeld (AreFlowEnds K) b.flows
  pub squares : AreHeld (AreSquareEnds K) b.squares

-- the box with other bounds
abbrev pub with_bounds : ScaledBounds → Bounds → ScaledBounds
with_bounds b bounds = record { scale = b.scale; bounds = bounds }
