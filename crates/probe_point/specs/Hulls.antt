-- The whole hull of a box: the whole numbers next to its ends, outward.
use Rattle.std.specs.Prelude.{◌≡◌, ℕ, ◌<◌, ℤ, List, length, slice_index_or}
use Rattle.gas_units.specs.Rounds.{IsFloor, IsCeiling}
use Rattle.gas_model.specs.declared.rows.Ends.{Ends}
use Rattle.gas_model.specs.Boxes.{no_ends}
use Rattle.probe_point.specs.Probes.{box_at}

-- the greatest whole number whose K-fold is at most the lower end, and the least whose K-fold is at least the upper end
pub record IsHull (K : ℤ) (e h : Ends) : Type 0 where
  pub low : IsFloor e.lo K h.lo
  pub high : IsCeiling e.hi K h.hi

-- the hulls of all of these
pub record AreHulls (K : ℤ) (ends hulls : List Ends) : Type 0 where
  pub count : length hulls ≡ length ends
  pub each : (i : ℕ) → i < length ends → IsHull K (slice_index_or ends i no_ends) (box_at hulls i)
