-- The flows along a resistance whose drop a gap allows.
use Rattle.std.specs.Prelude.{◌≡◌, ℤ, int_le}
use Rattle.gas_model.specs.declared.rows.Drag.{Drag}
use Rattle.gas_model.specs.Curves.{drop_low, drop_high}

-- the least drop of a flow is at least the gap from C on
pub record IsLeastFlow (law : Drag) (gap C : ℤ) : Type 0 where
  pub is : (z : ℤ) → int_le gap (drop_low law z) ≡ int_le C z

-- the greatest drop of a flow is at most the gap up to C
pub record IsGreatestFlow (law : Drag) (gap C : ℤ) : Type 0 where
  pub is : (z : ℤ) → int_le (drop_high law z) gap ≡ int_le z C
