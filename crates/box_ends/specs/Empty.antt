-- Whether a box leaves a value to each variable.
use Rattle.std.specs.Prelude.{◌≤ℤ◌, ◌<ℤ◌, IsTrue}
use Rattle.base_types.specs.declared.variables.Var.{Var}
use Rattle.gas_model.specs.Boxes.{Bounds, ends_of, is_in_box}

-- no lower end is above its upper end
abbrev pub LeavesAll : Bounds → Type 0
LeavesAll b = (v : Var) → IsTrue (is_in_box b v) → (ends_of b v).lo ≤ℤ (ends_of b v).hi

-- the variable is one of the box, and its lower end is above its upper end
pub record LeavesNone (b : Bounds) (v : Var) : Type 0 where
  pub inside : IsTrue (is_in_box b v)
  pub crossed : (ends_of b v).hi <ℤ (ends_of b v).lo
