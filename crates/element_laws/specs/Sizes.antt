-- The numbers that the formulas of the laws take, in units of up to a sixteenth.
use Rattle.std.specs.Prelude.{◌+◌, ◌*◌, ◌^◌, ℕ, ℤ, pos, negsuc, Bool, IsTrue}
use Rattle.gas_model.specs.declared.rows.Ends.{Ends}
use Rattle.base_types.specs.declared.variables.Var.{Var}
use Rattle.base_types.specs.declared.variables.Var.TheVariants.{Flow, Square}
use Rattle.base_types.specs.Numbers.{between}
use Rattle.gas_model.specs.BoxLimits.{IsScale, AreLimited}
use Rattle.integer_laws.specs.Sizes.{IsWithin}

-- the greatest flow of a box, and one more, in sixteenths of a l/h
abbrev pub most_flow : ℕ
most_flow = 16 * (10 ^ 12 + 1)

-- a squared pressure that is off by the greatest tolerance, and one more or less, in sixteenths of a Pa^2
abbrev pub is_wide_square : ℤ → Bool
is_wide_square s = between (negsuc 15) s (pos (32 * 10 ^ 16 + 16))

-- a difference of pressures of up to 16 * 10^8
abbrev pub is_wide_difference : ℤ → Bool
is_wide_difference d = between (pos 0) d (pos (16 * 10 ^ 8))

-- a value of a variable that the formulas take
abbrev pub IsSafe : Var → ℤ → Type 0
IsSafe (Flow a) C = IsWithin most_flow C
IsSafe (Square n) C = IsTrue (is_wide_square C)

-- ends of a flow, and ends of a square, that they take
pub record AreSafeFlows (e : Ends) : Type 0 where
  pub lo : IsWithin most_flow e.lo
  pub hi : IsWithin most_flow e.hi

pub record AreSafeSquares (e : Ends) : Type 0 where
  pub lo : IsTrue (is_wide_square e.lo)
  pub hi : IsTrue (is_wide_square e.hi)

-- ends of a variable that they take
abbrev pub AreSafe : Var → Ends → Type 0
AreSafe (Flow a) e = AreSafeFlows e
AreSafe (Square n) e = AreSafeSquares e

-- the formulas take all ends that a box may have
abbrev pub BoxEndsAreSafe : Type 0
BoxEndsAreSafe = (K : ℤ) (var : Var) (e : Ends) → IsScale K → AreLimited K var e → AreSafe var e
