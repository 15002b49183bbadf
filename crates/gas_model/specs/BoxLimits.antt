-- How far the ends of a box go, in units of 1/K.
use Rattle.std.specs.Prelude.{◌≡◌, ◌⊎◌, ◌^◌, ℤ, pos, neg_ℤ, ◌+ℤ◌, ◌-ℤ◌, ◌*ℤ◌, ◌≤ℤ◌}
use Rattle.gas_model.specs.declared.rows.Ends.{Ends}
use Rattle.base_types.specs.declared.variables.Var.{Var}
use Rattle.base_types.specs.declared.variables.Var.TheVariants.{Flow, Square}

-- a box counts ones or sixteenths
abbrev pub IsScale : ℤ → Type 0
IsScale K = (K ≡ pos 1) ⊎ (K ≡ pos 16)

-- ends of values from least to most, where the lower one may lie one above most, and the upper one one below least
pub record LieWithin (least most : ℤ) (e : Ends) : Type 0 where
  pub low_from : least ≤ℤ e.lo
  pub low_to : e.lo ≤ℤ (most +ℤ pos 1)
  pub high_from : (least -ℤ pos 1) ≤ℤ e.hi
  pub high_to : e.hi ≤ℤ most

-- a flow lies within 10^12 l/h either way
abbrev pub AreFlowEnds : ℤ → Ends → Type 0
AreFlowEnds K e = LieWithin (neg_ℤ (K *ℤ pos (10 ^ 12))) (K *ℤ pos (10 ^ 12)) e

-- a squared pressure lies from 0 to 10^16 Pa^2
abbrev pub AreSquareEnds : ℤ → Ends → Type 0
AreSquareEnds K e = LieWithin (pos 0) (K *ℤ pos (10 ^ 16)) e

-- the limits of the ends of a variable
abbrev pub AreLimited : ℤ → Var → Ends → Type 0
AreLimited K (Flow a) e = AreFlowEnds K e
AreLimited K (Square n) e = AreSquareEnds K e
