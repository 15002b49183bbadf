-- The Weymouth law of an arc, and the interval form that stands for it in whole numbers.
use Rattle.std.specs.Prelude.{◌≡◌, ℤ, pos, ◌-ℤ◌, ◌*ℤ◌, ◌≤ℤ◌, IsTrue}
use Rattle.gas_model.specs.declared.law_forms.PipeLaw.{PipeLaw}
use Rattle.integer_laws.specs.Products.{signed_square}
use Rattle.gas_model.specs.Curves.{meets_resistance}

-- The resistance n / m lies in the interval from lo / den to hi / den, and by it the flow q / d drops the square
-- u / d to v / d: u / d - v / d = (n / m) * (q / d) * |q / d|.
pub record IsResistance (law : PipeLaw) (d q u v n m : ℤ) : Type 0 where
  pub positive : pos 1 ≤ℤ m
  pub least : (law.drag.lo *ℤ m) ≤ℤ (n *ℤ law.drag.den)
  pub most : (n *ℤ law.drag.den) ≤ℤ (law.drag.hi *ℤ m)
  pub drop : (u -ℤ v) *ℤ m *ℤ d ≡ n *ℤ signed_square q

-- the Weymouth law holds for some resistance of the interval
abbrev pub HasResistance : PipeLaw → (d q u v : ℤ) → Type 0
HasResistance law d q u v = (n : ℤ) × (m : ℤ) × IsResistance law d q u v n m

-- numerators over one denominator that meet the interval form have a resistance
abbrev pub MetHasResistance : Type 0
MetHasResistance =
    (law : PipeLaw) (d q u v : ℤ) → law.drag.lo ≤ℤ law.drag.hi → pos 1 ≤ℤ law.drag.den → pos 1 ≤ℤ d → IsTrue (meets_resistance law d q u v) → HasResistance law d q u v

-- numerators over one denominator that have a resistance meet the interval form
abbrev pub ResistanceMeets : Type 0
ResistanceMeets =
    (law : PipeLaw) (d q u v : ℤ) → HasResistance law d q u v → IsTrue (meets_resistance law d q u v)
