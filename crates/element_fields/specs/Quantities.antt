-- Quantities: a child element with a value and a unit, checked in order.
use Rattle.std.specs.Prelude.{ℕ, not, List, Bool, true, if◌then◌else◌, Option, Some, None, Result, Ok, Err, ℤ, pos, negsuc, ◌≤ℤ◌, int_le, codes}
use Rattle.base_types.specs.Numbers.{is_flow, is_pressure}
use Rattle.gas_units.specs.declared.decimal.Decimal.{Decimal}
use Rattle.gas_units.specs.declared.decimal.NumFault.{NumFault}
use Rattle.gas_units.specs.declared.grid.Unit.{Unit}
use Rattle.gas_units.specs.declared.grid.Unit.TheVariants.{Bar, Barg, Pa, KiloCube, Cube}
use Rattle.gas_units.specs.declared.grid.Side.{Side}
use Rattle.gas_units.specs.declared.grid.Side.TheVariants.{Down, Up}
use Rattle.gas_units.specs.Decimals.{read_decimal}
use Rattle.gas_units.specs.Grid.{read_unit, grid_value}
use Rattle.tag_outline.specs.declared.outline.Element.{Element}
use Rattle.file_faults.specs.declared.outline.FileFault.{FileFault}
use Rattle.file_faults.specs.declared.outline.FileFault.TheVariants as fault
use Rattle.element_fields.specs.declared.quantity.Sort.{Sort}
use Rattle.element_fields.specs.declared.quantity.Sort.TheVariants.{Flow, Pressure, Difference}
use Rattle.element_fields.specs.Answers.{◌>>=◌, found_or}
use Rattle.element_fields.specs.Lookup.{value_of, Placed, child}
use Rattle.element_fields.specs.Names.{label}

-- ---- units
abbrev pub flow_unit : Unit → Option Unit
flow_unit KiloCube = Some KiloCube
flow_unit Cube = Some Cube
flow_unit Bar = None
flow_unit Barg = None
flow_unit Pa = None

abbrev pub pressure_unit : Unit → Option Unit
pressure_unit Bar = Some Bar
pressure_unit Barg = Some Barg
pressure_unit Pa = Some Pa
pressure_unit KiloCube = None
pressure_unit Cube = None

-- between two pressures the normal pressure of the air counts for nothing
abbrev pub difference_unit : Unit → Option Unit
difference_unit Bar = Some Bar
difference_unit Barg = Some Bar
difference_unit Pa = Some Pa
difference_unit KiloCube = None
difference_unit Cube = None

abbrev pub as_sort : Sort → Option Unit → Option Unit
as_sort sort None = None
as_sort Flow (Some u) = flow_unit u
as_sort Pressure (Some u) = pressure_unit u
as_sort Difference (Some u) = difference_unit u

-- the unit that a word names for a sort of quantity
abbrev pub unit_of : Sort → List ℕ → Option Unit
unit_of sort word = as_sort sort (read_unit word)

-- ---- limits
abbrev pub flow_within : ℤ → Option ℤ
flow_within q = if is_flow q then Some q else None

-- below 0 counts as 0
abbrev pub lower_within : ℤ → Option ℤ
lower_within q = if not (int_le (pos 0) q) then Some (pos 0) else if int_le q (pos 100000000) then Some q else None

abbrev pub upper_within : ℤ → Option ℤ
upper_within q = if is_pressure q then Some q else None

-- the bound on a side that a whole grid value gives, where it lies within its limits
abbrev pub within : Sort → Side → ℤ → Option ℤ
within Flow side q = flow_within q
within Pressure Down q = lower_within q
within Pressure Up q = upper_within q
within Difference Down q = lower_within q
within Difference Up q = upper_within q

-- the same for a value past -10^18 or 10^18
abbrev pub far_within : Sort → Side → Bool → Option ℤ
far_within Pressure Down true = Some (pos 0)
far_within Difference Down true = Some (pos 0)
far_within sort side negative = None

-- the bound on a side where none is given: the widest within the limits
abbrev pub default_of : Sort → Side → ℤ
default_of Flow Down = negsuc 999999999999
default_of Flow Up = pos 1000000000000
default_of Pressure Down = pos 0
default_of Pressure Up = pos 100000000
default_of Difference Down = pos 0
default_of Difference Up = pos 100000000

-- the limits of a bound
abbrev pub IsLimited : Sort → ℤ → Type 0
IsLimited Flow z = (negsuc 999999999999 ≤ℤ z) × (z ≤ℤ pos 1000000000000)
IsLimited Pressure z = (pos 0 ≤ℤ z) × (z ≤ℤ pos 100000000)
IsLimited Difference z = (pos 0 ≤ℤ z) × (z ≤ℤ pos 100000000)

abbrev pub AreLimited : Sort → ℤ × ℤ → Type 0
AreLimited sort b = IsLimited sort b.0 × IsLimited sort b.1

-- ---- checks
abbrev pub decimal_or : FileFault → Result Decimal NumFault → Result Decimal FileFault
decimal_or e (Ok v) = Ok v
decimal_or e (Err f) = Err e

-- the value and the unit of a quantity of an element that is called so
unfoldable pub quantity_in : Sort → List ℕ → Element → Result (Decimal × Unit) FileFault
quantity_in sort called q = do
  value ← found_or (fault.Missing called q.name) (value_of (codes "value") q.attributes)
  word ← found_or (fault.Missing called q.name) (value_of (codes "unit") q.attributes)
  unit ← found_or (fault.BadUnit called q.name) (unit_of sort word)
  number ← decimal_or (fault.BadValue called q.name) (read_decimal value)
  Ok (number, unit)

abbrev pub bound_from : Sort → Side → List ℕ → Element → Decimal × Unit → Result ℤ FileFault
bound_from sort side called q x = found_or (fault.TooLarge called q.name) (within sort side (grid_value side x.0 x.1))

-- the bound that it gives on a side: a lower one rounded down, an upper one up
unfoldable pub bound_in : Sort → Side → List ℕ → Element → Result ℤ FileFault
bound_in sort side called q = quantity_in sort called q >>= bound_from sort side called q

-- the lower and the upper bound that it gives
unfoldable pub bounds_in : Sort → List ℕ → Element → Result (ℤ × ℤ) FileFault
bounds_in sort called q = do
  x ← quantity_in sort called q
  low ← bound_from sort Down called q x
  high ← bound_from sort Up called q x
  Ok (low, high)

abbrev pub or_default : ℤ → (Element → Result ℤ FileFault) → Option Placed → Result ℤ FileFault
or_default default read None = Ok default
or_default default read (Some q) = read q.0

-- the bound on a side that the first child of a name gives
abbrev pub bound_of : Sort → Side → List ℕ → Element → List Element → Result ℤ FileFault
bound_of sort side name e below = or_default (default_of sort side) (bound_in sort side (label e)) (child e.depth name below)
