-- The whole grid values next to a decimal in a unit, as fractions over a power of ten.
use Rattle.std.specs.Prelude.{◌≡◌, ℕ, suc, ◌+◌, ◌*◌, ◌^◌, ◌≤◌, ◌<◌, ◌↔◌, not, ◌&&◌, List, Bool, true, false, if◌then◌else◌, Option, Some, None, ℤ, pos, negsuc, neg_ℤ, ◌+ℤ◌, ◌≤ℤ◌, ◌<ℤ◌, codes}
use Rattle.std.specs.Int.{int_div_euclid}
use Rattle.std.specs.Str.{bytes_eq}
use Rattle.gas_units.specs.Rounds.{IsFloor, IsCeiling}
use Rattle.gas_units.specs.declared.decimal.Decimal.{Decimal}
use Rattle.gas_units.specs.declared.grid.Unit.{Unit}
use Rattle.gas_units.specs.declared.grid.Unit.TheVariants.{Bar, Barg, Pa, KiloCube, Cube}
use Rattle.gas_units.specs.declared.grid.Side.{Side}
use Rattle.gas_units.specs.declared.grid.Side.TheVariants.{Down, Up}
use Rattle.gas_units.specs.declared.grid.Size.{Size}
use Rattle.gas_units.specs.Decimals.{signed}

abbrev pub read_unit : List ℕ → Option Unit
read_unit text =
    if bytes_eq text (codes "bar") then Some Bar
    else if bytes_eq text (codes "barg") then Some Barg
    else if bytes_eq text (codes "Pa") then Some Pa
    else if bytes_eq text (codes "1000m_cube_per_hour") then Some KiloCube
    else if bytes_eq text (codes "m_cube_per_hour") then Some Cube
    else None

-- a unit's factor is a power of ten
abbrev pub unit_power : Unit → ℕ
unit_power Bar = 5
unit_power Barg = 5
unit_power Pa = 0
unit_power KiloCube = 6
unit_power Cube = 3

abbrev pub unit_offset : Unit → ℕ
unit_offset Bar = 0
unit_offset Barg = 101325
unit_offset Pa = 0
unit_offset KiloCube = 0
unit_offset Cube = 0

-- a power of ten, split into one above the line and one below it
abbrev pub up_part : ℤ → ℕ
up_part (pos n) = n
up_part (negsuc n) = 0

abbrev pub down_part : ℤ → ℕ
down_part (pos n) = 0
down_part (negsuc n) = suc n

abbrev pub place : Decimal → Unit → ℤ
place v u = v.shift +ℤ pos (unit_power u)

-- a value in grid units is num / den
abbrev pub den : Decimal → Unit → ℕ
den v u = 10 ^ down_part (place v u)

abbrev pub num : Decimal → Unit → ℤ
num v u = signed v.negative (v.digits * 10 ^ up_part (place v u)) +ℤ pos (unit_offset u * den v u)

abbrev pub Rounds : Side → ℤ → ℕ → ℤ → Type 0
Rounds Down n d q = IsFloor n (pos d) q
Rounds Up n d q = IsCeiling n (pos d) q

abbrev pub IsGrid : Side → Decimal → Unit → ℤ → Type 0
IsGrid side v u q = Rounds side (num v u) (den v u) q

abbrev pub IsWithin : ℤ → Type 0
IsWithin q = (negsuc 999999999999999999 ≤ℤ q) × (q ≤ℤ pos 1000000000000000000)

-- the whole value on that side lies outside the limits
abbrev pub HasNoGrid : Side → Decimal → Unit → Type 0
HasNoGrid side v u = (q : ℤ) → IsGrid side v u q → IsWithin q → ⊥

-- the whole value on a side, by a quotient
unfoldable pub grid_value : Side → Decimal → Unit → ℤ
grid_value Down v u = int_div_euclid (num v u) (pos (den v u))
grid_value Up v u = neg_ℤ (int_div_euclid (neg_ℤ (num v u)) (pos (den v u)))

-- it is the one whole number that rounds to that side
abbrev pub GridValueRounds : Type 0
GridValueRounds = (side : Side) (v : Decimal) (u : Unit) (q : ℤ) → IsGrid side v u q ↔ (q ≡ grid_value side v u)

-- past the limits, on the side of the decimal's sign
abbrev pub IsFar : Bool → ℤ → Type 0
IsFar true q = q <ℤ negsuc 999999999999999999
IsFar false q = pos 1000000000000000000 <ℤ q

-- the whole part of n / d, and whether nothing is left
pub record IsSize (n d : ℕ) (s : Size) : Type 0 where
  pub at_most : s.whole * d ≤ n
  pub greatest : n < s.whole * d + d
  pub exact : s.is_exact ≡ true → n ≡ s.whole * d
  pub rest : s.is_exact ≡ false → s.whole * d < n
  pub small : s.whole < 10 ^ 38

-- a value with a rest goes to the next size away from 0 on that side
abbrev pub is_away : Bool → Side → Bool
is_away negative Down = negative
is_away negative Up = not negative

abbrev pub signed_size : Bool → Side → Size → ℤ
signed_size negative side s = signed negative (if not s.is_exact && is_away negative side then s.whole + 1 else s.whole)

-- past every value of the grid, with nothing below the line
abbrev pub IsPast : Decimal → Unit → Type 0
IsPast v u = (10 ^ 19 ≤ v.digits * 10 ^ up_part (place v u)) × (down_part (place v u) ≡ 0)
