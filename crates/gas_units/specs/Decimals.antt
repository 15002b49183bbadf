-- The decimal that a text writes, or where it leaves the form.
use Rattle.std.specs.Prelude.{◌≡◌, ℕ, ◌+◌, ◌≤◌, ◌<◌, ◌++◌, ◌||◌, ◌==◌, not, nat_le, List, [], ◌∷◌, length, take, drop, position, Bool, true, false, if◌then◌else◌, Option, Some, None, Result, Ok, Err, ℤ, pos, neg_ℤ, ◌-ℤ◌}
use Rattle.std.specs.List.{list_any, filter}
use Rattle.std.specs.Char.{is_ascii_digit, is_ascii_whitespace}
use Rattle.std.specs.Str.Parse.{digits_value}
use Rattle.gas_units.specs.declared.decimal.Decimal.{Decimal}
use Rattle.gas_units.specs.declared.decimal.NumFault.{NumFault}
use Rattle.gas_units.specs.declared.decimal.NumFault.TheVariants as fault
use Rattle.gas_units.specs.declared.decimal.Mode.{Mode}
use Rattle.gas_units.specs.declared.decimal.Mode.TheVariants.{Front, Signed, Whole, Point, Part, Exponent, ExponentSign, Power, Tail}

abbrev pub is_sign : ℕ → Bool
is_sign b = b == 43 || b == 45

abbrev pub is_exponent_mark : ℕ → Bool
is_exponent_mark b = b == 101 || b == 69

-- the form: white space, a sign, digits with at most one point and at least one digit, an exponent, white space
abbrev pub next : Mode → ℕ → Option Mode
next Front b = if is_ascii_whitespace b then Some Front else if is_sign b then Some Signed else if is_ascii_digit b then Some Whole else if b == 46 then Some Point else None
next Signed b = if is_ascii_digit b then Some Whole else if b == 46 then Some Point else None
next Whole b = if is_ascii_digit b then Some Whole else if b == 46 then Some Part else if is_exponent_mark b then Some Exponent else if is_ascii_whitespace b then Some Tail else None
next Point b = if is_ascii_digit b then Some Part else None
next Part b = if is_ascii_digit b then Some Part else if is_exponent_mark b then Some Exponent else if is_ascii_whitespace b then Some Tail else None
next Exponent b = if is_sign b then Some ExponentSign else if is_ascii_digit b then Some Power else None
next ExponentSign b = if is_ascii_digit b then Some Power else None
next Power b = if is_ascii_digit b then Some Power else if is_ascii_whitespace b then Some Tail else None
next Tail b = if is_ascii_whitespace b then Some Tail else None

-- a text of the form may end here
abbrev pub is_whole : Mode → Bool
is_whole Front = false
is_whole Signed = false
is_whole Whole = true
is_whole Point = false
is_whole Part = true
is_whole Exponent = false
is_whole ExponentSign = false
is_whole Power = true
is_whole Tail = true

abbrev pub onward : (Mode → Option ℕ) → ℕ → Option Mode → Option ℕ
onward f at None = Some at
onward f at (Some m) = f m

-- the first place at which no text of the form goes on, or the end where it comes too early
abbrev pub form_fault : Mode → ℕ → List ℕ → Option ℕ
form_fault m at [] = if is_whole m then None else Some at
form_fault m at (b ∷ rest) = onward (λ k. form_fault k (at + 1) rest) at (next m b)

abbrev pub up_to : Option ℕ → List ℕ → List ℕ
up_to None bytes = bytes
up_to (Some n) bytes = take n bytes

abbrev pub past : Option ℕ → List ℕ → List ℕ
past None bytes = []
past (Some n) bytes = drop (n + 1) bytes

-- what comes before the exponent's mark, after it, and after the point
abbrev pub mantissa : List ℕ → List ℕ
mantissa bytes = up_to (position is_exponent_mark bytes) bytes

abbrev pub exponent : List ℕ → List ℕ
exponent bytes = past (position is_exponent_mark bytes) bytes

abbrev pub places : List ℕ → List ℕ
places bytes = past (position (λ b. b == 46) bytes) bytes

abbrev pub has_minus : List ℕ → Bool
has_minus bytes = list_any (λ b. b == 45) bytes

abbrev pub digit_count : List ℕ → ℕ
digit_count bytes = length (filter is_ascii_digit bytes)

abbrev pub number : List ℕ → ℕ
number bytes = digits_value 10 (filter is_ascii_digit bytes)

abbrev pub signed : Bool → ℕ → ℤ
signed negative n = if negative then neg_ℤ (pos n) else pos n

abbrev pub power_of : List ℕ → ℤ
power_of bytes = signed (has_minus bytes) (number bytes)

abbrev pub is_too_long : List ℕ → Bool
is_too_long bytes = not (nat_le (digit_count (mantissa bytes)) 30) || not (nat_le (digit_count (exponent bytes)) 2)

abbrev pub decimal_of : List ℕ → Decimal
decimal_of bytes = record { negative = has_minus (mantissa bytes); digits = number (mantissa bytes); shift = power_of (exponent bytes) -ℤ pos (digit_count (places (mantissa bytes))) }

abbrev pub formed : Option ℕ → Result Decimal NumFault → Result Decimal NumFault
formed None read = read
formed (Some at) read = Err (fault.NotDecimal at)

unfoldable pub read_decimal : List ℕ → Result Decimal NumFault
read_decimal bytes = formed (form_fault Front 0 bytes) (if is_too_long bytes then Err fault.TooLong else Ok (decimal_of bytes))

-- a text of the form
abbrev pub IsForm : List ℕ → Type 0
IsForm bytes = form_fault Front 0 bytes ≡ None

-- a fault stands within the text or at its end; what comes before it can be completed to a text of the form, and with the byte at it nothing can
abbrev pub FaultsAreFirst : Type 0
FaultsAreFirst = (bytes : List ℕ) (at : ℕ) → form_fault Front 0 bytes ≡ Some at →
    (at ≤ length bytes) × ((rest : List ℕ) × IsForm (take at bytes ++ rest)) × (at < length bytes → (rest : List ℕ) → IsForm (take (at + 1) bytes ++ rest) → ⊥)
