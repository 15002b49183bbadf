-- Whole numbers of any size as text: `0`, or digits with no zero in front, after a `-` where the number is below 0.
use Rattle.std.specs.Prelude.{ℕ, suc, zero, ◌+◌, ◌-◌, ◌^◌, ◌&&◌, ◌||◌, ◌==◌, min, not, List, [], ◌∷◌, length, map, slice_index, Bool, if◌then◌else◌, Option, Some, None, option_map, option_and_then, ℤ, pos, negsuc}
use Rattle.std.specs.Char.{is_ascii_digit}
use Rattle.std.specs.Int.{w64, saturate_signed}
use Rattle.std.specs.Int.Digits.{digits_of}
use Rattle.std.specs.List.{list_all}
use Rattle.std.specs.Str.Parse.{digits_value}

-- the one text of a number of any size
unfoldable pub numeral : ℕ → List ℕ
numeral zero = 48 ∷ []
numeral (suc n) = map (λ d. 48 + d) (digits_of 10 (suc n))

abbrev pub signed_numeral : ℤ → List ℕ
signed_numeral (pos n) = numeral n
signed_numeral (negsuc n) = 45 ∷ numeral (suc n)

-- digits with no needless zero in front
abbrev pub is_numeral : List ℕ → Bool
is_numeral ds = list_all is_ascii_digit ds && not (length ds == 0) && (not (slice_index ds 0 == 48) || (length ds == 1))

-- at least one byte, of which the first is no needless zero
abbrev pub begins_well : List ℕ → Bool
begins_well ds = not (length ds == 0) && (not (slice_index ds 0 == 48) || (length ds == 1))

-- the number that digits are, of any size
abbrev pub natural : List ℕ → Option ℕ
natural ds = if is_numeral ds then Some (digits_value 10 ds) else None

-- minus a size, which isn't 0
abbrev pub minus : ℕ → Option ℤ
minus zero = None
minus (suc n) = Some (negsuc n)

-- the number that a word is, of any size
abbrev pub integer : List ℕ → Option ℤ
integer [] = None
integer (c ∷ ds) = if c == 45 then option_and_then minus (natural ds) else option_map (λ n. pos n) (natural (c ∷ ds))

-- the nearest numbers of 64 bits
abbrev pub up_to_max : ℕ → ℤ
up_to_max n = saturate_signed w64 (pos n)

abbrev pub below_zero : ℕ → Option ℤ
below_zero n = option_map (saturate_signed w64) (minus n)

-- the number that digits write, whatever stands in front, up to the greatest of 64 bits
abbrev pub size_of : List ℕ → Option ℕ
size_of ds = if list_all is_ascii_digit ds then Some (min (digits_value 10 ds) (2 ^ 64 - 1)) else None

-- the number that digits are; one past 64 bits counts as the greatest of 64 bits
abbrev pub size_at : List ℕ → Option ℕ
size_at word = option_map (λ n. min n (2 ^ 64 - 1)) (natural word)

-- the number that a word is; one past 64 bits counts as the nearest of 64 bits
abbrev pub number_at : List ℕ → Option ℤ
number_at word = option_map (saturate_signed w64) (integer word)
