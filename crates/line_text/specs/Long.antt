-- Positions of 32 bits, and numbers of 128 bits.
use Rattle.std.specs.Prelude.{ℕ, ◌-◌, ◌^◌, nat_lt, int_le, ◌&&◌, List, Bool, if◌then◌else◌, Option, Some, None, option_map, ℤ, pos, negsuc}
use Rattle.line_text.specs.Numerals.{natural, integer}

-- below 2^32
abbrev pub fits_position : ℕ → Bool
fits_position n = nat_lt n (2 ^ 32)

-- from -2^127 to 2^127 - 1
abbrev pub fits_long : ℤ → Bool
fits_long z = int_le (negsuc (2 ^ 127 - 1)) z && int_le z (pos (2 ^ 127 - 1))

-- what a word's number is where it fits, and none where it doesn't
abbrev pub fitting : {A : Type 0} → (A → Bool) → A → Option A
fitting fits n = if fits n then Some n else None

-- the position that a word is; none within where the word is a number, but one that doesn't fit
abbrev pub position_at : List ℕ → Option (Option ℕ)
position_at word = option_map (fitting fits_position) (natural word)

-- the number that a word is, likewise
abbrev pub long_at : List ℕ → Option (Option ℤ)
long_at word = option_map (fitting fits_long) (integer word)
