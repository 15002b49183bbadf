-- The limits of numbers.
use Rattle.std.specs.Prelude.{ℕ, ◌&&◌, ◌^◌, Bool, ℤ, pos, negsuc, int_le}

-- the greatest flow or supply either way, in l/h
abbrev pub most_flow : ℕ
most_flow = 10 ^ 12

-- the greatest squared pressure, in Pa^2
abbrev pub most_square : ℕ
most_square = 10 ^ 16

-- the greatest tolerance, in Pa^2
abbrev pub most_tolerance : ℕ
most_tolerance = 10 ^ 16

-- how many boxes a search may split at the most
abbrev pub most_boxes : ℕ
most_boxes = 16384

abbrev pub between : ℤ → ℤ → ℤ → Bool
between low x high = int_le low x && int_le x high

-- a pressure bound, in Pa
abbrev pub is_pressure : ℤ → Bool
is_pressure x = between (pos 0) x (pos 100000000)

-- a difference of pressures, a loss, a rise or the least pressure before an active arc, in Pa
abbrev pub is_difference : ℤ → Bool
is_difference x = between (pos 0) x (pos 400000000)

-- a flow or a supply, in l/h
abbrev pub is_flow : ℤ → Bool
is_flow x = between (negsuc 999999999999) x (pos most_flow)

-- a squared pressure, in Pa^2
abbrev pub is_square : ℤ → Bool
is_square x = between (pos 0) x (pos most_square)

-- a number of a resistance
abbrev pub is_drag_part : ℤ → Bool
is_drag_part x = between (pos 1) x (pos 274877906944)

-- a number of a ratio
abbrev pub is_ratio_part : ℤ → Bool
is_ratio_part x = between (pos 1) x (pos 1048576)
