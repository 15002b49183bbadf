-- The sum of all widths, which each step makes smaller.
use Rattle.std.specs.Prelude.{ℕ, ◌+◌, ℤ, pos, negsuc, ◌+ℤ◌, ◌-ℤ◌, List, [], ◌∷◌}
use Rattle.gas_model.specs.declared.rows.Ends.{Ends}
use Rattle.gas_model.specs.Boxes.{Bounds}

-- a number, or 0 where it is negative
abbrev pub from_zero : ℤ → ℕ
from_zero (pos n) = n
from_zero (negsuc n) = 0

-- how many whole numbers lie between the ends
abbrev pub breadth : Ends → ℕ
breadth e = from_zero (e.hi -ℤ e.lo +ℤ pos 1)

abbrev pub breadths : List Ends → ℕ
breadths [] = 0
breadths (e ∷ es) = breadth e + breadths es

abbrev pub total : Bounds → ℕ
total b = breadths b.flows + breadths b.squares
