-- How far the law of a pipe or a resistor may be off, in Pa^2.
use Rattle.std.specs.Prelude.{ℕ}

-- where nothing is said
abbrev pub default_tolerance : ℕ
default_tolerance = 100000000

-- at most
abbrev pub most_tolerance : ℕ
most_tolerance = 10000000000000000
