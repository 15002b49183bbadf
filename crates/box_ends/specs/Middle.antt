-- The middle of two ends.
use Rattle.std.specs.Prelude.{ℤ, pos, ◌+ℤ◌}
use Rattle.std.specs.Int.{int_div_euclid}
use Rattle.gas_model.specs.declared.rows.Ends.{Ends}

-- half of both ends, rounded down
abbrev pub middle : Ends → ℤ
middle e = int_div_euclid (e.lo +ℤ e.hi) (pos 2)
