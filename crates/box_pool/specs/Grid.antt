-- The grid on which the boxes of a pool stand: sixteenths of a unit.
use Rattle.std.specs.Prelude.{ℤ, pos}
use Rattle.tree_cert.specs.declared.line.Line.{Line}
use Rattle.tree_cert.specs.declared.line.Line.TheVariants.{FirstSixteenths}

-- the parts of a unit that ends count
abbrev pub pool_scale : ℤ
pool_scale = pos 16

-- the first line of a tree
abbrev pub pool_line : Line
pool_line = FirstSixteenths
