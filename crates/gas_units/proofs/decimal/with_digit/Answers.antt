use Rattle.std.proofs.Common.{rules}
use Rattle.gas_units.proofs.Sizes.{digit_bounds, digit_value_is}
use Rattle.gas_units.proofs.decimal.with_digit.Goals as goal

pub returns : goal.returns
returns c = let d = digit_bounds c.args.b c.requires.digit in rw (digit_value_is c.args.b d.0 d.1) (search rules)
