use Rattle.line_text.specs.Long.{fits_long, fitting}
use Rattle.line_text.proofs.LongNumbers.{long_gone}
use Rattle.line_text.proofs.Numbers.{integer_spelled, integer_read}
use Rattle.std.proofs.Common.{sym}
use Rattle.line_text.proofs.long.long_at.Goals as goal

pub returns-in-Some-clause-spelled : goal.returns-in-Some-clause-spelled
returns-in-Some-clause-spelled c = integer_spelled (fitting fits_long) c.args.word.now _ c.long_of.ensures

pub returns-in-Some-clause-read : goal.returns-in-Some-clause-read
returns-in-Some-clause-read c = integer_read (fitting fits_long) c.args.word.now _ c.long_of.ensures

pub returns-in-None-clause-spelled : goal.returns-in-None-clause-spelled
returns-in-None-clause-spelled c = integer_spelled (fitting fits_long) c.args.word.now _ (long_gone c.args.word.now (sym c.in-None.ensures.exact))
