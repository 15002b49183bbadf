use Rattle.std.proofs.Common.{◌≡◌, ap, ◌∙◌}
use Rattle.std.specs.Prelude.{option_map, option_and_then}
use Rattle.std.specs.Int.{w64, saturate_signed}
use Rattle.line_text.specs.Numerals.{up_to_max, below_zero, number_at}
use Rattle.line_text.proofs.Numbers.{read_minus, read_plain, integer_spelled, integer_read}
use Rattle.line_text.proofs.numerals.number_at.Goals as goal
use Rattle.line_text.proofs.numerals.number_at.Goals.{After-below_zero, After-up_to_max}

after_minus : (c : After-below_zero) → c.below_zero.result ≡ number_at c.args.word.now
after_minus c = c.below_zero.ensures ∙ ap (option_and_then below_zero) c.size_at.ensures.exact ∙ read_minus c.args.word.now c.in-Some.digits.now c.in-Some.ensures

plain : (c : After-up_to_max) → c.up_to_max.result ≡ number_at c.args.word.now
plain c = c.up_to_max.ensures ∙ ap (option_map up_to_max) c.size_at-in-None.ensures.exact ∙ read_plain c.args.word.now c.in-None.ensures

pub returns-in-Some-clause-exact : goal.returns-in-Some-clause-exact
returns-in-Some-clause-exact c = after_minus c

pub returns-in-Some-clause-spelled : goal.returns-in-Some-clause-spelled
returns-in-Some-clause-spelled c = integer_spelled (saturate_signed w64) c.args.word.now _ (after_minus c)

pub returns-in-Some-clause-read : goal.returns-in-Some-clause-read
returns-in-Some-clause-read c = integer_read (saturate_signed w64) c.args.word.now _ (after_minus c)

pub returns-in-None-clause-exact : goal.returns-in-None-clause-exact
returns-in-None-clause-exact c = plain c

pub returns-in-None-clause-spelled : goal.returns-in-None-clause-spelled
returns-in-None-clause-spelled c = integer_spelled (saturate_signed w64) c.args.word.now _ (plain c)

pub returns-in-None-clause-read : goal.returns-in-None-clause-read
returns-in-None-clause-read c = integer_read (saturate_signed w64) c.args.word.now _ (plain c)
