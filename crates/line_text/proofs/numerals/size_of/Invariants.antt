use Rattle.line_text.proofs.Sizes.{Passed}
use Rattle.line_text.proofs.numerals.size_of.Given as goal

abbrev pub invariant-loop-digit : goal.invariant-loop-digit
invariant-loop-digit l = Passed l.digits l.digit-index l.size
