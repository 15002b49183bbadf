use Rattle.std.proofs.Common.{◌≡◌, ◌++◌, map, take}
use Rattle.line_text.specs.Numerals.{signed_numeral}
use Rattle.flat_text.specs.Spelling.{spaced}
use Rattle.flat_text.proofs.writing.put_values.Given as goal

abbrev pub invariant-loop-number : goal.invariant-loop-number
invariant-loop-number l = l.out ≡ l.initial.out ++ spaced (map signed_numeral (take l.number-index l.numbers))
