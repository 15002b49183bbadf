use Rattle.std.proofs.Common.{◌≡◌}
use Rattle.step_lines.specs.Fronts.{AreDigits}
use Rattle.step_lines.proofs.digits.digits_in.Given as goal

abbrev pub invariant-loop-digit : goal.invariant-loop-digit
invariant-loop-digit l = record { digits : AreDigits l.front l.digit-index l.size; len : l.len ≡ l.digit-index }
