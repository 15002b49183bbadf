use Rattle.std.proofs.Common.{◌≡◌, ◌<◌, ◌-◌, ◌+◌, ◌*◌, ◌^◌, length, get_or, min, true, subst, sym, ◌∙◌, arith}
use Rattle.std.specs.Char.{is_ascii_digit}
use Rattle.line_text.proofs.Sizes.{Passed, one_more}
use Rattle.line_text.proofs.numerals.size_of.Goals as goal

pub loop-digit-preserved : goal.loop-digit-preserved
loop-digit-preserved c =
    let i = c.loop-digit.digit-index in
    let lt : i < length c.args.digits.now = omega arith in
    let is : is_ascii_digit (get_or c.args.digits.now i 0) ≡ true = sym c.is_ascii_digit.ensures.value ∙ c.if-not-is_ascii_digit.false in
    let size : c.saturating_add-size.result ≡ min (min (c.loop-digit.size * 10) (2 ^ 64 - 1) + (get_or c.args.digits.now i 0 - 48)) (2 ^ 64 - 1) = omega (arith, c.saturating_add-size.ensures, c.saturating_mul.ensures, c.from.ensures) in
    subst (Passed c.args.digits.now (i + 1)) (sym size) (one_more c.args.digits.now i c.loop-digit.size lt c.loop-digit.invariant is)
