use Rattle.std.proofs.Common.{◌≡◌, ◌<◌, ◌≤◌, ◌+◌, ◌*◌, ◌-◌, length, get_or, true, sym, ap, subst, ◌∙◌, arith}
use Rattle.std.specs.Char.{is_ascii_digit}
use Rattle.step_lines.specs.Fronts.{AreDigits}
use Rattle.step_lines.proofs.Spelled.{one_more, small}
use Rattle.step_lines.proofs.digits.digits_in.Goals as goal

pub loop-digit-preserved : goal.loop-digit-preserved
loop-digit-preserved c =
    let i = c.loop-digit.digit-index in
    let lt : i < length c.args.front.now = omega arith in
    let is : is_ascii_digit (get_or c.args.front.now i 0) ≡ true = sym c.is_ascii_digit.ensures.value ∙ c.if-not-is_ascii_digit.false in
    let size : c.loop-digit.size * 10 + c.from.result ≡ c.loop-digit.size * 10 + (get_or c.args.front.now i 0 - 48) = ap (λ k. c.loop-digit.size * 10 + k) c.from.ensures in
    record {
      digits = subst (AreDigits c.args.front.now (i + 1)) (sym size) (one_more c.args.front.now i c.loop-digit.size lt c.loop-digit.invariant.digits is);
      len = omega (arith, c.loop-digit.invariant.len);
    }

pub overflow_mul-size : goal.overflow_mul-size
overflow_mul-size c =
    let room : c.loop-digit.digit-index ≤ 17 = omega arith in
    let below = small c.args.front.now c.loop-digit.digit-index c.loop-digit.size room c.loop-digit.invariant.digits in
    omega (arith, below)

pub overflow_add-size : goal.overflow_add-size
overflow_add-size c =
    let room : c.loop-digit.digit-index ≤ 17 = omega arith in
    let below = small c.args.front.now c.loop-digit.digit-index c.loop-digit.size room c.loop-digit.invariant.digits in
    let byte : get_or c.args.front.now c.loop-digit.digit-index 0 < 256 = omega (arith, c.type_inv.front c.loop-digit.digit-index) in
    omega (arith, below, byte, c.from.ensures)
