use Rattle.std.proofs.Common.{ℕ, List, ◌≢◌, ◌<◌, ◌≤◌, ◌∷◌, ◌++◌, length, get_or, refl, sym, ap, subst, ◌∙◌, arith}
use Rattle.line_text.specs.Numerals.{numeral}
use Rattle.step_lines.specs.Fronts.{AreDigits}
use Rattle.step_lines.proofs.Spelled.{of_front, number_text}
use Rattle.step_lines.proofs.digits.number_front.Goals as goal

pub returns : goal.returns
returns c =
    let bytes = c.args.bytes.now in
    let d = c.digits_in-digits.result in
    let inside : d.len ≤ c.min.result = omega (arith, c.digits_in-digits.ensures.within, c.split_at.ensures.front_len) in
    let are : AreDigits bytes d.len d.size =
    of_front bytes c.min.result d.len d.size inside (subst (λ (xs : List ℕ). AreDigits xs d.len d.size) c.split_at.ensures.front c.digits_in-digits.ensures.digits) in
    let within : d.len < length bytes = omega (arith, inside, c.min.ensures, c.if-len-bytes.false) in
    let some : d.len ≢ 0 = λ e. omega (arith, e) in
    number_text bytes d.len d.size (get_or bytes d.len 0) are within some refl (c.leads.ensures c.if-not-leads.false)
    ∙ ap (λ r. numeral d.size ++ (get_or bytes d.len 0) ∷ r) (sym c.split_at-2.ensures.back)
