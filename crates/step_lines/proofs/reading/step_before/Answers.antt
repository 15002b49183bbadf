use Rattle.std.proofs.Common.{◌≡◌, to_z, of_z, to_z-of_z, ℤ, FitsSigned, sym, subst}
use Rattle.std.specs.Int.{w128}
use Rattle.line_text.proofs.LongNumbers.{from_fits}
use Rattle.step_lines.specs.Fronts.{IsStepBefore}
use Rattle.step_lines.proofs.Spelled.{step_text}
use Rattle.step_lines.proofs.reading.step_before.Goals as goal

pub returns : goal.returns
returns c =
    let value = c.in_ok-value.value in
    let small : FitsSigned w128 value = from_fits value c.in_ok-value.ensures.fits in
    let same : to_z w128 (of_z w128 value) ≡ value = to_z-of_z small in
    subst
    (λ (z : ℤ). IsStepBefore c.args.bytes.now (record { var = c.in_ok-var.var; low = c.in_ok-low.low; value = z; rule = c.in_ok-rule.rule; place = c.in_ok-place.place }) c.in_ok-place.rest.now)
    (sym same)
    (step_text (record { var = c.in_ok-var.var; low = c.in_ok-low.low; value = value; rule = c.in_ok-rule.rule; place = c.in_ok-place.place })
    c.args.bytes.now c.in_ok-low.rest.now c.in_ok-var.rest.now c.in_ok-value.rest.now c.in_ok-rule.rest.now c.in_ok-place.rest.now
    c.in_ok-low.ensures c.in_ok-var.ensures.text c.in_ok-value.ensures.text c.in_ok-rule.ensures c.in_ok-place.ensures.text
    c.in_ok-var.ensures.fits c.in_ok-value.ensures.fits c.in_ok-place.ensures.fits)
