use Rattle.std.proofs.Common.{refl, sym, ◌∙◌, arith}
use Rattle.line_text.proofs.Decimals.{numeral_is_decimal}
use Rattle.make_net.proofs.names.name_of.Goals as goal

pub returns : goal.returns
returns c =
    let text = c.format.ensures.text ∙ sym (numeral_is_decimal c.args.number (omega (arith, c.ranges.number.fits))) in
    rw (c.in_ok-push_text.ensures.ok, c.in_ok-name.ensures, text) refl
