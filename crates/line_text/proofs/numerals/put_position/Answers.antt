use Rattle.std.proofs.Common.{◌≡◌, ◌++◌, ℕ, List, subst, sym, ◌∙◌, arith}
use Rattle.std.specs.Prelude.{OnOk}
use Rattle.line_text.proofs.Decimals.{numeral_is_decimal}
use Rattle.line_text.proofs.numerals.put_position.Goals as goal

pub returns-clause-ok : goal.returns-clause-ok
returns-clause-ok c =
    let text = c.as_bytes.ensures.value ∙ c.format.ensures.text ∙ sym (numeral_is_decimal c.args.position (omega (arith, c.ranges.position.fits))) in
    subst (λ (t : List ℕ). OnOk c.append.result (c.append.new.self ≡ c.args.out.now ++ t)) text c.append.ensures.ok
