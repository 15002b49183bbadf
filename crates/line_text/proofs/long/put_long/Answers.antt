use Rattle.std.proofs.Common.{◌≡◌, ◌++◌, ℕ, List, subst, ap, sym, ◌∙◌, arith, rules}
use Rattle.std.specs.Prelude.{OnOk}
use Rattle.std.specs.Fmt.{signed_decimal}
use Rattle.std.specs.Int.{w128}
use Rattle.std.proofs.lemmas.Int.{ints, to_z-of_z}
use Rattle.line_text.proofs.Decimals.{signed_numeral_is_decimal}
use Rattle.line_text.proofs.long.put_long.Goals as goal

pub returns-clause-ok : goal.returns-clause-ok
returns-clause-ok c =
    let text =
    c.as_bytes.ensures.value ∙ c.format.ensures.text ∙ ap signed_decimal (to_z-of_z w128 c.args.number (search rules)) ∙ sym (signed_numeral_is_decimal c.args.number (omega (arith, ints, c.ranges.number.sfits))) in
    subst (λ (t : List ℕ). OnOk c.append.result (c.append.new.self ≡ c.args.out.now ++ t)) text c.append.ensures.ok
