use Rattle.std.proofs.Common.{sym, ◌∙◌}
use Rattle.line_text.proofs.Sizes.{well_sized, ill_sized}
use Rattle.line_text.proofs.numerals.size_in.Goals as goal

pub returns-then-begins_well : goal.returns-then-begins_well
returns-then-begins_well c = c.size_of.ensures ∙ well_sized c.args.digits.now (sym c.begins_well.ensures ∙ c.if-begins_well.true)

pub returns-else-begins_well : goal.returns-else-begins_well
returns-else-begins_well c = ill_sized c.args.digits.now (sym c.begins_well.ensures ∙ c.if-begins_well.false)
