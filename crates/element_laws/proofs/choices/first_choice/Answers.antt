use Rattle.std.proofs.Common.{◌∙◌, sym, below_more}
use Rattle.element_laws.proofs.choices.first_choice.Goals as goal

pub loop-arc-preserved : goal.loop-arc-preserved
loop-arc-preserved c = below_more _ _ c.loop-arc.invariant (sym c.keeps_choice.ensures ∙ c.if-not-keeps_choice.false)
