use Rattle.std.proofs.Common.{◌∙◌, to_z-of_z, rules, FitsSigned}
use Rattle.std.specs.Int.{w128}
use Rattle.box_rules.proofs.LawSteps.{no_law_closing, law_closing_is}
use Rattle.tree_check.proofs.arc_steps.row_closing.Goals as goal

pub returns-in-None : goal.returns-in-None
returns-in-None c = no_law_closing c.args.p.now c.args.b.now c.args.rule c.args.arc c.args.row.now (rw c.part.ensures at c.in-None.ensures.form)

pub returns-in-Some : goal.returns-in-Some
returns-in-Some c =
    let scale : FitsSigned w128 c.scale.result = search rules in
    (simp (to_z-of_z, scale) at c.form_closing.ensures)
    ∙ law_closing_is c.args.p.now c.args.b.now c.args.rule c.args.arc c.args.row.now c.in-Some.form c.scale.result c.sides.result
    (rw c.part.ensures at c.in-Some.ensures.form) c.scale.ensures.value (rw c.bounds.ensures.bounds at c.sides.ensures.ends)
