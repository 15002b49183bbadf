use Rattle.std.proofs.Common.{◌∙◌, to_z-of_z, rules, FitsSigned}
use Rattle.std.specs.Int.{w128}
use Rattle.box_rules.proofs.LawSteps.{no_law_step, no_var_step, law_step_is}
use Rattle.tree_check.proofs.arc_steps.row_step.Goals as goal

pub returns-in-None : goal.returns-in-None
returns-in-None c = no_law_step c.args.p.now c.args.b.now c.args.rule c.args.arc c.args.var c.args.low c.args.value c.args.row.now (rw c.part.ensures at c.in-None.ensures.form)

pub returns-in-None-side_of : goal.returns-in-None-side_of
returns-in-None-side_of c =
    no_var_step c.args.p.now c.args.b.now c.args.rule c.args.arc c.args.var c.args.low c.args.value c.args.row.now c.in-Some.form (rw c.part.ensures at c.in-Some.ensures.form) c.in-None-side_of.ensures.side

pub returns-in-Some-side_of : goal.returns-in-Some-side_of
returns-in-Some-side_of c =
    let scale : FitsSigned w128 c.scale.result = search rules in
    (simp (to_z-of_z, scale, c.ranges.value) at c.form_step.ensures)
    ∙ law_step_is c.args.p.now c.args.b.now c.args.rule c.args.arc c.args.var c.args.low c.args.value c.args.row.now c.in-Some.form c.scale.result c.sides-e.result c.in-Some-side_of.side
    (rw c.part.ensures at c.in-Some.ensures.form) c.scale.ensures.value (rw c.bounds.ensures.bounds at c.sides-e.ensures.ends) c.in-Some-side_of.ensures.side

pub form_step-requires-clause-value : goal.form_step-requires-clause-value
form_step-requires-clause-value c = simp (to_z-of_z, c.ranges.value) (c.in-Some-side_of.ensures.safe c.args.value c.requires.value)
