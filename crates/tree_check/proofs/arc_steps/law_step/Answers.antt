use Rattle.std.proofs.Common.{◌∙◌, ap, sym, to_z-of_z, false}
use Rattle.std.specs.Option.{option_map_or}
use Rattle.tree_rules.specs.Rules.{row_step}
use Rattle.tree_check.proofs.arc_steps.law_step.Goals as goal

pub returns-in-None : goal.returns-in-None
returns-in-None c = ap (λ o. option_map_or (row_step c.args.p.now c.args.b.now c.args.rule c.args.arc c.args.var c.args.low c.args.value) o false) (sym c.in-None.ensures)

pub returns-in-Some : goal.returns-in-Some
returns-in-Some c =
    (simp (to_z-of_z, c.ranges.value) at c.row_step.ensures) ∙ ap (λ o. option_map_or (row_step c.args.p.now c.args.b.now c.args.rule c.args.arc c.args.var c.args.low c.args.value) o false) (sym c.in-Some.ensures)
