use Rattle.std.proofs.Common.{◌∙◌, sym, rules, to_z-of_z, FitsSigned}
use Rattle.std.specs.Int.{w128}
use Rattle.tree_check.proofs.Undoing.{moved_safe}
use Rattle.tree_check.proofs.steps.step_holds.Goals as goal

pub rule_holds-requires-clause-value : goal.rule_holds-requires-clause-value
rule_holds-requires-clause-value c =
    let s = c.args.s in
    let fits : FitsSigned w128 s.value = search rules in
    let told = simp (to_z-of_z, fits) at c.may_become.ensures in
    moved_safe c.args.b.now.scale s.var s.low s.value c.ends.result c.ends.ensures.scale c.ends.ensures.limits (sym told ∙ c.if-not-may_become.false)
