use Rattle.std.proofs.Common.{◌≡◌, to_z, of_z, to_z-of_z, rules, FitsSigned}
use Rattle.std.specs.Int.{w128}
use Rattle.tree_rules.specs.declared.arc_vars.ArcVar.TheVariants.{OfFlow}
use Rattle.tight_steps.specs.Best.{CanShrink, IsBound}
use Rattle.tight_steps.specs.Moves.{allows}
use Rattle.tight_steps.proofs.Bests.{best_where}
use Rattle.flow_propagate.proofs.arcs.best_value.Goals as goal

pub returns : goal.returns
returns c =
    let e = c.args.e in
    let test = allows c.args.rule c.args.form.now c.args.scale e OfFlow c.args.low in
    let bound : FitsSigned w128 c.flow_bound.result = search rules in
    let result : FitsSigned w128 c.cut.result = search rules in
    let raw : CanShrink c.args.low e.q (allows c.args.rule c.args.form.now (to_z w128 (of_z w128 c.args.scale)) e OfFlow c.args.low) = c.if-not-shrinks_by.ensures in
    let can : CanShrink c.args.low e.q test = simp (to_z-of_z, c.ranges.scale) at raw in
    let is = simp (to_z-of_z, bound) at c.cut.ensures in
    let own : IsBound c.args.low e.q (allows c.args.rule c.args.form.now (to_z w128 (of_z w128 c.args.scale)) e OfFlow c.args.low) c.flow_bound.result = c.flow_bound.ensures c.args.rule c.requires.rule raw in
    let reach : IsBound c.args.low e.q test c.flow_bound.result = simp (to_z-of_z, c.ranges.scale) at own in
    simp (to_z-of_z, result) (rw is (best_where c.args.low e.q test c.flow_bound.result can reach))
