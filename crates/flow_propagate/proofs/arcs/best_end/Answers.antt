use Rattle.std.proofs.Common.{◌≡◌, true, false, to_z, of_z, to_z-of_z, rules, FitsSigned}
use Rattle.std.specs.Int.{w128}
use Rattle.tree_rules.specs.declared.arc_vars.ArcVar.TheVariants.{OfFlow}
use Rattle.tight_steps.specs.Best.{IsBest, HasNoBest}
use Rattle.tight_steps.specs.Moves.{allows}
use Rattle.tight_steps.proofs.FirstEnds.{first_low, first_high, first_none}
use Rattle.flow_propagate.proofs.arcs.best_end.Goals as goal

pub returns-in-Some : goal.returns-in-Some
returns-in-Some c =
    let test = allows c.args.rule c.args.form.now c.args.scale c.args.e OfFlow in
    let value : FitsSigned w128 c.in-Some.value = search rules in
    let raw_best : IsBest true c.args.e.q (allows c.args.rule c.args.form.now (to_z w128 (of_z w128 c.args.scale)) c.args.e OfFlow true) c.in-Some.value = c.in-Some.ensures in
    let best : IsBest true c.args.e.q (test true) c.in-Some.value = simp (to_z-of_z, c.ranges.scale) at raw_best in
    simp (to_z-of_z, value) (first_low c.args.e.q test c.in-Some.value best)

pub returns-in_err-value : goal.returns-in_err-value
returns-in_err-value c =
    let test = allows c.args.rule c.args.form.now c.args.scale c.args.e OfFlow in
    let raw_low : HasNoBest true c.args.e.q (allows c.args.rule c.args.form.now (to_z w128 (of_z w128 c.args.scale)) c.args.e OfFlow true) = c.in_default.ensures in
    let low : HasNoBest true c.args.e.q (test true) = simp (to_z-of_z, c.ranges.scale) at raw_low in
    let raw_high : HasNoBest false c.args.e.q (allows c.args.rule c.args.form.now (to_z w128 (of_z w128 c.args.scale)) c.args.e OfFlow false) = c.in_err-value.ensures in
    let high : HasNoBest false c.args.e.q (test false) = simp (to_z-of_z, c.ranges.scale) at raw_high in
    rw c.from_residual.ensures (first_none c.args.e.q test low high)

pub returns : goal.returns
returns c =
    let test = allows c.args.rule c.args.form.now c.args.scale c.args.e OfFlow in
    let value : FitsSigned w128 c.in_ok-value.value = search rules in
    let raw_low : HasNoBest true c.args.e.q (allows c.args.rule c.args.form.now (to_z w128 (of_z w128 c.args.scale)) c.args.e OfFlow true) = c.in_default.ensures in
    let low : HasNoBest true c.args.e.q (test true) = simp (to_z-of_z, c.ranges.scale) at raw_low in
    let raw_best : IsBest false c.args.e.q (allows c.args.rule c.args.form.now (to_z w128 (of_z w128 c.args.scale)) c.args.e OfFlow false) c.in_ok-value.value = c.in_ok-value.ensures in
    let best : IsBest false c.args.e.q (test false) c.in_ok-value.value = simp (to_z-of_z, c.ranges.scale) at raw_best in
    simp (to_z-of_z, value) (first_high c.args.e.q test c.in_ok-value.value low best)
