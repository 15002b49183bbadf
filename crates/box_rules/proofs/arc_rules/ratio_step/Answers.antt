use Rattle.std.proofs.Common.{to_z-of_z, rules, refl, FitsSigned}
use Rattle.std.specs.Int.{w128}
use Rattle.box_rules.proofs.SideFits.{sides_fit}
use Rattle.box_rules.proofs.arc_rules.ratio_step.Goals as goal

pub returns-then-low : goal.returns-then-low
returns-then-low c =
    let f = sides_fit c.args.e c.requires.ends in
    let a : FitsSigned w128 c.ratio_square.result = search rules in
    let b : FitsSigned w128 c.ratio_square-then-low.result = search rules in
    let x = simp (to_z-of_z, c.ranges.value, c.ranges.num) at c.ratio_square.ensures in
    let y = simp (to_z-of_z, c.ranges.den, f.v_lo) at c.ratio_square-then-low.ensures in
    simp (to_z-of_z, a, b) (rw (c.in-OfFrom.is, c.if-low.true, x, y) refl)

pub returns-then-not-low : goal.returns-then-not-low
returns-then-not-low c =
    let f = sides_fit c.args.e c.requires.ends in
    let a : FitsSigned w128 c.ratio_square-then-not-low.result = search rules in
    let b : FitsSigned w128 c.ratio_square-then-not-low-2.result = search rules in
    let x = simp (to_z-of_z, c.ranges.num, f.u_hi) at c.ratio_square-then-not-low.ensures in
    let y = simp (to_z-of_z, c.ranges.value, c.ranges.den) at c.ratio_square-then-not-low-2.ensures in
    simp (to_z-of_z, a, b) (rw (c.in-OfTo.is, c.if-not-low.true, x, y) refl)
