use Rattle.std.proofs.Common.{to_z-of_z, rules, refl, FitsSigned}
use Rattle.std.specs.Int.{w128}
use Rattle.box_rules.proofs.SideFits.{sides_fit}
use Rattle.box_rules.proofs.arc_rules.pipe_step.Goals as goal

pub returns-then-low : goal.returns-then-low
returns-then-low c =
    let f = sides_fit c.args.e c.requires.ends in
    let a : FitsSigned w128 c.drop_high.result = search rules in
    let b : FitsSigned w128 c.drop_gap.result = search rules in
    let x = simp (to_z-of_z, c.ranges.value) at c.drop_high.ensures in
    let y = simp (to_z-of_z, c.ranges.scale, f.u_lo, f.v_hi) at c.drop_gap.ensures in
    simp (to_z-of_z, a, b) (rw (c.in-OfFlow.is, c.if-low.true, x, y) refl)

pub returns-else-low : goal.returns-else-low
returns-else-low c =
    let f = sides_fit c.args.e c.requires.ends in
    let a : FitsSigned w128 c.drop_gap-else-low.result = search rules in
    let b : FitsSigned w128 c.drop_low.result = search rules in
    let x = simp (to_z-of_z, c.ranges.scale, f.u_hi, f.v_lo) at c.drop_gap-else-low.ensures in
    let y = simp (to_z-of_z, c.ranges.value) at c.drop_low.ensures in
    simp (to_z-of_z, a, b) (rw (c.in-OfFlow.is, c.if-low.false, x, y) refl)

pub returns-then-low-2 : goal.returns-then-low-2
returns-then-low-2 c =
    let f = sides_fit c.args.e c.requires.ends in
    let a : FitsSigned w128 c.drop_gap-then-low-2.result = search rules in
    let b : FitsSigned w128 c.drop_low-then-low-2.result = search rules in
    let x = simp (to_z-of_z, c.ranges.scale, c.ranges.value, f.v_lo) at c.drop_gap-then-low-2.ensures in
    let y = simp (to_z-of_z, f.q_lo) at c.drop_low-then-low-2.ensures in
    simp (to_z-of_z, a, b) (rw (c.in-OfFrom.is, c.if-low-2.true, x, y) refl)

pub returns-else-low-2 : goal.returns-else-low-2
returns-else-low-2 c =
    let f = sides_fit c.args.e c.requires.ends in
    let a : FitsSigned w128 c.drop_high-else-low-2.result = search rules in
    let b : FitsSigned w128 c.drop_gap-else-low-2.result = search rules in
    let x = simp (to_z-of_z, f.q_hi) at c.drop_high-else-low-2.ensures in
    let y = simp (to_z-of_z, c.ranges.scale, c.ranges.value, f.v_hi) at c.drop_gap-else-low-2.ensures in
    simp (to_z-of_z, a, b) (rw (c.in-OfFrom.is, c.if-low-2.false, x, y) refl)

pub returns-then-low-3 : goal.returns-then-low-3
returns-then-low-3 c =
    let f = sides_fit c.args.e c.requires.ends in
    let a : FitsSigned w128 c.drop_high-then-low-3.result = search rules in
    let b : FitsSigned w128 c.drop_gap-then-low-3.result = search rules in
    let x = simp (to_z-of_z, f.q_hi) at c.drop_high-then-low-3.ensures in
    let y = simp (to_z-of_z, c.ranges.scale, c.ranges.value, f.u_lo) at c.drop_gap-then-low-3.ensures in
    simp (to_z-of_z, a, b) (rw (c.in-OfTo.is, c.if-low-3.true, x, y) refl)

pub returns-else-low-3 : goal.returns-else-low-3
returns-else-low-3 c =
    let f = sides_fit c.args.e c.requires.ends in
    let a : FitsSigned w128 c.drop_gap-else-low-3.result = search rules in
    let b : FitsSigned w128 c.drop_low-else-low-3.result = search rules in
    let x = simp (to_z-of_z, c.ranges.scale, c.ranges.value, f.u_hi) at c.drop_gap-else-low-3.ensures in
    let y = simp (to_z-of_z, f.q_lo) at c.drop_low-else-low-3.ensures in
    simp (to_z-of_z, a, b) (rw (c.in-OfTo.is, c.if-low-3.false, x, y) refl)
