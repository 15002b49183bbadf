use Rattle.std.proofs.Common.{to_z-of_z, rules, FitsSigned}
use Rattle.std.specs.Int.{w128}
use Rattle.element_laws.proofs.Connectives.{or_first, or_second}
use Rattle.box_rules.proofs.SideFits.{sides_fit}
use Rattle.box_rules.proofs.arc_rules.pipe_closing.Goals as goal

pub returns-then-drop_gap-drop_low : goal.returns-then-drop_gap-drop_low
returns-then-drop_gap-drop_low c =
    let f = sides_fit c.args.e c.requires.ends in
    let a : FitsSigned w128 c.drop_gap.result = search rules in
    let b : FitsSigned w128 c.drop_low.result = search rules in
    let x = simp (to_z-of_z, c.ranges.scale, f.u_hi, f.v_lo) at c.drop_gap.ensures in
    let y = simp (to_z-of_z, f.q_lo) at c.drop_low.ensures in
    let t = simp (to_z-of_z, a, b) at c.if-drop_gap-drop_low.true in
    simp (to_z-of_z, a, b) (rw (x, y) (or_first _ _ (rw (x, y) at t)))

pub returns-else-drop_gap-drop_low : goal.returns-else-drop_gap-drop_low
returns-else-drop_gap-drop_low c =
    let f = sides_fit c.args.e c.requires.ends in
    let a : FitsSigned w128 c.drop_gap.result = search rules in
    let b : FitsSigned w128 c.drop_low.result = search rules in
    let d : FitsSigned w128 c.drop_high.result = search rules in
    let e : FitsSigned w128 c.drop_gap-else-drop_gap-drop_low.result = search rules in
    let x = simp (to_z-of_z, c.ranges.scale, f.u_hi, f.v_lo) at c.drop_gap.ensures in
    let y = simp (to_z-of_z, f.q_lo) at c.drop_low.ensures in
    let z = simp (to_z-of_z, f.q_hi) at c.drop_high.ensures in
    let w = simp (to_z-of_z, c.ranges.scale, f.u_lo, f.v_hi) at c.drop_gap-else-drop_gap-drop_low.ensures in
    let t = simp (to_z-of_z, a, b) at c.if-drop_gap-drop_low.false in
    simp (to_z-of_z, d, e) (rw (z, w) (or_second _ _ (rw (x, y) at t)))
