use Rattle.std.proofs.Common.{to_z-of_z}
use Rattle.element_laws.proofs.Connectives.{and_second}
use Rattle.box_rules.proofs.SideFits.{sides_fit}
use Rattle.box_rules.proofs.arc_rules.sign_step.Goals as goal

pub returns-then-value-le0 : goal.returns-then-value-le0
returns-then-value-le0 c =
    let f = sides_fit c.args.e c.requires.ends in
    let x = simp (to_z-of_z, c.ranges.scale, c.ranges.low_loss, f.u_lo, f.v_hi) at c.scaled_at_least.ensures in
    rw (c.in-OfFlow.is, c.if-low.true, x) (and_second _ _ (simp (to_z-of_z, c.ranges.value) at c.if-value-le0.true))

pub returns-then-value-ge0 : goal.returns-then-value-ge0
returns-then-value-ge0 c =
    let f = sides_fit c.args.e c.requires.ends in
    let x = simp (to_z-of_z, c.ranges.scale, c.ranges.low_loss, f.u_hi, f.v_lo) at c.scaled_at_least-then-value-ge0.ensures in
    rw (c.in-OfFlow.is, c.if-low.false, x) (and_second _ _ (simp (to_z-of_z, c.ranges.value) at c.if-value-ge0.true))
