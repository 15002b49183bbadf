use Rattle.std.proofs.Common.{ap, not, to_z-of_z}
use Rattle.element_laws.proofs.Connectives.{or_first, or_second}
use Rattle.box_rules.proofs.SideFits.{sides_fit}
use Rattle.box_rules.proofs.arc_rules.reach_closing.Goals as goal

pub returns-then-not-scaled_at_most : goal.returns-then-not-scaled_at_most
returns-then-not-scaled_at_most c =
    let f = sides_fit c.args.e c.requires.ends in
    let x = simp (to_z-of_z, c.ranges.scale, c.ranges.high_loss, f.u_lo, f.v_hi) at c.scaled_at_most.ensures in
    rw x (or_first _ _ (ap not (rw x at c.if-not-scaled_at_most.true)))

pub returns-else-not-scaled_at_most : goal.returns-else-not-scaled_at_most
returns-else-not-scaled_at_most c =
    let f = sides_fit c.args.e c.requires.ends in
    let x = simp (to_z-of_z, c.ranges.scale, c.ranges.high_loss, f.u_lo, f.v_hi) at c.scaled_at_most.ensures in
    let y = simp (to_z-of_z, c.ranges.scale, c.ranges.high_loss, f.u_hi, f.v_lo) at c.scaled_at_most-else-not-scaled_at_most.ensures in
    rw y (or_second _ _ (ap not (rw x at c.if-not-scaled_at_most.false)))
