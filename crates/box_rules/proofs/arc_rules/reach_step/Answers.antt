use Rattle.std.proofs.Common.{to_z-of_z}
use Rattle.box_rules.proofs.SideFits.{sides_fit}
use Rattle.box_rules.proofs.arc_rules.reach_step.Goals as goal

pub returns-then-low : goal.returns-then-low
returns-then-low c =
    let f = sides_fit c.args.e c.requires.ends in
    rw (c.in-OfFrom.is, c.if-low.true) (simp (to_z-of_z, c.ranges.scale, c.ranges.value, c.ranges.high_loss, f.v_lo) at c.scaled_at_least.ensures)

pub returns-else-low : goal.returns-else-low
returns-else-low c =
    let f = sides_fit c.args.e c.requires.ends in
    rw (c.in-OfFrom.is, c.if-low.false) (simp (to_z-of_z, c.ranges.scale, c.ranges.value, c.ranges.high_loss, f.v_hi) at c.scaled_at_least-else-low.ensures)

pub returns-then-low-2 : goal.returns-then-low-2
returns-then-low-2 c =
    let f = sides_fit c.args.e c.requires.ends in
    rw (c.in-OfTo.is, c.if-low-2.true) (simp (to_z-of_z, c.ranges.scale, c.ranges.value, c.ranges.high_loss, f.u_lo) at c.scaled_at_least-then-low-2.ensures)

pub returns-else-low-2 : goal.returns-else-low-2
returns-else-low-2 c =
    let f = sides_fit c.args.e c.requires.ends in
    rw (c.in-OfTo.is, c.if-low-2.false) (simp (to_z-of_z, c.ranges.scale, c.ranges.value, c.ranges.high_loss, f.u_hi) at c.scaled_at_least-else-low-2.ensures)
