use Rattle.std.proofs.Common.{to_z-of_z}
use Rattle.box_rules.proofs.SideFits.{sides_fit}
use Rattle.box_rules.proofs.arc_rules.rise_step.Goals as goal

pub returns-then-low : goal.returns-then-low
returns-then-low c =
    let f = sides_fit c.args.e c.requires.ends in
    rw (c.in-OfFrom.is, c.if-low.true) (simp (to_z-of_z, c.ranges.scale, c.ranges.value, c.ranges.rise_max, f.v_lo) at c.scaled_at_least.ensures)

pub returns-then-not-low : goal.returns-then-not-low
returns-then-not-low c =
    let f = sides_fit c.args.e c.requires.ends in
    rw (c.in-OfTo.is, c.if-not-low.true) (simp (to_z-of_z, c.ranges.scale, c.ranges.value, c.ranges.rise_max, f.u_hi) at c.scaled_at_least-then-not-low.ensures)
