use Rattle.std.proofs.Common.{ap, not, to_z-of_z}
use Rattle.element_laws.proofs.Connectives.{or_first, or_second}
use Rattle.box_rules.proofs.SideFits.{sides_fit}
use Rattle.box_rules.proofs.arc_rules.fall_closing.Goals as goal

pub returns-then-not-scaled_at_least : goal.returns-then-not-scaled_at_least
returns-then-not-scaled_at_least c =
    let f = sides_fit c.args.e c.requires.ends in
    let x = simp (to_z-of_z, c.ranges.scale, c.ranges.red_min, f.u_hi, f.v_lo) at c.scaled_at_least.ensures in
    rw x (or_first _ _ (ap not (rw x at c.if-not-scaled_at_least.true)))

pub returns-else-not-scaled_at_least : goal.returns-else-not-scaled_at_least
returns-else-not-scaled_at_least c =
    let f = sides_fit c.args.e c.requires.ends in
    let x = simp (to_z-of_z, c.ranges.scale, c.ranges.red_min, f.u_hi, f.v_lo) at c.scaled_at_least.ensures in
    let y = simp (to_z-of_z, c.ranges.scale, c.ranges.red_max, f.u_lo, f.v_hi) at c.scaled_at_most.ensures in
    rw y (or_second _ _ (ap not (rw x at c.if-not-scaled_at_least.false)))
