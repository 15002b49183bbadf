use Rattle.std.proofs.Common.{to_z-of_z}
use Rattle.element_laws.proofs.Connectives.{and_second}
use Rattle.box_rules.proofs.SideFits.{sides_fit}
use Rattle.box_rules.proofs.arc_rules.drop_step.Goals as goal

pub returns-then-e-ge1 : goal.returns-then-e-ge1
returns-then-e-ge1 c =
    let f = sides_fit c.args.e c.requires.ends in
    let x = simp (to_z-of_z, c.ranges.scale, c.ranges.value, c.ranges.low_loss, f.v_lo) at c.scaled_at_most.ensures in
    rw (c.in-OfFrom.is, c.if-low.true, x) (and_second _ _ (simp (to_z-of_z, f.q_lo) at c.if-e-ge1.true))

pub returns-then-e-leminus1 : goal.returns-then-e-leminus1
returns-then-e-leminus1 c =
    let f = sides_fit c.args.e c.requires.ends in
    let x = simp (to_z-of_z, c.ranges.scale, c.ranges.value, c.ranges.low_loss, f.v_hi) at c.scaled_at_most-then-e-leminus1.ensures in
    rw (c.in-OfFrom.is, c.if-low.false, x) (and_second _ _ (simp (to_z-of_z, f.q_hi) at c.if-e-leminus1.true))

pub returns-then-e-leminus1-2 : goal.returns-then-e-leminus1-2
returns-then-e-leminus1-2 c =
    let f = sides_fit c.args.e c.requires.ends in
    let x = simp (to_z-of_z, c.ranges.scale, c.ranges.value, c.ranges.low_loss, f.u_lo) at c.scaled_at_most-then-e-leminus1-2.ensures in
    rw (c.in-OfTo.is, c.if-low-2.true, x) (and_second _ _ (simp (to_z-of_z, f.q_hi) at c.if-e-leminus1-2.true))

pub returns-then-e-ge1-2 : goal.returns-then-e-ge1-2
returns-then-e-ge1-2 c =
    let f = sides_fit c.args.e c.requires.ends in
    let x = simp (to_z-of_z, c.ranges.scale, c.ranges.value, c.ranges.low_loss, f.u_hi) at c.scaled_at_most-then-e-ge1-2.ensures in
    rw (c.in-OfTo.is, c.if-low-2.false, x) (and_second _ _ (simp (to_z-of_z, f.q_lo) at c.if-e-ge1-2.true))
