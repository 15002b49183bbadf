use Rattle.std.proofs.Common.{to_z-of_z}
use Rattle.element_laws.proofs.Connectives.{and_second}
use Rattle.box_rules.proofs.SideFits.{sides_fit}
use Rattle.box_rules.proofs.arc_rules.drops_back.Goals as goal

pub returns-then-e-leminus1 : goal.returns-then-e-leminus1
returns-then-e-leminus1 c =
    let f = sides_fit c.args.e c.requires.ends in
    let x = simp (to_z-of_z, c.ranges.scale, c.ranges.low_loss, f.u_lo, f.v_hi) at c.scaled_at_least.ensures in
    rw (x) (and_second _ _ (simp (to_z-of_z, f.q_hi) at c.if-e-leminus1.true))
