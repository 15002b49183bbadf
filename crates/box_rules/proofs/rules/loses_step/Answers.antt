use Rattle.std.proofs.Common.{to_z-of_z, sym}
use Rattle.box_rules.proofs.SideFits.{safe_at_fits}
use Rattle.box_rules.proofs.OtherRules.{loses_step_else}
use Rattle.box_rules.proofs.rules.loses_step.Goals as goal

pub returns-in-Sign : goal.returns-in-Sign
returns-in-Sign c =
    let v = safe_at_fits c.args.aim.side c.args.aim.value c.requires.value in
    rw c.in-Sign.is (simp (to_z-of_z, c.ranges.scale, c.ranges.low, v) at c.sign_step.ensures)

pub returns-in-Reach : goal.returns-in-Reach
returns-in-Reach c =
    let v = safe_at_fits c.args.aim.side c.args.aim.value c.requires.value in
    rw c.in-Reach.is (simp (to_z-of_z, c.ranges.scale, c.ranges.high, v) at c.reach_step.ensures)

pub returns-in-Drop : goal.returns-in-Drop
returns-in-Drop c =
    let v = safe_at_fits c.args.aim.side c.args.aim.value c.requires.value in
    rw c.in-Drop.is (simp (to_z-of_z, c.ranges.scale, c.ranges.low, v) at c.drop_step.ensures)

pub returns-in_default : goal.returns-in_default
returns-in_default c =
    sym (loses_step_else c.args.rule c.args.low c.args.high c.args.scale c.args.e c.args.aim.side c.args.aim.low c.args.aim.value c.in_default.not-Sign c.in_default.not-Reach c.in_default.not-Along c.in_default.not-Drop)
