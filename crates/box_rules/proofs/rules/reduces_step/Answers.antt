use Rattle.std.proofs.Common.{to_z-of_z, sym}
use Rattle.box_rules.proofs.SideFits.{safe_at_fits}
use Rattle.box_rules.proofs.OtherRules.{reduces_step_else}
use Rattle.box_rules.proofs.rules.reduces_step.Goals as goal

pub returns-in-Inner : goal.returns-in-Inner
returns-in-Inner c =
    let v = safe_at_fits c.args.aim.side c.args.aim.value c.requires.value in
    rw c.in-Inner.is (simp (to_z-of_z, c.ranges.scale, c.ranges.in_min, c.ranges.out_max, v) at c.inner_step.ensures)

pub returns-in-Fall : goal.returns-in-Fall
returns-in-Fall c =
    let v = safe_at_fits c.args.aim.side c.args.aim.value c.requires.value in
    rw c.in-Fall.is (simp (to_z-of_z, c.ranges.scale, c.ranges.red_min, c.ranges.red_max, v) at c.fall_step.ensures)

pub returns-in_default : goal.returns-in_default
returns-in_default c =
    sym (reduces_step_else c.args.rule c.args.in_min c.args.out_max c.args.red_min c.args.red_max c.args.scale c.args.e c.args.aim.side c.args.aim.low c.args.aim.value c.in_default.not-Way c.in_default.not-Inner c.in_default.not-Fall)
