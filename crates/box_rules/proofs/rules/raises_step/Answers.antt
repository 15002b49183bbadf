use Rattle.std.proofs.Common.{to_z-of_z, sym}
use Rattle.box_rules.proofs.SideFits.{safe_at_fits}
use Rattle.box_rules.proofs.OtherRules.{raises_step_else}
use Rattle.box_rules.proofs.rules.raises_step.Goals as goal

pub returns-in-Inner : goal.returns-in-Inner
returns-in-Inner c =
    let v = safe_at_fits c.args.aim.side c.args.aim.value c.requires.value in
    rw c.in-Inner.is (simp (to_z-of_z, c.ranges.scale, c.ranges.in_min, c.ranges.out_max, v) at c.inner_step.ensures)

pub returns-in-Rise : goal.returns-in-Rise
returns-in-Rise c =
    let v = safe_at_fits c.args.aim.side c.args.aim.value c.requires.value in
    rw c.in-Rise.is (simp (to_z-of_z, c.ranges.scale, c.ranges.rise_max, v) at c.rise_step.ensures)

pub returns-in-Ratio : goal.returns-in-Ratio
returns-in-Ratio c =
    let v = safe_at_fits c.args.aim.side c.args.aim.value c.requires.value in
    rw c.in-Ratio.is (simp (to_z-of_z, c.ranges.num, c.ranges.den, v) at c.ratio_step.ensures)

pub returns-in_default : goal.returns-in_default
returns-in_default c =
    sym (raises_step_else c.args.rule c.args.in_min c.args.out_max c.args.num c.args.den c.args.rise_max c.args.scale c.args.e c.args.aim.side c.args.aim.low c.args.aim.value c.in_default.not-Way c.in_default.not-Inner c.in_default.not-Order c.in_default.not-Rise c.in_default.not-Ratio)
