use Rattle.std.proofs.Common.{to_z-of_z, sym}
use Rattle.box_rules.proofs.OtherRules.{raises_closing_else}
use Rattle.box_rules.proofs.rules.raises_closing.Goals as goal

pub returns-in-Rise : goal.returns-in-Rise
returns-in-Rise c in_min out_max = rw c.in-Rise.is (simp (to_z-of_z, c.ranges.scale, c.ranges.rise_max) at c.rise_closing.ensures)

pub returns-in-Ratio : goal.returns-in-Ratio
returns-in-Ratio c in_min out_max = rw c.in-Ratio.is (simp (to_z-of_z, c.ranges.num, c.ranges.den) at c.ratio_closing.ensures)

pub returns-in_default : goal.returns-in_default
returns-in_default c in_min out_max = sym (raises_closing_else c.args.rule in_min out_max c.args.num c.args.den c.args.rise_max c.args.scale c.args.e c.in_default.not-Rise c.in_default.not-Ratio)
