use Rattle.std.proofs.Common.{to_z-of_z, sym}
use Rattle.box_rules.proofs.OtherRules.{reduces_closing_else}
use Rattle.box_rules.proofs.rules.reduces_closing.Goals as goal

pub returns-in-Fall : goal.returns-in-Fall
returns-in-Fall c in_min out_max = rw c.in-Fall.is (simp (to_z-of_z, c.ranges.scale, c.ranges.red_min, c.ranges.red_max) at c.fall_closing.ensures)

pub returns-in_default : goal.returns-in_default
returns-in_default c in_min out_max = sym (reduces_closing_else c.args.rule in_min out_max c.args.red_min c.args.red_max c.args.scale c.args.e c.in_default.not-Fall)
