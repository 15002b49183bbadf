use Rattle.std.proofs.Common.{to_z-of_z, sym}
use Rattle.box_rules.proofs.OtherRules.{loses_closing_else}
use Rattle.box_rules.proofs.rules.loses_closing.Goals as goal

pub returns-in-Reach : goal.returns-in-Reach
returns-in-Reach c =
    rw c.in-Reach.is (simp (to_z-of_z, c.ranges.scale, c.ranges.high) at c.reach_closing.ensures)

pub returns-in-Drop : goal.returns-in-Drop
returns-in-Drop c =
    rw c.in-Drop.is (simp (to_z-of_z, c.ranges.scale, c.ranges.low) at c.drop_closing.ensures)

pub returns-in_default : goal.returns-in_default
returns-in_default c =
    sym (loses_closing_else c.args.rule c.args.low c.args.high c.args.scale c.args.e c.in_default.not-Reach c.in_default.not-Drop)
