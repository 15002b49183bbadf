use Rattle.std.proofs.Common.{to_z-of_z, sym}
use Rattle.box_rules.proofs.OtherRules.{drags_closing_else}
use Rattle.box_rules.proofs.rules.drags_closing.Goals as goal

pub returns-in-Pipe : goal.returns-in-Pipe
returns-in-Pipe c =
    rw c.in-Pipe.is (simp (to_z-of_z, c.ranges.scale) at c.pipe_closing.ensures)

pub returns-in_default : goal.returns-in_default
returns-in_default c =
    sym (drags_closing_else c.args.rule c.args.law.now c.args.scale c.args.e c.in_default.not-Pipe)
