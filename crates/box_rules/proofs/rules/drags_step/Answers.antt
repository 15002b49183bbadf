use Rattle.std.proofs.Common.{to_z-of_z, sym}
use Rattle.box_rules.proofs.SideFits.{safe_at_fits}
use Rattle.box_rules.proofs.OtherRules.{drags_step_else}
use Rattle.box_rules.proofs.rules.drags_step.Goals as goal

pub returns-in-Pipe : goal.returns-in-Pipe
returns-in-Pipe c =
    let v = safe_at_fits c.args.aim.side c.args.aim.value c.requires.value in
    rw c.in-Pipe.is (simp (to_z-of_z, c.ranges.scale, v) at c.pipe_step.ensures)

pub returns-in_default : goal.returns-in_default
returns-in_default c =
    sym (drags_step_else c.args.rule c.args.law.now c.args.scale c.args.e c.args.aim.side c.args.aim.low c.args.aim.value c.in_default.not-Pipe)
