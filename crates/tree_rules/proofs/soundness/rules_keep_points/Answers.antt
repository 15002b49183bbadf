use Rattle.tree_rules.proofs.StepSound.{rules_keep_points}
use Rattle.tree_rules.proofs.soundness.rules_keep_points.Goals as goal

pub returns : goal.returns
returns c = rules_keep_points
