use Rattle.std.proofs.Common.{◌∙◌}
use Rattle.tree_check.proofs.Heads.{over_states}
use Rattle.tree_check.proofs.branches.is_over.Goals as goal

pub returns-in-States : goal.returns-in-States
returns-in-States c b = rw c.in-States.is (c.is_empty.ensures ∙ over_states c.in-States.arc c.in-States.left b)
