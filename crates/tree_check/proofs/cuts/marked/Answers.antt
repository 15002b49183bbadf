use Rattle.tree_check.proofs.CutArcs.{first_marks}
use Rattle.tree_check.proofs.cuts.marked.Goals as goal

pub loop-node-init : goal.loop-node-init
loop-node-init c = first_marks
