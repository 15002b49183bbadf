use Rattle.tree_rules.specs.Branches.{rules_of}
use Rattle.tree_trim.proofs.Marking.{Tried}
use Rattle.tree_trim.proofs.trimming.left_out.Given as goal

abbrev pub invariant-loop-i : goal.invariant-loop-i
invariant-loop-i l = Tried (rules_of l.p) l.lines l.i l.left_out

abbrev pub decreases-loop-i : goal.decreases-loop-i
decreases-loop-i l = l.i
