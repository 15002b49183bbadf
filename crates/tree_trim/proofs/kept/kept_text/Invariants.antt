use Rattle.tree_trim.proofs.KeptLines.{Written}
use Rattle.tree_trim.proofs.kept.kept_text.Given as goal

abbrev pub invariant-loop-i : goal.invariant-loop-i
invariant-loop-i l = Written l.out l.lines l.left_out l.i
