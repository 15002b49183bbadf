use Rattle.std.proofs.Common.{length}
use Rattle.refuting_tree.proofs.LinesRead.{AreRead}
use Rattle.refuting_tree.proofs.reading.read_lines.Given as goal

abbrev pub invariant-loop-given : goal.invariant-loop-given
invariant-loop-given l = AreRead l.text l.rest l.lines

abbrev pub decreases-loop-given : goal.decreases-loop-given
decreases-loop-given l = length l.rest
