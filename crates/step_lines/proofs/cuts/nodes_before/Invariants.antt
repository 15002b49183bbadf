use Rattle.std.proofs.Common.{length}
use Rattle.step_lines.proofs.NodesRead.{AreNodesSoFar}
use Rattle.step_lines.proofs.cuts.nodes_before.Given as goal

abbrev pub invariant-loop-number : goal.invariant-loop-number
invariant-loop-number l = AreNodesSoFar l.bytes l.nodes l.rest l.least

abbrev pub decreases-loop-number : goal.decreases-loop-number
decreases-loop-number l = length l.rest
