use Rattle.std.proofs.Common.{take}
use Rattle.tree_check.specs.Cuts.{AreMarks}
use Rattle.tree_check.proofs.cuts.marked.Given as goal

abbrev pub invariant-loop-node : goal.invariant-loop-node
invariant-loop-node l = AreMarks l.marks (take l.node-index l.nodes)
