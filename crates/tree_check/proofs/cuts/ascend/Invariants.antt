use Rattle.std.proofs.Common.{◌≡◌, drop}
use Rattle.tree_cert.specs.Spelling.{ascends_after}
use Rattle.tree_check.specs.Cuts.{ascends}
use Rattle.tree_check.proofs.cuts.ascend.Given as goal

abbrev pub invariant-loop-node : goal.invariant-loop-node
invariant-loop-node l = ascends l.nodes ≡ ascends_after l.last (drop l.node-index l.rest)
