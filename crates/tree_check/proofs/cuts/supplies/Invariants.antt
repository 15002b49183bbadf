use Rattle.tree_rules.specs.NodeRules.{least_supply, greatest_supply}
use Rattle.tree_check.proofs.CutNodes.{SupplySums}
use Rattle.tree_check.proofs.cuts.supplies.Given as goal

abbrev pub invariant-loop-node : goal.invariant-loop-node
invariant-loop-node l =
    SupplySums (least_supply l.p.nodes) l.nodes l.node-index l.lo × SupplySums (greatest_supply l.p.nodes) l.nodes l.node-index l.hi
