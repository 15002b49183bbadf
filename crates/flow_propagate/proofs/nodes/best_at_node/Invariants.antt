use Rattle.flow_propagate.proofs.NodeFlows.{NoneBefore}
use Rattle.flow_propagate.proofs.nodes.best_at_node.Given as goal

abbrev pub invariant-loop-arc : goal.invariant-loop-arc
invariant-loop-arc l = NoneBefore l.p l.b.scale l.b.bounds l.node l.at l.arc-index
