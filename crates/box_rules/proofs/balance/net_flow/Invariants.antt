use Rattle.tree_rules.specs.Rules.{flow_lo, flow_hi}
use Rattle.element_laws.specs.Sizes.{most_flow}
use Rattle.gas_model.proofs.NodeSums.{NetSums}
use Rattle.box_rules.proofs.balance.net_flow.Given as goal

abbrev pub invariant-loop-arc : goal.invariant-loop-arc
invariant-loop-arc l =
    NetSums most_flow (flow_lo l.b.bounds) (flow_hi l.b.bounds) l.p.arcs l.node l.at l.arc-index l.lo
    × NetSums most_flow (flow_hi l.b.bounds) (flow_lo l.b.bounds) l.p.arcs l.node l.at l.arc-index l.hi
