use Rattle.flow_propagate.proofs.propagate.best_flow.Goals as goal

pub returns-in-AtNode : goal.returns-in-AtNode
returns-in-AtNode g c = rw c.in-AtNode.is (rw c.scaled.ensures at (c.best_at_node.ensures c.args.state.now))
