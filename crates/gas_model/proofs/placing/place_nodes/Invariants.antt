use Rattle.std.proofs.Common.{◌≡◌, take, drop}
use Rattle.gas_model.specs.Rows.{node_ids, node_id, node_fault, nodes_fault, first_offence}
use Rattle.gas_model.proofs.placing.place_nodes.Given as goal

abbrev pub invariant-loop-node : goal.invariant-loop-node
invariant-loop-node l = record {
  ids : l.ids ≡ node_ids (take l.node-index l.nodes);
  so_far : first_offence node_id node_fault l.ids (drop l.node-index l.nodes) ≡ nodes_fault l.nodes;
}
