use Rattle.std.proofs.Common.{◌≡◌, take, map}
use Rattle.name_places.specs.ByName.{look}
use Rattle.network.specs.Nodes.{node_row}
use Rattle.network.proofs.nodes.node_rows.Given as goal

abbrev pub invariant-loop-node : goal.invariant-loop-node
invariant-loop-node l = l.rows ≡ map (node_row (look l.nominations) (look l.limits)) (take l.node-index l.nodes)
