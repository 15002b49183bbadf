use Rattle.std.proofs.Common.{◌≡◌, take, drop, map}
use Rattle.gas_model.specs.Rows.{first_offence}
use Rattle.name_places.specs.ByName.{look}
use Rattle.network.specs.Nodes.{nominated_id, nomination_fault, nominations_fault}
use Rattle.network.proofs.nominations.check_nominations.Given as goal

abbrev pub invariant-loop-node : goal.invariant-loop-node
invariant-loop-node l = record {
  earlier : l.earlier ≡ map nominated_id (take l.node-index l.nodes);
  so_far : first_offence nominated_id (nomination_fault (look l.words)) l.earlier (drop l.node-index l.nodes) ≡ nominations_fault (look l.words) l.nodes;
}
