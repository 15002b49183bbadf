use Rattle.std.proofs.Common.{◌≡◌, take, drop, map}
use Rattle.gas_model.specs.Rows.{text_ids, text_id, arc_of, arc_fault, arcs_fault, first_offence}
use Rattle.gas_model.proofs.placing.place_arcs.Given as goal

abbrev pub invariant-loop-arc : goal.invariant-loop-arc
invariant-loop-arc l = record {
  rows : l.rows ≡ map (arc_of l.nodes) (take l.arc-index l.arcs);
  ids : l.ids ≡ text_ids (take l.arc-index l.arcs);
  so_far : first_offence text_id (arc_fault l.nodes) l.ids (drop l.arc-index l.arcs) ≡ arcs_fault l.nodes l.arcs;
}
