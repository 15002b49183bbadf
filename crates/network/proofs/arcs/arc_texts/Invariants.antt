use Rattle.std.proofs.Common.{◌≡◌, take, drop, map}
use Rattle.network.specs.Faults.{first_fault}
use Rattle.network.specs.Table.{arc_text, arc_fault, arcs_fault}
use Rattle.network.specs.Tables.{look_row}
use Rattle.network.proofs.arcs.arc_texts.Given as goal

abbrev pub invariant-loop-arc : goal.invariant-loop-arc
invariant-loop-arc l = record {
  texts : l.texts ≡ map (arc_text (look_row l.table)) (take l.arc-index l.arcs);
  so_far : first_fault (arc_fault (look_row l.table)) (drop l.arc-index l.arcs) ≡ arcs_fault (look_row l.table) l.arcs;
}
