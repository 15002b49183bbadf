use Rattle.std.proofs.Common.{◌≡◌, ◌++◌, map, take}
use Rattle.std.specs.List.{flat_map}
use Rattle.gas_model.specs.Rows.{node_ids, text_of}
use Rattle.flat_text.specs.Spelling.{arc_line}
use Rattle.flat_text.proofs.writing.put_arcs.Given as goal

abbrev pub invariant-loop-row : goal.invariant-loop-row
invariant-loop-row l = l.out ≡ l.initial.out ++ flat_map arc_line (map (text_of (node_ids l.nodes)) (take l.row-index l.arcs))
