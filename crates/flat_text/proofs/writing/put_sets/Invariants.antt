use Rattle.std.proofs.Common.{◌≡◌, ◌++◌, map, take}
use Rattle.std.specs.List.{flat_map}
use Rattle.gas_model.specs.Rows.{arc_id, set_text}
use Rattle.flat_text.specs.Spelling.{set_line}
use Rattle.flat_text.proofs.writing.put_sets.Given as goal

abbrev pub invariant-loop-arc : goal.invariant-loop-arc
invariant-loop-arc l = l.out ≡ l.initial.out ++ flat_map set_line (map (set_text (map arc_id l.arcs)) (take l.arc-index l.sets))
