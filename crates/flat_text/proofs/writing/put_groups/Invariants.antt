use Rattle.std.proofs.Common.{◌≡◌, ◌++◌, map, take}
use Rattle.std.specs.List.{flat_map}
use Rattle.gas_model.specs.Rows.{arc_id, group_text}
use Rattle.flat_text.specs.Spelling.{group_lines}
use Rattle.flat_text.proofs.writing.put_groups.Given as goal

abbrev pub invariant-loop-group : goal.invariant-loop-group
invariant-loop-group l = l.out ≡ l.initial.out ++ flat_map group_lines (map (group_text (map arc_id l.arcs)) (take l.group-index l.groups))
