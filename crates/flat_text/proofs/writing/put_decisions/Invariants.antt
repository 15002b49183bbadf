use Rattle.std.proofs.Common.{◌≡◌, ◌++◌, map, take}
use Rattle.std.specs.List.{flat_map}
use Rattle.gas_model.specs.Rows.{arc_id, decision_text}
use Rattle.flat_text.specs.Spelling.{decision_lines}
use Rattle.flat_text.proofs.writing.put_decisions.Given as goal

abbrev pub invariant-loop-decision : goal.invariant-loop-decision
invariant-loop-decision l = l.out ≡ l.initial.out ++ flat_map decision_lines (map (decision_text (map arc_id l.arcs)) (take l.decision-index l.decisions))
