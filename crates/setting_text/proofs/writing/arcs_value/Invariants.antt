use Rattle.std.proofs.Common.{◌≡◌, ◌++◌, map, drop}
use Rattle.serde_json.specs.View.{view}
use Rattle.setting_text.specs.Writing.{arc_entries}
use Rattle.setting_text.proofs.writing.arcs_value.Given as goal

abbrev pub invariant-loop-i : goal.invariant-loop-i
invariant-loop-i l = map view l.values.items ++ arc_entries (drop l.i l.arcs) (drop l.i l.states) (drop l.i l.flows) ≡ arc_entries l.arcs l.states l.flows
