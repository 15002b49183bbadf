use Rattle.std.proofs.Common.{◌≡◌, drop, map}
use Rattle.serde_json.specs.View.{view}
use Rattle.setting_text.specs.Reading.{read_each, arc_entry}
use Rattle.setting_text.proofs.Lists.{with_front}
use Rattle.setting_text.proofs.reading.arc_entries.Given as goal

abbrev pub invariant-loop-i : goal.invariant-loop-i
invariant-loop-i l = with_front l.entries (read_each arc_entry (drop l.i l.arcs) (map view (drop l.i l.list))) ≡ read_each arc_entry l.arcs (map view l.list)
