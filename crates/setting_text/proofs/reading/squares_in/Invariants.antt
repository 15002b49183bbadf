use Rattle.std.proofs.Common.{◌≡◌, drop, map}
use Rattle.serde_json.specs.View.{view}
use Rattle.setting_text.specs.Reading.{read_each, node_entry}
use Rattle.setting_text.proofs.Lists.{with_front}
use Rattle.setting_text.proofs.reading.squares_in.Given as goal

abbrev pub invariant-loop-i : goal.invariant-loop-i
invariant-loop-i l = with_front l.squares (read_each node_entry (drop l.i l.nodes) (map view (drop l.i l.list))) ≡ read_each node_entry l.nodes (map view l.list)
