use Rattle.std.proofs.Common.{◌≡◌, drop, map}
use Rattle.serde_json.specs.View.{view}
use Rattle.setting_text.specs.Reading.{read_each, group_entry}
use Rattle.setting_text.proofs.Lists.{with_front}
use Rattle.setting_text.proofs.reading.picks_in.Given as goal

abbrev pub invariant-loop-i : goal.invariant-loop-i
invariant-loop-i l = with_front l.picks (read_each group_entry (drop l.i l.groups) (map view (drop l.i l.list))) ≡ read_each group_entry l.groups (map view l.list)
