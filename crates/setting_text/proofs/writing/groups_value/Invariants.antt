use Rattle.std.proofs.Common.{◌≡◌, ◌++◌, map, drop}
use Rattle.serde_json.specs.View.{view}
use Rattle.setting_text.specs.Writing.{group_data, entries}
use Rattle.setting_text.proofs.writing.groups_value.Given as goal

abbrev pub invariant-loop-k : goal.invariant-loop-k
invariant-loop-k l = map view l.values.items ++ entries group_data (drop l.k l.groups) (drop l.k l.picks) ≡ entries group_data l.groups l.picks
