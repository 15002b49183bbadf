use Rattle.std.proofs.Common.{◌≡◌, map, take}
use Rattle.setting_text.specs.Reading.{entry_state}
use Rattle.setting_text.proofs.reading.states_of.Given as goal

abbrev pub invariant-loop-entry : goal.invariant-loop-entry
invariant-loop-entry l = l.states ≡ map entry_state (take l.entry-index l.entries)
