use Rattle.std.proofs.Common.{◌≡◌, map, take}
use Rattle.setting_text.specs.Reading.{entry_flow}
use Rattle.setting_text.proofs.reading.flows_of.Given as goal

abbrev pub invariant-loop-entry : goal.invariant-loop-entry
invariant-loop-entry l = l.flows ≡ map entry_flow (take l.entry-index l.entries)
