-- A desk in memory whose calls fail from a number on, as what stands outside.
use Rattle.std.specs.Prelude.{ℕ, Result}
use Rattle.gas_desk.specs.Outside.{Outside}
use Rattle.gas_desk.specs.Call.{Call}
use Rattle.gas_desk.specs.Memory.{in_memory, TakesTurn}
use Rattle.gas_desk.specs.declared.desk.DeskStop.{DeskStop}
use Rattle.gas_desk.specs.declared.fading.Fading.{Fading}

-- what such a desk tells
abbrev pub fading : Fading → Outside
fading d = in_memory d.desk

-- what it does at a call: what a desk in memory does
abbrev pub TakesFadingTurn : Call → Fading → Fading → Result ℕ DeskStop → Type 0
TakesFadingTurn call old new outcome = TakesTurn call old.desk new.desk outcome
