-- What reading and writing settings have to do with each other.
use Rattle.std.specs.Prelude.{◌≡◌, ◌↔◌, ℕ, List, Ok}
use Rattle.gas_model.specs.declared.rows.Setting.{Setting}
use Rattle.gas_model.specs.Rows.{Network, IsProblem}
use Rattle.gas_model.specs.Near.{SettingFits}
use Rattle.gas_model.specs.Within.{IsWithin}
use Rattle.setting_text.specs.Writing.{setting_text}
use Rattle.setting_text.specs.Reading.{setting_of, AreOfKinds, StandsFor}

-- bytes are read as a setting of a problem exactly where they stand for it
abbrev pub IsReadWhereItStands : Type 0
IsReadWhereItStands = (p : Network) (bytes : List ℕ) (s : Setting) → IsProblem p → ((setting_of p bytes ≡ Ok s) ↔ StandsFor p bytes s)

-- the text of a setting that fits a problem, with states of the arcs' kinds, is read as this setting
abbrev pub IsReadBack : Type 0
IsReadBack = (p : Network) (s : Setting) → IsProblem p → IsWithin p → SettingFits p s → AreOfKinds p.arcs s.states → setting_of p (setting_text p s) ≡ Ok s
