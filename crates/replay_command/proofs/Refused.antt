-- A setting that isn't read, as what reading ends with.
use Rattle.std.proofs.Common.{◌≡◌}
use Rattle.std.specs.Prelude.{Result, Err}
use Rattle.gas_model.specs.declared.rows.Setting.{Setting}
use Rattle.command_core.specs.declared.status.InputFault.TheVariants.{OfSetting}
use Rattle.command_core.specs.declared.status.InputFile.TheVariants.{SettingFile}
use Rattle.file_faults.specs.declared.setting.SettingFault.{SettingFault}
use Rattle.file_faults.specs.declared.setting.SettingFault.TheVariants as setting
use Rattle.setting_text.specs.Reading.{Fails}
use Rattle.command_core.specs.Gates.{IsParsed, with_fault}
use Rattle.command_core.specs.Stops.{IsOffence, refusal}
use Rattle.command_core.proofs.Parsing.{refused_with}

setting_offence : (read : Result Setting SettingFault) (e : SettingFault) → Fails e read → IsOffence (OfSetting e) → read ≡ Err e
setting_offence read setting.NoMemory h o = absurd (cc)
setting_offence read setting.NotJson h o = h
setting_offence read (setting.NotSetting k) h o = h
setting_offence read (setting.WideNumber k) h o = h

pub setting_refused : (read : Result Setting SettingFault) (e : SettingFault) → Fails e read → IsParsed SettingFile (with_fault OfSetting read) (Err (refusal SettingFile (OfSetting e)))
setting_refused read e h = refused_with SettingFile OfSetting read e (setting_offence read e h)
