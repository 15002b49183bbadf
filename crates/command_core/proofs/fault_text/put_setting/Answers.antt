use Rattle.std.proofs.Common.{sym}
use Rattle.command_core.proofs.fault_text.put_setting.Goals as goal

pub returns-in-NotSetting : goal.returns-in-NotSetting
returns-in-NotSetting c = rw (c.in-NotSetting.is, sym c.key_word.ensures) c.put_both.ensures

pub returns-in-WideNumber : goal.returns-in-WideNumber
returns-in-WideNumber c = rw (c.in-WideNumber.is, sym c.key_word-in-WideNumber.ensures) c.put_both-in-WideNumber.ensures
