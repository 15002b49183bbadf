use Rattle.setting_text.proofs.Stands.{read_back}
use Rattle.setting_text.proofs.laws.text_is_read_back.Goals as goal

pub returns : goal.returns
returns c = read_back
