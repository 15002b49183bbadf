use Rattle.core_rules.proofs.CoreTextsSound.{core_texts_refute}
use Rattle.core_rules.proofs.laws.core_texts_refute.Goals as goal

pub returns : goal.returns
returns c = core_texts_refute
