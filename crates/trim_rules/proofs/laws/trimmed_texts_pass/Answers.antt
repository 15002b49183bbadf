use Rattle.trim_rules.proofs.Trims.{trimmed_texts_pass}
use Rattle.trim_rules.proofs.laws.trimmed_texts_pass.Goals as goal

pub returns : goal.returns
returns c = trimmed_texts_pass
