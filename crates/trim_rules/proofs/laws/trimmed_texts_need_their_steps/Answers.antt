use Rattle.trim_rules.proofs.Trims.{trimmed_texts_need_their_steps}
use Rattle.trim_rules.proofs.laws.trimmed_texts_need_their_steps.Goals as goal

pub returns : goal.returns
returns c = trimmed_texts_need_their_steps
