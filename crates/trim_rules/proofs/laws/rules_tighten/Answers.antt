use Rattle.trim_rules.proofs.RuleTighter.{rules_tighten}
use Rattle.trim_rules.proofs.laws.rules_tighten.Goals as goal

pub returns : goal.returns
returns c = rules_tighten
