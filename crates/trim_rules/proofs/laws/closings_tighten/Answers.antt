use Rattle.trim_rules.proofs.RuleTighter.{closings_tighten}
use Rattle.trim_rules.proofs.laws.closings_tighten.Goals as goal

pub returns : goal.returns
returns c = closings_tighten
