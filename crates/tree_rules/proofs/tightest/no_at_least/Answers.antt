use Rattle.tree_rules.proofs.RootLaws.{no_at_least}
use Rattle.tree_rules.proofs.tightest.no_at_least.Goals as goal

pub returns : goal.returns
returns c = no_at_least
