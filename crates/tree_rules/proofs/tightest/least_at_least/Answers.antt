use Rattle.tree_rules.proofs.RootLaws.{least_at_least}
use Rattle.tree_rules.proofs.tightest.least_at_least.Goals as goal

pub returns : goal.returns
returns c = least_at_least
