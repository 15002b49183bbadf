use Rattle.tree_rules.proofs.RootLaws.{greatest_at_least}
use Rattle.tree_rules.proofs.tightest.greatest_at_least.Goals as goal

pub returns : goal.returns
returns c = greatest_at_least
