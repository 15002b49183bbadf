use Rattle.tree_rules.proofs.RootLaws.{greatest_at_most}
use Rattle.tree_rules.proofs.tightest.greatest_at_most.Goals as goal

pub returns : goal.returns
returns c = greatest_at_most
