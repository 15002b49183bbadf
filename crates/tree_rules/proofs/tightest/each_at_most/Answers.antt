use Rattle.tree_rules.proofs.RootLaws.{each_at_most}
use Rattle.tree_rules.proofs.tightest.each_at_most.Goals as goal

pub returns : goal.returns
returns c = each_at_most
