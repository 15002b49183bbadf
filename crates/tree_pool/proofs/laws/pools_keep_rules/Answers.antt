use Rattle.tree_pool.proofs.Ruled.{new_is_of, standing_keeps, giving_keeps}
use Rattle.tree_pool.proofs.laws.pools_keep_rules.Goals as goal

pub returns-clause-new : goal.returns-clause-new
returns-clause-new g c = new_is_of g.R.Rules.rules

pub returns-clause-standing : goal.returns-clause-standing
returns-clause-standing g c = standing_keeps g.R.Rules.rules

pub returns-clause-giving : goal.returns-clause-giving
returns-clause-giving g c = giving_keeps g.R.Rules.rules
