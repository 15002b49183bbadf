use Rattle.tree_pool.proofs.Ruled.{shown_pass}
use Rattle.tree_pool.proofs.laws.shown_trees_pass.Goals as goal

pub returns : goal.returns
returns g c = shown_pass g.R.Rules.rules
