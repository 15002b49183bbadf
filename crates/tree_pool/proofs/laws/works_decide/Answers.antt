use Rattle.tree_pool.proofs.Single as single
use Rattle.tree_pool.proofs.laws.works_decide.Goals as goal

pub returns : goal.returns
returns c = single.works_decide
