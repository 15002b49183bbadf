use Rattle.tree_pool.proofs.WorksAfter.{standing_leaves_works, giving_sets_work, giving_adds_children, giving_leaves_others}
use Rattle.tree_pool.proofs.laws.works_follow_calls.Goals as goal

pub returns-clause-standing : goal.returns-clause-standing
returns-clause-standing c = standing_leaves_works

pub returns-clause-own : goal.returns-clause-own
returns-clause-own c = giving_sets_work

pub returns-clause-children : goal.returns-clause-children
returns-clause-children c = giving_adds_children

pub returns-clause-others : goal.returns-clause-others
returns-clause-others c = giving_leaves_others
