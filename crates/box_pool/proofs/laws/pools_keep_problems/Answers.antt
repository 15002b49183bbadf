use Rattle.tree_rules.specs.Branches.{rules_of}
use Rattle.tree_pool.proofs.Ruled.{new_is_of, standing_keeps, giving_keeps, shown_pass}
use Rattle.box_pool.proofs.laws.pools_keep_problems.Goals as goal

pub returns-clause-new : goal.returns-clause-new
returns-clause-new c = λ p. new_is_of (rules_of p)

pub returns-clause-standing : goal.returns-clause-standing
returns-clause-standing c = λ p. standing_keeps (rules_of p)

pub returns-clause-giving : goal.returns-clause-giving
returns-clause-giving c = λ p. giving_keeps (rules_of p)

pub returns-clause-shown : goal.returns-clause-shown
returns-clause-shown c = λ p. shown_pass (rules_of p)
