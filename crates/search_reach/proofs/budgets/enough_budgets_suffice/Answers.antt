use Rattle.search_reach.proofs.BudgetLaw.{budgets_suffice}
use Rattle.search_reach.proofs.budgets.enough_budgets_suffice.Goals as goal

pub returns : goal.returns
returns c = budgets_suffice
