-- How far a search that halted has come.
use Rattle.std.proofs.Common.{ℕ, ℤ, List}
use Rattle.gas_model.specs.Rows.{Network}
use Rattle.tree_rules.specs.Branches.{root_box}
use Rattle.tree_pool.specs.Rows.{Row}
use Rattle.box_pool.specs.Grid.{pool_scale}
use Rattle.nom_search.specs.declared.searching.Why.{Why}
use Rattle.nom_search.specs.declared.searching.Why.TheVariants.{Budget, Grid}
use Rattle.nom_search.specs.Halted.{Halted}
use Rattle.search_reach.specs.Reached.{NamedIsDeep, BudgetIsShort, HaltedSearchesReach}
use Rattle.search_reach.proofs.BudgetLaw.{budgets_suffice}
use Rattle.search_reach.proofs.DepthLaw.{deep_stops}
use Rattle.search_reach.proofs.FinestLaws.{left_are_finest}
use Rattle.search_reach.proofs.StepLaws.{few_where_halted}
use Rattle.search_reach.proofs.WidthLaws.{few_halvings_where_halted, narrow_named}

named_deep : (p : Network) (tol : ℤ) (budget : ℕ) (why : Why) (rows : List Row) (text : List ℕ) (line : ℕ) → (h : Halted p tol (root_box pool_scale p) budget why rows text line) → NamedIsDeep p tol budget why rows text line h
named_deep p tol budget Budget rows text line h = deep_stops p tol budget rows text line h
named_deep p tol budget Grid rows text line h = tt

budget_short : (p : Network) (tol : ℤ) (budget : ℕ) (why : Why) (rows : List Row) (text : List ℕ) (line : ℕ) → Halted p tol (root_box pool_scale p) budget why rows text line → BudgetIsShort p budget why
budget_short p tol budget Budget rows text line h = λ paid. budgets_suffice p tol budget rows text line paid h
budget_short p tol budget Grid rows text line h = tt

pub halted_reach : HaltedSearchesReach
halted_reach p tol budget why rows text line within h = record {
  steps = few_where_halted p tol budget why rows text line within h;
  halvings = few_halvings_where_halted p tol budget why rows text line h;
  narrow = narrow_named p tol budget why rows text line h;
  finest = left_are_finest p tol budget why rows text line h;
  deep = named_deep p tol budget why rows text line h;
  short = budget_short p tol budget why rows text line h;
}
