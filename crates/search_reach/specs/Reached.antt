-- How far a search that halted has come.
use Rattle.std.specs.Prelude.{ℕ, ◌≤◌, ℤ, List}
use Rattle.gas_model.specs.Rows.{Network}
use Rattle.gas_model.specs.Within.{IsWithin}
use Rattle.tree_rules.specs.Branches.{root_box}
use Rattle.tree_pool.specs.Rows.{Row}
use Rattle.box_pool.specs.Grid.{pool_scale}
use Rattle.nom_search.specs.declared.searching.Why.{Why}
use Rattle.nom_search.specs.declared.searching.Why.TheVariants.{Budget, Grid}
use Rattle.nom_search.specs.Halted.{Halted}
use Rattle.search_order.specs.Levels.{levels}
use Rattle.search_reach.specs.Budgets.{last_depth}
use Rattle.search_reach.specs.Depth.{children_at, IsDeep}
use Rattle.search_reach.specs.Finest.{LeftAreFinest}
use Rattle.search_reach.specs.StepPaths.{StepsAreFewIn}
use Rattle.search_reach.specs.Widths.{HalvingsAreFewIn, NamedIsNarrow}

-- for want of budget, the box that is named lies deep
abbrev pub NamedIsDeep : (p : Network) (tol : ℤ) (budget : ℕ) (why : Why) (rows : List Row) (text : List ℕ) (line : ℕ) → Halted p tol (root_box pool_scale p) budget why rows text line → Type 0
NamedIsDeep p tol budget Budget rows text line h = IsDeep p budget h.halts.row.path
NamedIsDeep p tol budget Grid rows text line h = Unit {0}

-- and the budget doesn't pay for all boxes that there can be down to the last depth
abbrev pub BudgetIsShort : Network → (budget : ℕ) → Why → Type 0
BudgetIsShort p budget Budget = levels (children_at p) (last_depth p) ≤ budget → ⊥
BudgetIsShort p budget Grid = Unit {0}

-- On the way to each box each variable is tightened at most 320 times, and halved no more often than its width at first
-- allows. The box that is named is narrow. For want of a finer grid each variable of each open box is at most one sixteenth
-- wide. For want of budget the named box lies deep, and a budget that pays for all boxes is never spent.
pub record Reached (p : Network) (tol : ℤ) (budget : ℕ) (why : Why) (rows : List Row) (text : List ℕ) (line : ℕ) (h : Halted p tol (root_box pool_scale p) budget why rows text line) : Type 0 where
  pub steps : StepsAreFewIn rows
  pub halvings : HalvingsAreFewIn p rows
  pub narrow : NamedIsNarrow p tol budget why rows text line h
  pub finest : LeftAreFinest p tol budget why rows text line h
  pub deep : NamedIsDeep p tol budget why rows text line h
  pub short : BudgetIsShort p budget why

-- so far has each search of a problem within its limits come that halted
abbrev pub HaltedSearchesReach : Type 0
HaltedSearchesReach =
    (p : Network) (tol : ℤ) (budget : ℕ) (why : Why) (rows : List Row) (text : List ℕ) (line : ℕ)
    → IsWithin p → (h : Halted p tol (root_box pool_scale p) budget why rows text line) → Reached p tol budget why rows text line h
