-- Which budgets a search of a problem never spends.
use Rattle.std.specs.Prelude.{ℕ, zero, suc, ◌+◌, ◌^◌, ◌≤◌, nat_le, if◌then◌else◌, ℤ, pos, negsuc, List, ◌++◌, map, length, sum_by}
use Rattle.std.specs.List.{range_with_len}
use Rattle.base_types.specs.declared.variables.Var.{Var}
use Rattle.base_types.specs.declared.variables.Var.TheVariants.{Flow, Square}
use Rattle.gas_model.specs.Rows.{Network}
use Rattle.tree_pool.specs.Rows.{Row}
use Rattle.tree_rules.specs.Branches.{root_box}
use Rattle.search_order.specs.Levels.{levels}
use Rattle.box_pool.specs.Grid.{pool_scale}
use Rattle.nom_search.specs.declared.searching.Why.TheVariants.{Budget}
use Rattle.nom_search.specs.Halted.{Halted}
use Rattle.search_reach.specs.Depth.{loose_arcs, children_at}
use Rattle.search_reach.specs.Widths.{width_in}

-- the least m, of so many numbers from the first on, with 2^m at least w; the number after them, where there is none
abbrev pub least_from : (count first w : ℕ) → ℕ
least_from zero m w = m
least_from (suc count) m w = if nat_le w (2 ^ m) then m else least_from count (m + 1) w

-- how often a variable of this width can be halved: the least m, from 0 on, with 2^m at least the width
abbrev pub doublings : ℤ → ℕ
doublings (pos w) = least_from w 0 w
doublings (negsuc w) = 0

-- all variables: the flows of the arcs, and the squares at the nodes
abbrev pub variables : Network → List Var
variables p = map Flow (range_with_len 0 (length p.arcs)) ++ map Square (range_with_len 0 (length p.nodes))

-- how often all of them can be halved together
abbrev pub halvings_of_all : Network → ℕ
halvings_of_all p = sum_by (λ v. doublings (width_in (root_box pool_scale p) v)) (variables p)

-- the depth below which no box lies: above a box each group is picked once, each loose arc gets a state once, and each
-- variable is halved as often as its width allows
abbrev pub last_depth : Network → ℕ
last_depth p = length p.groups + length (loose_arcs p) + halvings_of_all p

-- where the budget pays for all boxes that there can be down to that depth, no search stops for want of it
abbrev pub BudgetsSuffice : Type 0
BudgetsSuffice =
    (p : Network) (tol : ℤ) (budget : ℕ) (rows : List Row) (text : List ℕ) (line : ℕ)
    → levels (children_at p) (last_depth p) ≤ budget → Halted p tol (root_box pool_scale p) budget Budget rows text line → ⊥
