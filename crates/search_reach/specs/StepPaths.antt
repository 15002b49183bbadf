-- How often a variable is tightened on the way from the root of a search down to one of its boxes.
use Rattle.std.specs.Prelude.{◌≡◌, ℕ, ◌≤◌, ℤ, List, [], ◌∷◌, ◌++◌, Some, length, filter, slice_get}
use Rattle.std.specs.Option.{option_map_or}
use Rattle.base_types.specs.declared.variables.Var.{Var}
use Rattle.gas_model.specs.Rows.{Network}
use Rattle.gas_model.specs.Within.{IsWithin}
use Rattle.tree_cert.specs.declared.line.Step.{Step}
use Rattle.tree_rules.specs.Rules.{PartBox}
use Rattle.tree_rules.specs.Branches.{same_var, root_box}
use Rattle.tree_pool.specs.Rows.{Row, row_at}
use Rattle.search_order.specs.Searches.{IsWorked}
use Rattle.box_pool.specs.Grid.{pool_scale}
use Rattle.nom_search.specs.declared.searching.Why.{Why}
use Rattle.nom_search.specs.Sought.{sought}
use Rattle.nom_search.specs.Halted.{Halted, Refutes}

-- the steps in the box of this path alone
abbrev pub steps_at : List Row → List ℕ → List Step
steps_at rows path = option_map_or (λ r. r.steps) (row_at rows path) []

-- the steps in the boxes above the box of this path and in it, from the root down
abbrev pub steps_to : List Row → List ℕ → List Step
steps_to rows [] = steps_at rows []
steps_to rows (k ∷ path) = steps_to rows path ++ steps_at rows (k ∷ path)

-- how many of the steps move an end of the variable
abbrev pub steps_on : Var → List Step → ℕ
steps_on v steps = length (filter (λ s. same_var s.var v) steps)

-- how many of those on the way to a box do
abbrev pub steps_along : List Row → List ℕ → Var → ℕ
steps_along rows path v = steps_on v (steps_to rows path)

-- on the way to each box a variable is tightened at most 320 times
abbrev pub StepsAreFewIn : List Row → Type 0
StepsAreFewIn rows = (n : ℕ) (r : Row) (v : Var) → slice_get rows n ≡ Some r → steps_along rows r.path v ≤ 320

-- so it is where the search of a problem halts, for whatever reason
abbrev pub FewWhereHalted : Type 0
FewWhereHalted =
    (p : Network) (tol : ℤ) (budget : ℕ) (why : Why) (rows : List Row) (text : List ℕ) (line : ℕ)
    → IsWithin p → Halted p tol (root_box pool_scale p) budget why rows text line → StepsAreFewIn rows

-- where it refutes the problem
abbrev pub FewWhereRefuted : Type 0
FewWhereRefuted =
    (p : Network) (tol : ℤ) (budget : ℕ) (rows : List Row) (text : List ℕ)
    → IsWithin p → Refutes p tol (root_box pool_scale p) budget rows text → StepsAreFewIn rows

-- and wherever it has worked the boxes in their order
abbrev pub FewWhereWorked : Type 0
FewWhereWorked =
    (p : Network) (tol : ℤ) (budget : ℕ) (rows : List Row) (boxes : List PartBox) (turns : List ℕ)
    → IsWithin p → IsWorked (sought p tol) (root_box pool_scale p) budget rows boxes turns → StepsAreFewIn rows
