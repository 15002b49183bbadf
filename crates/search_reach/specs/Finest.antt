-- How narrow the boxes are that a search leaves open for want of a finer grid.
use Rattle.std.specs.Prelude.{◌≡◌, ℕ, ℤ, pos, ◌≤ℤ◌, List, Some, slice_get}
use Rattle.base_types.specs.declared.variables.Var.{Var}
use Rattle.gas_model.specs.Rows.{Network}
use Rattle.tree_rules.specs.Rules.{PartBox}
use Rattle.tree_rules.specs.Branches.{root_box}
use Rattle.tree_pool.specs.Rows.{Row, Quit}
use Rattle.box_pool.specs.Grid.{pool_scale}
use Rattle.nom_search.specs.declared.searching.Why.{Why}
use Rattle.nom_search.specs.declared.searching.Why.TheVariants.{Budget, Grid}
use Rattle.nom_search.specs.Halted.{Halted}
use Rattle.search_reach.specs.Widths.{width_in}

-- the ends of the box count sixteenths, and each variable is at most one of them wide
pub record IsFinest (b : PartBox) : Type 0 where
  pub counts : b.scale ≡ pos 16
  pub narrow : (v : Var) → width_in b v ≤ℤ pos 1

-- so it is in each box that is left open for want of a finer grid, as its steps leave it
abbrev pub LeftAreFinest : (p : Network) (tol : ℤ) (budget : ℕ) (why : Why) (rows : List Row) (text : List ℕ) (line : ℕ) → Halted p tol (root_box pool_scale p) budget why rows text line → Type 0
LeftAreFinest p tol budget Budget rows text line h = Unit {0}
LeftAreFinest p tol budget Grid rows text line h =
    (n : ℕ) (r : Row) → (here : slice_get rows n ≡ Some r) → r.standing ≡ Quit → IsFinest (h.halts.0.known n r here).box

abbrev pub LeftBoxesAreFinest : Type 0
LeftBoxesAreFinest =
    (p : Network) (tol : ℤ) (budget : ℕ) (why : Why) (rows : List Row) (text : List ℕ) (line : ℕ)
    → (h : Halted p tol (root_box pool_scale p) budget why rows text line) → LeftAreFinest p tol budget why rows text line h
