-- What a search answers: a setting, the text of a tree that refutes, or where it stopped.
use Rattle.std.specs.Prelude.{◌≡◌, ℕ, ℤ, List, [], Some, slice_get}
use Rattle.gas_model.specs.Rows.{Network}
use Rattle.gas_model.specs.Boxes.{BoxFits}
use Rattle.gas_model.specs.Choices.{PartFits}
use Rattle.gas_model.specs.Near.{IsNear, SettingFits}
use Rattle.tree_cert.specs.Tree.{Tree, IsClosed, tree_lines}
use Rattle.tree_cert.specs.TreeRules.{Passes}
use Rattle.tree_cert.specs.Spelling.{AreLines}
use Rattle.tree_rules.specs.Rules.{PartBox}
use Rattle.tree_rules.specs.Branches.{rules_of, root_box}
use Rattle.tree_pool.specs.Rows.{Row, IsMap, NoneWaits}
use Rattle.tree_pool.specs.Rules.{IsOf}
use Rattle.tree_pool.specs.Shown.{works, Shows}
use Rattle.tree_pool.specs.Lines.{IsLineOf}
use Rattle.search_order.specs.Searches.{IsWorked, StopsAt, IsFirstQuit}
use Rattle.box_pool.specs.Grid.{pool_scale, pool_line}
use Rattle.box_pool.specs.Pools.{Boxed, IsNew}
use Rattle.nom_search.specs.Sought.{sought}
use Rattle.nom_search.specs.declared.searching.Why.{Why}
use Rattle.nom_search.specs.declared.searching.Why.TheVariants.{Budget, Grid}
use Rattle.nom_search.specs.declared.searching.Found.{Found}
use Rattle.nom_search.specs.declared.searching.Found.TheVariants.{Carried, Refuted, Left}

-- the pool is a new one of this root, which fits the problem
pub record Begins (p : Network) (root : PartBox) (pool : Boxed) : Type 0 where
  pub new : IsNew p root.part root.bounds pool
  pub scale : root.scale ≡ pool_scale
  pub part : PartFits p root.part
  pub bounds : BoxFits p root.bounds

-- the bytes are the text of the tree that these boxes show
pub record IsTextOf (rows : List Row) (text : List ℕ) (t : Tree) : Type 0 where
  pub shows : Shows (works rows) [] t
  pub lines : AreLines text (tree_lines pool_line t)

-- For want of budget: exactly so many boxes are split; box n is open and stable, its probe isn't near, and it would be
-- split; each box before it in breadth-first order is shut, split, or stable with a probe that isn't near and no variable
-- to halve; each box behind it is open without a step. For want of a finer grid: no box waits, and n is the first open
-- one; each open box is stable, its probe isn't near, and no variable is left to halve.
abbrev pub HaltsAt : Network → ℤ → PartBox → ℕ → Why → List Row → List PartBox → List ℕ → ℕ → Type 0
HaltsAt p tol root budget Budget rows boxes turns n = StopsAt (sought p tol) budget rows boxes turns n
HaltsAt p tol root budget Grid rows boxes turns n = IsWorked (sought p tol) root budget rows boxes turns × NoneWaits rows × IsFirstQuit rows n

-- The search halted with this text, which names the open box by its line. The turn of the root is 0, and with it begin the
-- forks by which boxes are split.
pub record Halted (p : Network) (tol : ℤ) (root : PartBox) (budget : ℕ) (why : Why) (rows : List Row) (text : List ℕ) (line : ℕ) : Type 0 where
  pub boxes : List PartBox
  pub turns : List ℕ
  pub map : IsMap rows
  pub of_root : IsOf (rules_of p) root rows boxes
  pub first : slice_get turns 0 ≡ Some 0
  pub tree : Tree
  pub is_text : IsTextOf rows text tree
  pub named : ℕ
  pub is_line : IsLineOf rows named line tree
  pub halts : HaltsAt p tol root budget why rows boxes turns named

-- the text is that of a tree which passes at this root, with no box left open; the search worked all its boxes in order
pub record Refutes (p : Network) (tol : ℤ) (root : PartBox) (budget : ℕ) (rows : List Row) (text : List ℕ) : Type 0 where
  pub boxes : List PartBox
  pub turns : List ℕ
  pub worked : IsWorked (sought p tol) root budget rows boxes turns
  pub tree : Tree
  pub is_text : IsTextOf rows text tree
  pub passes : Passes (rules_of p) tree root
  pub closed : IsClosed tree

-- what a search answers, of the pool that it leaves
abbrev pub Answers : Network → ℤ → PartBox → ℕ → Boxed → Found → Type 0
Answers p tol root budget pool (Carried s) = IsNear p tol s × SettingFits p s
Answers p tol root budget pool (Refuted text) = Refutes p tol root budget pool.rows text
Answers p tol root budget pool (Left why text line) = Halted p tol root budget why pool.rows text line

-- it is what some pool of the root of the problem shows
abbrev pub IsAnswerOf : Network → ℤ → (budget : ℕ) → Found → Type 0
IsAnswerOf p tol budget found = (pool : Boxed) × Answers p tol (root_box pool_scale p) budget pool found
