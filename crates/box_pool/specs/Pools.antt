-- Pools of the boxes of a problem.
use Rattle.std.specs.Prelude.{◌≡◌, ◌≢◌, ℕ, List, [], ◌∷◌, ◌++◌, Option, Some, None, slice_get, slice_set, MatchOption}
use Rattle.gas_model.specs.declared.rows.PartState.{PartState}
use Rattle.gas_model.specs.Rows.{Network}
use Rattle.gas_model.specs.Boxes.{Bounds, BoxFits}
use Rattle.gas_model.specs.Choices.{PartFits}
use Rattle.topo.specs.Shapes.{Layout, IsShapeOf}
use Rattle.tree_cert.specs.declared.line.Step.{Step}
use Rattle.tree_pool.specs.declared.node.BranchBy.{BranchBy}
use Rattle.tree_pool.specs.declared.node.BranchBy.TheVariants as by
use Rattle.tree_pool.specs.declared.node.WorkEnd as tree
use Rattle.tree_pool.specs.declared.node.WorkEnd.TheVariants as ends
use Rattle.tree_pool.specs.Rows.{Row, first_row}
use Rattle.tree_pool.specs.Calls.{IfRow, given_rows}
use Rattle.box_split.specs.declared.forks.Fork.TheVariants.{Least}
use Rattle.tree_rules.specs.Rules.{PartBox}
use Rattle.box_pool.specs.Grid.{pool_scale}
use Rattle.box_pool.specs.declared.pool.WorkEnd.{WorkEnd}
use Rattle.box_pool.specs.declared.pool.WorkEnd.TheVariants.{Shut, Split, Left}
use Rattle.box_pool.specs.declared.open_box.BoxView.{BoxView}
use Rattle.box_pool.specs.Forks.{by_of, heads_of, next_of, IsForkOf, HasFork}
use Rattle.box_pool.specs.declared.open_box.ParentBox.{ParentBox}
use Rattle.box_pool.specs.Origins.{Origin, child_origins, IsOrigin, IsViewOf}

-- What contracts see of a pool: its rows by number, and where the boxes come from that wait or are held.
pub record Boxed : Type 0 where
  pub rows : List Row
  pub origins : List (Option Origin)

-- a pool of one box alone, which waits
pub record IsNew (p : Network) (part : PartState) (b : Bounds) (pool : Boxed) : Type 0 where
  pub rows : pool.rows ≡ first_row ∷ []
  pub shape : Layout
  pub is_shape : IsShapeOf p part shape
  pub origins : pool.origins ≡ Some (record { part = part; shape = Some shape; bounds = b; next = 0; head = None }) ∷ []

-- all boxes that wait or are held can be made
abbrev pub PoolFits : Network → Boxed → Type 0
PoolFits p pool = (n : ℕ) (o : Origin) → slice_get pool.origins n ≡ Some (Some o) → IsOrigin p o

-- the box of this number, if it isn't worked on yet
abbrev pub Looks : Network → Boxed → ℕ → Option BoxView → Type 0
Looks p pool n o = MatchOption o (slice_get pool.origins n ≡ Some None) (λ v. (from : Origin) × (slice_get pool.origins n ≡ Some (Some from)) × IsViewOf p from v)

-- the view fits the problem
pub record ViewFits (p : Network) (v : BoxView) : Type 0 where
  pub part : PartFits p v.part.value
  pub shape : IsShapeOf p v.part.value v.shape.value
  pub bounds : BoxFits p v.bounds.value

-- the box of a view
abbrev pub box_of_view : BoxView → PartBox
box_of_view v = record { scale = pool_scale; part = v.part.value; bounds = v.bounds.value }

-- the end is possible at the box that the work leaves: a split is by its fork
abbrev pub CanEnd : Network → BoxView → WorkEnd → Type 0
CanEnd p v (Shut c) = Unit {0}
CanEnd p v (Split fork) = ViewFits p v × IsForkOf p fork × HasFork p v.part.value v.bounds.value v.turn fork × (fork ≢ Least)
CanEnd p v Left = Unit {0}

-- how the tree takes an end
abbrev pub end_as : Network → PartState → WorkEnd → tree.WorkEnd
end_as p part (Shut c) = ends.Shut c
end_as p part (Split fork) = ends.Split (by_of fork) (heads_of p part fork)
end_as p part Left = ends.Left

-- what is kept for halves alone
abbrev pub for_halves : {A : Type 0} → BranchBy → A → Option A
for_halves (by.Group k) x = None
for_halves (by.Arc a) x = None
for_halves (by.Halves v) x = Some x

-- where the children come from that have this turn; halves have the shape of the box, too
abbrev pub base_of : BoxView → BranchBy → (next : ℕ) → ParentBox
base_of v branch next = record { part = v.part; shape = for_halves branch v.shape; bounds = v.bounds; next = next }

abbrev pub new_origins : Network → BoxView → WorkEnd → List (Option Origin)
new_origins p v (Shut c) = []
new_origins p v (Split fork) = child_origins (base_of v (by_of fork) (next_of fork)) (heads_of p v.part.value fork)
new_origins p v Left = []

-- Work was given back for box n, of which the view is left.
pub record IsGiven (p : Network) (old new : Boxed) (n : ℕ) (steps : List Step) (end : WorkEnd) (v : BoxView) : Type 0 where
  pub rows : IfRow old.rows n (λ r. new.rows ≡ given_rows old.rows n r.path steps (end_as p v.part.value end))
  pub origins : new.origins ≡ slice_set old.origins n None ++ new_origins p v end

-- the tree splits no box by this end
abbrev pub SplitsNone : tree.WorkEnd → Type 0
SplitsNone (ends.Shut c) = Unit {0}
SplitsNone (ends.Split f heads) = ⊥
SplitsNone ends.Left = Unit {0}
