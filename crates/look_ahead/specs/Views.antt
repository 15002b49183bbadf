-- Boxes of a tree that is made depth first.
use Rattle.std.specs.Prelude.{List, Some}
use Rattle.std.specs.List.{All}
use Rattle.gas_model.specs.declared.rows.PartState.{PartState}
use Rattle.gas_model.specs.Rows.{Network}
use Rattle.topo.specs.Shapes.{Layout, IsShapeOf}
use Rattle.tree_cert.specs.declared.line.Head.{Head}
use Rattle.tree_cert.specs.declared.line.Head.TheVariants.{Take, State, Half}
use Rattle.box_split.specs.declared.forks.Fork.{Fork}
use Rattle.stable_sweep.specs.Children.{ComesBy, IsHeadOf}
use Rattle.stable_sweep.specs.Settling.{IsStable}
use Rattle.box_pool.specs.declared.open_box.BoxView.{BoxView}
use Rattle.box_pool.specs.Forks.{IsForkOf, heads_of}
use Rattle.box_pool.specs.Origins.{CanHalve, CanPick}
use Rattle.box_pool.specs.Pools.{ViewFits, box_of_view}

-- it can be settled: it fits the problem, and where it has a head, it is the child of a stable box by that head
pub record IsReady (p : Network) (v : BoxView) : Type 0 where
  pub fits : ViewFits p v
  pub head : IsHeadOf p v.head
  pub comes : ComesBy p (box_of_view v) v.head

-- it fits the problem, and is stable
pub record IsStableView (p : Network) (v : BoxView) : Type 0 where
  pub fits : ViewFits p v
  pub stable : IsStable p (box_of_view v)

-- the child by this head can be made
pub record CanBegin (p : Network) (v : BoxView) (h : Head) : Type 0 where
  pub picks : CanPick p v.part.value (Some h)
  pub halves : CanHalve v.bounds.value (Some h)

-- its group, arc or variable is one of the problem, and its children can be made
pub record CanFork (p : Network) (v : BoxView) (fork : Fork) : Type 0 where
  pub of_problem : IsForkOf p fork
  pub begin : All (CanBegin p v) (heads_of p v.part.value fork)

-- each of these forks can be taken
pub record CanForkAll (p : Network) (v : BoxView) (forks : List Fork) : Type 0 where
  pub each : All (CanFork p v) forks

-- where the child is a half, the shape is that of its part state
abbrev pub KeepsShape : Network → Layout → PartState → Head → Type 0
KeepsShape p shape part (Take k j) = Unit {0}
KeepsShape p shape part (State a state) = Unit {0}
KeepsShape p shape part (Half v low C) = IsShapeOf p part shape
