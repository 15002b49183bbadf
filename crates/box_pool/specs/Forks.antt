-- The children of a fork.
use Rattle.std.specs.Prelude.{◌≡◌, ℕ, ◌<◌, List, [], ◌∷◌, length, map, Option, slice_get, MatchOption, IsTrue}
use Rattle.std.specs.Option.{option_map_or}
use Rattle.gas_model.specs.declared.rows.ArcRow.{ArcRow}
use Rattle.gas_model.specs.declared.rows.PartState.{PartState}
use Rattle.gas_model.specs.Rows.{Network}
use Rattle.gas_model.specs.Choices.{allowed_states}
use Rattle.gas_model.specs.Boxes.{Bounds, is_var}
use Rattle.topo.specs.Shapes.{Layout, IsShapeOf}
use Rattle.box_split.specs.Forks.{fork_of}
use Rattle.tree_cert.specs.declared.line.Head.{Head}
use Rattle.tree_cert.specs.declared.line.Head.TheVariants.{State}
use Rattle.tree_rules.specs.Branches.{decision_heads, lower_half, upper_half}
use Rattle.box_split.specs.declared.forks.Fork.{Fork}
use Rattle.box_split.specs.declared.forks.Fork.TheVariants.{Group, Free, Halve, Least}
use Rattle.box_pool.specs.declared.forks.Children.{Children}
use Rattle.tree_pool.specs.declared.node.BranchBy.{BranchBy}
use Rattle.tree_pool.specs.declared.node.BranchBy.TheVariants as by

-- by what a fork splits a box; `Least` splits none
abbrev pub by_of : Fork → BranchBy
by_of (Group k) = by.Group k
by_of (Free a) = by.Arc a
by_of (Halve v at next) = by.Halves v
by_of Least = by.Group 0

-- the heads of its children: the decisions of the group, the states that are left to the arc, or the two halves
abbrev pub state_heads : Network → PartState → ℕ → ArcRow → List Head
state_heads p part a row = map (State a) (allowed_states p part a row)

abbrev pub heads_of : Network → PartState → Fork → List Head
heads_of p part (Group k) = option_map_or (decision_heads k) (slice_get p.groups k) []
heads_of p part (Free a) = option_map_or (state_heads p part a) (slice_get p.arcs a) []
heads_of p part (Halve v at next) = lower_half v at ∷ upper_half v at ∷ []
heads_of p part Least = []

-- the turn of its children
abbrev pub next_of : Fork → ℕ
next_of (Group k) = 0
next_of (Free a) = 0
next_of (Halve v at next) = next
next_of Least = 0

-- its group, arc or variable is one of the problem
abbrev pub IsForkOf : Network → Fork → Type 0
IsForkOf p (Group k) = k < length p.groups
IsForkOf p (Free a) = a < length p.arcs
IsForkOf p (Halve v at next) = IsTrue (is_var p v)
IsForkOf p Least = Unit {0}

-- these are its children
pub record AreChildren (p : Network) (part : PartState) (fork : Fork) (c : Children) : Type 0 where
  pub by : c.by ≡ by_of fork
  pub heads : c.heads ≡ heads_of p part fork
  pub next : c.next ≡ next_of fork

abbrev pub HasChildren : Network → PartState → Fork → Option Children → Type 0
HasChildren p part fork o = MatchOption o (fork ≡ Least) (AreChildren p part fork)

-- with this turn the box has this fork
pub record HasFork (p : Network) (part : PartState) (b : Bounds) (turn : ℕ) (fork : Fork) : Type 0 where
  pub shape : Layout
  pub is_shape : IsShapeOf p part shape
  pub fork_is : fork ≡ fork_of p shape.split_list part b turn
