-- Pools of a problem and a root: which box each number stands for, with its turn.
use Rattle.std.specs.Prelude.{◌≡◌, ◌≢◌, ℕ, ◌+◌, true, List, Option, Some, length, slice_get, ◌⊎◌}
use Rattle.gas_model.specs.declared.rows.PartState.{PartState}
use Rattle.gas_model.specs.Rows.{Network}
use Rattle.gas_model.specs.Boxes.{Bounds}
use Rattle.tree_cert.specs.declared.line.Step.{Step}
use Rattle.tree_cert.specs.declared.line.Head.{Head}
use Rattle.tree_cert.specs.Tree.{Branch}
use Rattle.tree_cert.specs.TreeRules.{Holds}
use Rattle.tree_rules.specs.Rules.{PartBox, closing_holds}
use Rattle.tree_rules.specs.Branches.{rules_of}
use Rattle.tree_pool.specs.Rows.{Standing, Waiting, Held, Quit, Shuts, Splits, Row, IsMap}
use Rattle.tree_pool.specs.Rules.{after_steps, IsOf}
use Rattle.tree_pool.specs.Nodes.{branch_of}
use Rattle.box_split.specs.declared.forks.Fork.{Fork}
use Rattle.box_split.specs.declared.forks.Fork.TheVariants.{Least}
use Rattle.box_pool.specs.declared.pool.WorkEnd.{WorkEnd}
use Rattle.box_pool.specs.declared.pool.WorkEnd.TheVariants as work
use Rattle.box_pool.specs.declared.open_box.BoxView.{BoxView}
use Rattle.box_pool.specs.Grid.{pool_scale}
use Rattle.box_pool.specs.Forks.{by_of, heads_of, next_of, HasFork}
use Rattle.box_pool.specs.Origins.{Origin, box_of, turn_of}
use Rattle.box_pool.specs.Pools.{Boxed, PoolFits, box_of_view}

-- With this turn the box has a fork, which splits it by this branch. Its children, from this number on, have the heads of
-- the fork in their order, and its next turn.
pub record IsForked (p : Network) (rows : List Row) (turns : List ℕ) (turn : ℕ) (b : PartBox) (f : Branch) (first count : ℕ) : Type 0 where
  pub fork : Fork
  pub has : HasFork p b.part b.bounds turn fork
  pub wide : fork ≢ Least
  pub branch_is : f ≡ branch_of (by_of fork)
  pub number : count ≡ length (heads_of p b.part fork)
  pub head_at : (k : ℕ) (h : Head) → slice_get (heads_of p b.part fork) k ≡ Some h → (q : Row) × (slice_get rows (first + k) ≡ Some q) × (q.head ≡ Some h)
  pub turn_at : (k : ℕ) (h : Head) → slice_get (heads_of p b.part fork) k ≡ Some h → slice_get turns (first + k) ≡ Some (next_of fork)

-- the split of a box is by the fork of its turn
abbrev pub SplitIsForked : Network → List Row → List ℕ → (turn : ℕ) → PartBox → Standing → Type 0
SplitIsForked p rows turns turn b Waiting = Unit {0}
SplitIsForked p rows turns turn b Held = Unit {0}
SplitIsForked p rows turns turn b Quit = Unit {0}
SplitIsForked p rows turns turn b (Shuts c) = Unit {0}
SplitIsForked p rows turns turn b (Splits f first count) = IsForked p rows turns turn b f first count

-- box n can be made where it comes from: with its part state, its ends and its turn
pub record HasOrigin (origins : List (Option Origin)) (boxes : List PartBox) (turns : List ℕ) (n : ℕ) : Type 0 where
  pub origin : Origin
  pub here : slice_get origins n ≡ Some (Some origin)
  pub box : slice_get boxes n ≡ Some (box_of pool_scale origin)
  pub turn : slice_get turns n ≡ Some (turn_of origin)

-- The pool is of the problem and the root: its rows are a map, they are of the problem's rules and that root, with these
-- boxes; the root's turn is 0; each split box is split by the fork of its turn; and each box that waits or is held can
-- be looked at.
pub record IsPoolOf (p : Network) (root : PartBox) (pool : Boxed) : Type 0 where
  pub boxes : List PartBox
  pub turns : List ℕ
  pub paths : IsMap pool.rows
  pub of_root : IsOf (rules_of p) root pool.rows boxes
  pub count : length turns ≡ length pool.rows
  pub first : slice_get turns 0 ≡ Some 0
  pub forks : (n : ℕ) (r : Row) (b : PartBox) (turn : ℕ) → slice_get pool.rows n ≡ Some r → slice_get boxes n ≡ Some b → slice_get turns n ≡ Some turn
      → Holds (after_steps (rules_of p) b r.steps) (λ c. SplitIsForked p pool.rows turns turn c r.standing)
  pub fits : PoolFits p pool
  pub places : length pool.origins ≡ length pool.rows
  pub open_boxes : (n : ℕ) (r : Row) → slice_get pool.rows n ≡ Some r → (r.standing ≡ Waiting) ⊎ (r.standing ≡ Held) → HasOrigin pool.origins boxes turns n

-- a root box of a pool, with this part state and these ends
abbrev pub root_at : PartState → Bounds → PartBox
root_at part b = record { scale = pool_scale; part = part; bounds = b }

-- a closing by which work ends holds at the box that is left
abbrev pub ClosingHolds : Network → BoxView → WorkEnd → Type 0
ClosingHolds p v (work.Shut c) = closing_holds p (box_of_view v) c ≡ true
ClosingHolds p v (work.Split fork) = Unit {0}
ClosingHolds p v work.Left = Unit {0}

-- The work is work on box n: its steps lead from that box to the one that is left, which has the same turn, and where a
-- closing ends it, that closing holds there.
pub record IsWorkOn (p : Network) (pool : Boxed) (n : ℕ) (steps : List Step) (end : WorkEnd) (v : BoxView) : Type 0 where
  pub origin : Origin
  pub here : slice_get pool.origins n ≡ Some (Some origin)
  pub turn : v.turn ≡ turn_of origin
  pub after : after_steps (rules_of p) (box_of pool_scale origin) steps ≡ Some (box_of_view v)
  pub holds : ClosingHolds p v end
