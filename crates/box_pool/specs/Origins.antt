-- Where the boxes of a pool come from that are still to be worked on.
use Rattle.std.specs.Prelude.{◌≡◌, ℕ, ◌<◌, ℤ, List, length, map, Option, Some, None, option_map, IfSome, IsTrue}
use Rattle.std.specs.Rc.{rc_value}
use Rattle.gas_model.specs.declared.rows.PartState.{PartState}
use Rattle.gas_model.specs.Rows.{Network}
use Rattle.gas_model.specs.Boxes.{Bounds, BoxFits, ends_of, is_in_box, may_become, tightened}
use Rattle.gas_model.specs.Choices.{PartFits}
use Rattle.topo.specs.Shapes.{Layout, IsShapeOf}
use Rattle.tree_cert.specs.declared.line.Head.{Head}
use Rattle.tree_cert.specs.declared.line.Head.TheVariants.{Take, State, Half}
use Rattle.tree_rules.specs.Branches.{with_pick, with_state}
use Rattle.tree_rules.specs.Rules.{PartBox}
use Rattle.box_pool.specs.declared.open_box.ParentBox.{ParentBox}
use Rattle.box_pool.specs.declared.open_box.OpenBox.{OpenBox}
use Rattle.box_pool.specs.declared.open_box.BoxView.{BoxView}

-- a box that was split, after its steps, with the child's shape, where it is kept, and the turn of its children; and the
-- head of the child. The root has none.
pub record Origin : Type 0 where
  pub part : PartState
  pub shape : Option Layout
  pub bounds : Bounds
  pub next : ℕ
  pub head : Option Head

-- what the child has of its own
abbrev pub part_by : PartState → Option Head → PartState
part_by part None = part
part_by part (Some (Take k j)) = with_pick part k j
part_by part (Some (State a state)) = with_state part a state
part_by part (Some (Half v low C)) = part

abbrev pub bounds_by : Bounds → Option Head → Bounds
bounds_by b None = b
bounds_by b (Some (Take k j)) = b
bounds_by b (Some (State a state)) = b
bounds_by b (Some (Half v low C)) = tightened b v low C

-- the box, in parts of 1/K
abbrev pub box_of : ℤ → Origin → PartBox
box_of K o = record { scale = K; part = part_by o.part o.head; bounds = bounds_by o.bounds o.head }

abbrev pub turn_by : ℕ → Option Head → ℕ
turn_by next None = next
turn_by next (Some (Take k j)) = 0
turn_by next (Some (State a state)) = 0
turn_by next (Some (Half v low C)) = next

abbrev pub turn_of : Origin → ℕ
turn_of o = turn_by o.next o.head

-- the child can be made
abbrev pub CanPick : Network → PartState → Option Head → Type 0
CanPick p part None = Unit {0}
CanPick p part (Some (Take k j)) = (k < length part.picks) × PartFits p (with_pick part k j)
CanPick p part (Some (State a state)) = (a < length part.states) × PartFits p (with_state part a state)
CanPick p part (Some (Half v low C)) = Unit {0}

abbrev pub CanHalve : Bounds → Option Head → Type 0
CanHalve b None = Unit {0}
CanHalve b (Some (Take k j)) = Unit {0}
CanHalve b (Some (State a state)) = Unit {0}
CanHalve b (Some (Half v low C)) = IsTrue (is_in_box b v) × IsTrue (may_become low C (ends_of b v))

pub record IsOrigin (p : Network) (o : Origin) : Type 0 where
  pub part : PartFits p o.part
  pub shape : IfSome o.shape (IsShapeOf p (part_by o.part o.head))
  pub bounds : BoxFits p o.bounds
  pub picks : CanPick p o.part o.head
  pub halves : CanHalve o.bounds o.head

-- what stands in the code
abbrev pub origin_by : ParentBox → Option Head → Origin
origin_by b h = record { part = b.part.value; shape = option_map rc_value b.shape; bounds = b.bounds.value; next = b.next; head = h }

abbrev pub origin_of : OpenBox → Origin
origin_of s = origin_by s.base.value s.head

abbrev pub origins_of : List (Option OpenBox) → List (Option Origin)
origins_of spots = map (option_map origin_of) spots

abbrev pub child_origins : ParentBox → List Head → List (Option Origin)
child_origins b heads = map (λ h. Some (origin_by b (Some h))) heads

-- it is the box that comes from there, with its shape, its turn and its head
pub record IsViewOf (p : Network) (o : Origin) (v : BoxView) : Type 0 where
  pub part : v.part.value ≡ part_by o.part o.head
  pub shape : IsShapeOf p v.part.value v.shape.value
  pub bounds : v.bounds.value ≡ bounds_by o.bounds o.head
  pub turn : v.turn ≡ turn_of o
  pub head : v.head ≡ o.head
