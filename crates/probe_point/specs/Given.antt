-- What is known of a shape and of flows while a probe is made.
use Rattle.std.specs.Prelude.{◌≡◌, ◌≢◌, ℕ, ◌<◌, List, length, slice_index, ℤ, pos}
use Rattle.gas_model.specs.declared.rows.Ends.{Ends}
use Rattle.gas_model.specs.declared.rows.PartState.{PartState}
use Rattle.gas_model.specs.Rows.{Network}
use Rattle.gas_model.specs.Near.{number_at}
use Rattle.topo.specs.Walks.{step_at}
use Rattle.topo.specs.Shapes.{Layout, IsShapeOf}
use Rattle.probe_point.specs.Probes.{box_at, HasTreeFlows}
use Rattle.probe_point.specs.Hulls.{AreHulls}
use Rattle.probe_point.specs.Chords.{HasMiddles}
use Rattle.probe_point.specs.Points.{middle_supplies}

-- the shape is that of the network in some part state
pub record IsSomeShape (p : Network) (s : Layout) : Type 0 where
  pub part : PartState
  pub is_shape : IsShapeOf p part s

-- chords and tree arcs have their flows by these hulls, and all other arcs have none
pub record AreGivenFlows (p : Network) (shape : Layout) (hulls : List Ends) (q : List ℤ) : Type 0 where
  pub count : length q ≡ length p.arcs
  pub rest : (a : ℕ) → ((i : ℕ) → i < length shape.chords → a ≢ slice_index shape.chords i) → ((i : ℕ) → i < length shape.walk → a ≢ (step_at shape.walk i).0) → number_at q a ≡ pos 0
  pub chords : HasMiddles (box_at hulls) shape.chords (number_at q)
  pub tree : HasTreeFlows p.arcs (box_at hulls) (number_at (middle_supplies p.nodes)) shape.walk (number_at q)

-- the same by the hulls of these ends
pub record HasGivenFlows (K : ℤ) (p : Network) (shape : Layout) (ends : List Ends) (q : List ℤ) : Type 0 where
  pub hulls : List Ends
  pub are_hulls : AreHulls K ends hulls
  pub given : AreGivenFlows p shape hulls q
