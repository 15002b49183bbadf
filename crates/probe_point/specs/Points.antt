-- The setting that is tried in a box.
use Rattle.std.specs.Prelude.{◌≡◌, ℕ, ◌<◌, List, length, map, ℤ, pos, ◌+ℤ◌}
use Rattle.std.specs.Int.{int_div_euclid}
use Rattle.gas_model.specs.declared.rows.NodeRow.{NodeRow}
use Rattle.base_types.specs.declared.states.ArcState.{ArcState}
use Rattle.base_types.specs.declared.states.ArcState.TheVariants.{Shut}
use Rattle.gas_model.specs.declared.rows.Ends.{Ends}
use Rattle.gas_model.specs.declared.rows.PartState.{PartState}
use Rattle.gas_model.specs.declared.rows.Setting.{Setting}
use Rattle.gas_model.specs.Rows.{Network}
use Rattle.gas_model.specs.Boxes.{Bounds}
use Rattle.gas_model.specs.Near.{number_at}
use Rattle.gas_model.specs.Points.{state_at}
use Rattle.topo.specs.Shapes.{Layout, IsShapeOf}
use Rattle.probe_point.specs.Probes.{box_at, HasTreeFlows}
use Rattle.probe_point.specs.Squares.{HasSquares}
use Rattle.probe_point.specs.Hulls.{AreHulls}
use Rattle.probe_point.specs.Chosen.{picks_of, with_picks, all_chosen, AreChosen}
use Rattle.probe_point.specs.Chords.{HasMiddles}

-- half of both bounds of the supply of a node, rounded down
abbrev pub middle_supply : NodeRow → ℤ
middle_supply node = int_div_euclid (node.b_min +ℤ node.b_max) (pos 2)

abbrev pub middle_supplies : List NodeRow → List ℤ
middle_supplies nodes = map middle_supply nodes

-- A flow for each arc, where the ends are those of a box in parts of 1/K: a shut arc has none, a chord the middle of its
-- hull, and a tree arc the value of its hull that is nearest to the flow which balances its far node at the middle supply.
pub record AreProbeFlows (K : ℤ) (p : Network) (states : List ArcState) (shape : Layout) (ends : List Ends) (q : List ℤ) : Type 0 where
  pub count : length q ≡ length p.arcs
  pub hulls : List Ends
  pub are_hulls : AreHulls K ends hulls
  pub shut : (a : ℕ) → a < length p.arcs → state_at states a ≡ Shut → number_at q a ≡ pos 0
  pub chords : HasMiddles (box_at hulls) shape.chords (number_at q)
  pub tree : HasTreeFlows p.arcs (box_at hulls) (number_at (middle_supplies p.nodes)) shape.walk (number_at q)

-- A square for each node: a root has the middle of its hull, and the far end of each step the value of its hull that is
-- nearest to what the near end gives.
pub record AreProbeSquares (K : ℤ) (p : Network) (states : List ArcState) (shape : Layout) (ends : List Ends) (q s : List ℤ) : Type 0 where
  pub count : length s ≡ length p.nodes
  pub hulls : List Ends
  pub are_hulls : AreHulls K ends hulls
  pub roots : HasMiddles (box_at hulls) shape.roots (number_at s)
  pub others : HasSquares p.arcs states (box_at hulls) (number_at q) shape.walk (number_at s)

-- The setting is the probe of the box in parts of 1/K: open choices take their first option, and with all of them made
-- the flows and the squares are those of the shape.
pub record IsProbe (K : ℤ) (p : Network) (part : PartState) (b : Bounds) (s : Setting) : Type 0 where
  pub picks : s.picks ≡ picks_of part
  pub states : AreChosen p (with_picks s.picks part) s.states
  pub shape : Layout
  pub is_shape : IsShapeOf p (all_chosen s.picks s.states) shape
  pub flows : AreProbeFlows K p s.states shape b.flows s.flows
  pub squares : AreProbeSquares K p s.states shape b.squares s.flows s.squares
