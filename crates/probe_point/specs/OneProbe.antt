-- One setting meets the equations of a probe, and no other.
use Rattle.std.specs.Prelude.{◌≡◌, ℕ, ℤ, List}
use Rattle.gas_model.specs.declared.rows.ArcRow.{ArcRow}
use Rattle.base_types.specs.declared.states.ArcState.{ArcState}
use Rattle.gas_model.specs.declared.rows.Ends.{Ends}
use Rattle.gas_model.specs.declared.rows.PartState.{PartState}
use Rattle.gas_model.specs.declared.rows.Setting.{Setting}
use Rattle.gas_model.specs.Boxes.{Bounds}
use Rattle.gas_model.specs.BoxLimits.{IsScale}
use Rattle.gas_model.specs.Rows.{Network}
use Rattle.gas_model.specs.Within.{IsWithin}
use Rattle.topo.specs.Graphs.{graph_of}
use Rattle.topo.specs.Shapes.{Layout, IsShapeOf}
use Rattle.topo.specs.Walks.{Step, InOrder}
use Rattle.probe_point.specs.Probes.{AreGraphEnds, HasTreeFlows, KeepsOthers}
use Rattle.probe_point.specs.Squares.{HasSquares, KeepsNearSquares}
use Rattle.probe_point.specs.Chosen.{picks_of, with_picks, all_chosen, AreChosen}
use Rattle.probe_point.specs.Points.{IsProbe}

-- flows that agree off the walk, and balance along it, are the same
abbrev pub OneTreeFlow : Type 0
OneTreeFlow =
    (arcs : List ArcRow) (box : ℕ → Ends) (supply : ℕ → ℤ) (walk : List Step) (q r : ℕ → ℤ) → InOrder (graph_of arcs) walk
    → HasTreeFlows arcs box supply walk q → HasTreeFlows arcs box supply walk r
    → KeepsOthers walk r q → (a : ℕ) → q a ≡ r a

-- squares that agree at the nodes that are no far end of a step, and are given at those that are, are the same
abbrev pub OneSquare : Type 0
OneSquare =
    (arcs : List ArcRow) (states : List ArcState) (box : ℕ → Ends) (q : ℕ → ℤ) (walk : List Step) (s t : ℕ → ℤ) (nodes : ℕ) → AreGraphEnds arcs nodes → InOrder (graph_of arcs) walk
    → HasSquares arcs states box q walk s → HasSquares arcs states box q walk t
    → KeepsNearSquares arcs walk t s → (v : ℕ) → s v ≡ t v

-- a box of a problem has only one probe
abbrev pub OneProbe : Type 0
OneProbe =
    (K : ℤ) (p : Network) (part : PartState) (b : Bounds) (s t : Setting) → IsScale K → IsWithin p
    → IsProbe K p part b s → IsProbe K p part b t → s ≡ t

-- each arc has a state to be chosen
abbrev pub ChoicesExist : Type 0
ChoicesExist = (p : Network) (part : PartState) → (states : List ArcState) × AreChosen p (with_picks (picks_of part) part) states

-- where the network has a shape in the chosen states, a box has a probe, whatever its ends are
abbrev pub ProbeExists : Type 0
ProbeExists =
    (K : ℤ) (p : Network) (part : PartState) (b : Bounds) (states : List ArcState) (shape : Layout) → IsScale K → IsWithin p
    → AreChosen p (with_picks (picks_of part) part) states → IsShapeOf p (all_chosen (picks_of part) states) shape → (s : Setting) × IsProbe K p part b s
