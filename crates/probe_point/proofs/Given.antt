-- The flows of chords and then of tree arcs, and the squares of roots and then of far ends.
use Rattle.std.proofs.Common.{◌≡◌, ℕ, zero, suc, ◌<◌, ◌==◌, refl, sym, ◌∙◌, ap, arith, List, length, replicate, get_or, ℤ, pos, ◌-ℤ◌}
use Rattle.std.specs.Prelude.{if◌then◌else◌}
use Rattle.integer_laws.proofs.Ring.{linear}
use Rattle.gas_model.specs.declared.rows.ArcRow.{ArcRow}
use Rattle.gas_model.specs.declared.rows.Ends.{Ends}
use Rattle.gas_model.specs.declared.rows.PartState.{PartState}
use Rattle.gas_model.specs.Near.{number_at as at}
use Rattle.gas_model.specs.Points.{net_flow}
use Rattle.gas_model.specs.Rows.{Network}
use Rattle.topo.specs.Graphs.{Graph, graph_of}
use Rattle.topo.specs.Walks.{step_at}
use Rattle.topo.specs.Shapes.{Layout, IsShapeOf}
use Rattle.probe_point.specs.Probes.{box_at, AreNeeds, HasTreeFlows, KeepsOthers}
use Rattle.probe_point.specs.Squares.{KeepsNearSquares}
use Rattle.probe_point.specs.Chords.{HasMiddles, KeepsTheRest}
use Rattle.probe_point.specs.Points.{middle_supplies}
use Rattle.probe_point.specs.Given.{AreGivenFlows}
use Rattle.probe_point.proofs.Nets.{net, net_is, share, part_none}
use Rattle.probe_point.proofs.NumberFacts.{zeros_at}
use Rattle.probe_point.proofs.ShapeFacts.{chords_apart, roots_apart}

-- where nothing flows, nothing leaves a node
net_zero : (g : Graph) (q : ℕ → ℤ) (v k : ℕ) → ((a : ℕ) → q a ≡ pos 0) → net g q v k ≡ pos 0
net_zero g q v zero z = refl
net_zero g q v (suc k) z =
    let i = net_zero g q v k z in
    let e : share g q v k ≡ pos 0 = ap (λ (x : ℤ). (if g.from k == v then x else pos 0) -ℤ (if g.to k == v then x else pos 0)) (z k) ∙ part_none (g.from k == v) (g.to k == v) in
    omega (arith, linear, i, e)

first_needs : (arcs : List ArcRow) (zeros need supplies : List ℤ) (count : ℕ) → zeros ≡ replicate count (pos 0) → need ≡ supplies → AreNeeds arcs (at supplies) (at zeros) need
first_needs arcs zeros need supplies count z e v h =
    let none : net_flow (at zeros) v arcs ≡ pos 0 = net_is arcs (at zeros) v ∙ net_zero (graph_of arcs) (at zeros) v (length arcs) (λ a. zeros_at count zeros a z) in
    let same : at need v ≡ at supplies v = ap (λ (xs : List ℤ). at xs v) e in
    omega (arith, linear, none, same)

pub flows_given : (p : Network) (part : PartState) (s : Layout) (hulls : List Ends) (zeros need mid more q : List ℤ) → IsShapeOf p part s → length q ≡ length p.arcs
    → zeros ≡ replicate (length p.arcs) (pos 0) → need ≡ middle_supplies p.nodes
    → HasMiddles (box_at hulls) s.chords (at mid) → KeepsTheRest s.chords (at zeros) (at mid)
    → ((supply : ℕ → ℤ) → AreNeeds p.arcs supply (at zeros) need → AreNeeds p.arcs supply (at mid) more)
    → ((supply : ℕ → ℤ) → AreNeeds p.arcs supply (at mid) more → HasTreeFlows p.arcs (box_at hulls) supply s.walk (at q))
    → KeepsOthers s.walk (at mid) (at q) → AreGivenFlows p s hulls q
flows_given p part s hulls zeros need mid more q h long z e middles rest needs tree others = record {
  count = long;
  rest = λ a off_chords off_walk. others a off_walk ∙ rest a off_chords ∙ zeros_at (length p.arcs) zeros a z;
  chords = λ i lt. others (get_or s.chords i 0) (λ j hj same. chords_apart p part s h j i hj lt (sym same)) ∙ middles i lt;
  tree = tree (at (middle_supplies p.nodes)) (needs (at (middle_supplies p.nodes)) (first_needs p.arcs zeros need (middle_supplies p.nodes) (length p.arcs) z e));
}

-- steps have no flow while chords alone have theirs
pub steps_none : (p : Network) (part : PartState) (s : Layout) (zeros mid : List ℤ) → IsShapeOf p part s → zeros ≡ replicate (length p.arcs) (pos 0) → KeepsTheRest s.chords (at zeros) (at mid)
    → (i : ℕ) → i < length s.walk → at mid (step_at s.walk i).0 ≡ pos 0
steps_none p part s zeros mid h z rest i lt = rest (step_at s.walk i).0 (λ j hj. chords_apart p part s h i j lt hj) ∙ zeros_at (length p.arcs) zeros (step_at s.walk i).0 z

-- roots keep their squares while far ends get theirs
pub roots_kept : (p : Network) (part : PartState) (s : Layout) (box : ℕ → Ends) (mid squares : List ℤ) → IsShapeOf p part s → HasMiddles box s.roots (at mid) → KeepsNearSquares p.arcs s.walk (at mid) (at squares) → HasMiddles box s.roots (at squares)
roots_kept p part s box mid squares h middles others i lt = others (get_or s.roots i 0) (λ j hj. roots_apart p part s h j i hj lt) ∙ middles i lt
