use Rattle.std.proofs.Common.{◌≡◌, ap, arith, subst, length, ℕ, List, ℤ, pos}
use Rattle.std.proofs.lemmas.List.{length-map, length-replicate}
use Rattle.gas_model.specs.declared.rows.Ends.{Ends}
use Rattle.gas_model.specs.Rows.{Network}
use Rattle.gas_model.specs.Near.{number_at}
use Rattle.topo.specs.Shapes.{Layout}
use Rattle.probe_point.specs.Probes.{box_at, AreGraphEnds, AreNeeds, HasTreeFlows, KeepsOthers}
use Rattle.probe_point.specs.Chords.{HasMiddles, KeepsTheRest}
use Rattle.probe_point.specs.Points.{middle_supply}
use Rattle.probe_point.proofs.ShapeFacts.{ends_within, few_chords, few_steps}
use Rattle.probe_point.proofs.Given.{flows_given, steps_none}
use Rattle.probe_point.proofs.probing.give_flows.Goals as goal

pub chord_flows-requires-clause-few : goal.chord_flows-requires-clause-few
chord_flows-requires-clause-few c =
    let few = few_chords c.args.p.now c.requires.shape.part c.args.shape.now c.requires.shape.is_shape c.arcs-arcs.ensures.within.few_arcs in
    rw c.chords.ensures few

pub tree_flows-requires-clause-ends : goal.tree_flows-requires-clause-ends
tree_flows-requires-clause-ends c =
    let nodes = c.args.p.now.nodes in
    let same = c.chord_flows.auto.need in
    let is = ap length c.requires.need in
    let mapped = length-map nodes middle_supply in
    let count : length nodes ≡ length c.chord_flows.new.need = omega arith in
    rw c.arcs-arcs.ensures.rows (subst (AreGraphEnds c.args.p.now.arcs) count (ends_within c.args.p.now c.arcs-arcs.ensures.within))

pub tree_flows-requires-clause-short : goal.tree_flows-requires-clause-short
tree_flows-requires-clause-short c =
    let few = few_steps c.args.p.now c.requires.shape.part c.args.shape.now c.requires.shape.is_shape c.arcs-arcs.ensures.within.few_arcs in
    rw c.walk.ensures few

pub tree_flows-requires-clause-none : goal.tree_flows-requires-clause-none
tree_flows-requires-clause-none c =
    let rest : KeepsTheRest c.args.shape.now.chords (number_at c.args.flows.now) (number_at c.chord_flows.new.flows) = rw c.chords.ensures at c.chord_flows.ensures.others in
    rw c.walk.ensures (steps_none c.args.p.now c.requires.shape.part c.args.shape.now c.args.flows.now c.chord_flows.new.flows c.requires.shape.is_shape c.requires.flows rest)

pub tree_flows-requires-clause-need : goal.tree_flows-requires-clause-need
tree_flows-requires-clause-need c i lt =
    let few = few_chords c.args.p.now c.requires.shape.part c.args.shape.now c.requires.shape.is_shape c.arcs-arcs.ensures.within.few_arcs in
    let same = ap length c.chords.ensures in
    let small = c.chord_flows.ensures.small i lt in
    omega arith

pub returns-clause-value : goal.returns-clause-value
returns-clause-value c =
    let p : Network = c.args.p.now in
    let s : Layout = c.args.shape.now in
    let box : ℕ → Ends = box_at c.args.hulls.now in
    let mid : List ℤ = c.chord_flows.new.flows in
    let middles : HasMiddles box s.chords (number_at mid) = rw c.chords.ensures at c.chord_flows.ensures.middles in
    let rest : KeepsTheRest s.chords (number_at c.args.flows.now) (number_at mid) = rw c.chords.ensures at c.chord_flows.ensures.others in
    let needs : (supply : ℕ → ℤ) → AreNeeds p.arcs supply (number_at c.args.flows.now) c.args.need.now → AreNeeds p.arcs supply (number_at mid) c.chord_flows.new.need = rw c.arcs-arcs.ensures.rows at c.chord_flows.ensures.need in
    let tree : (supply : ℕ → ℤ) → AreNeeds p.arcs supply (number_at mid) c.chord_flows.new.need → HasTreeFlows p.arcs box supply s.walk (number_at c.tree_flows.new.flows) = rw (c.arcs-arcs.ensures.rows, c.walk.ensures) at c.tree_flows.ensures.tree in
    let others : KeepsOthers s.walk (number_at mid) (number_at c.tree_flows.new.flows) = rw c.walk.ensures at c.tree_flows.ensures.others in
    let one = c.chord_flows.auto.flows in
    let two = c.tree_flows.auto.flows in
    let is = ap length c.requires.flows in
    let zeros = length-replicate (length p.arcs) (pos 0) in
    let count : length c.tree_flows.new.flows ≡ length p.arcs = omega arith in
    flows_given p c.requires.shape.part s c.args.hulls.now c.args.flows.now c.args.need.now mid c.chord_flows.new.need c.tree_flows.new.flows c.requires.shape.is_shape count c.requires.flows c.requires.need middles rest needs tree others
