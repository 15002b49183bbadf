use Rattle.std.proofs.Common.{◌≡◌, ◌<◌, ◌≤◌, ℕ, ap, subst, refl, arith, ◌+◌, length, get_or, Some, to_z-of_z, ◌==◌, FitsSigned, rules, ◌∙◌}
use Rattle.std.specs.Prelude.{slice_get}
use Rattle.std.specs.Int.{w128}
use Rattle.std.proofs.lemmas.Option.{slice_get_read}
use borrow.Author.Tests.{lt-ltb}
use Rattle.gas_model.proofs.LimitFacts.{node_supplies}
use Rattle.gas_model.proofs.NodeSums.{arc_within}
use Rattle.element_laws.proofs.BoxEnds.{safe_flows}
use Rattle.tight_steps.specs.NewEnds.{IsFirstEnd}
use Rattle.box_rules.specs.Balance.{balance_lets}
use Rattle.flow_propagate.proofs.NodeFlows.{Sums, NoneBefore, none_yet, one_more, none_at_node, first_at_node}
use Rattle.flow_propagate.proofs.AtNode.{at_touches}
use Rattle.flow_propagate.proofs.nodes.best_at_node.Goals as goal

pub supply_of-supply-requires-clause-low : goal.supply_of-supply-requires-clause-low
supply_of-supply-requires-clause-low c =
    let node = c.index-nodes-node.result in
    let here : slice_get c.args.p.now.nodes c.args.node ≡ Some node = slice_get_read c.args.p.now.nodes (length c.args.p.now.nodes) c.args.node node refl c.requires.node (rw c.nodes.ensures.rows at c.index-nodes-node.is) in
    (node_supplies node (c.nodes.ensures.within.nodes c.args.node node here)).0

pub supply_of-supply-requires-clause-high : goal.supply_of-supply-requires-clause-high
supply_of-supply-requires-clause-high c =
    let node = c.index-nodes-node.result in
    let here : slice_get c.args.p.now.nodes c.args.node ≡ Some node = slice_get_read c.args.p.now.nodes (length c.args.p.now.nodes) c.args.node node refl c.requires.node (rw c.nodes.ensures.rows at c.index-nodes-node.is) in
    (node_supplies node (c.nodes.ensures.within.nodes c.args.node node here)).1

pub bounds-arcs-arc : goal.bounds-arcs-arc
bounds-arcs-arc c =
    let below = arc_within c.args.p.now.arcs c.args.node c.loop-arc.arc-index c.arcs_at-at.result.now c.arcs_at-at.ensures.arcs c.loop-arc-test.true in
    omega (arith, below, ap length c.arcs-arcs.ensures.rows)

pub ends-requires : goal.ends-requires
ends-requires c =
    let at = c.arcs_at-at.result.now in
    let k = c.loop-arc.arc-index in
    let below = arc_within c.args.p.now.arcs c.args.node k at c.arcs_at-at.ensures.arcs c.loop-arc-test.true in
    let flows = c.requires.bounds.flows in
    lt-ltb (get_or at k 0) (length c.args.b.now.bounds.flows) (omega (arith, below, flows))

pub best_end-requires-clause-flow : goal.best_end-requires-clause-flow
best_end-requires-clause-flow c = safe_flows c.args.b.now.scale c.ends.result c.ends.ensures.scale c.ends.ensures.limits

pub loop-arc-init : goal.loop-arc-init
loop-arc-init c = none_yet c.args.p.now c.args.b.now.scale c.args.b.now.bounds c.args.node c.arcs_at-at.result.now

pub loop-arc-preserved : goal.loop-arc-preserved
loop-arc-preserved c =
    let p = c.args.p.now in
    let b = c.args.b.now in
    let at = c.arcs_at-at.result.now in
    let k = c.loop-arc.arc-index in
    let row = c.index-arcs-arc.result in
    let node = c.index-nodes-node.result in
    let scale : FitsSigned w128 c.scale.result = search rules in
    let below = arc_within p.arcs c.args.node k at c.arcs_at-at.ensures.arcs c.loop-arc-test.true in
    let row_is : slice_get p.arcs (get_or at k 0) ≡ Some row = slice_get_read p.arcs (length p.arcs) (get_or at k 0) row refl below (rw c.arcs-arcs.ensures.rows at c.index-arcs-arc.is) in
    let node_is : slice_get p.nodes c.args.node ≡ Some node = slice_get_read p.nodes (length p.nodes) c.args.node node refl c.requires.node (rw c.nodes.ensures.rows at c.index-nodes-node.is) in
    let sums : Sums p b.scale b.bounds c.args.node (get_or at k 0) c.supply_of-supply.result c.net_flow-net.result c.ends.result = record {
      node = node;
      node_is = node_is;
      row = row;
      row_is = row_is;
      touch = at_touches p.arcs c.args.node k row at c.arcs_at-at.ensures.arcs c.loop-arc-test.true row_is;
      supply_is = rw c.scale.ensures.value at (simp (to_z-of_z, scale) at c.supply_of-supply.ensures.value);
      net_lo = c.net_flow-net.ensures.lo;
      net_hi = c.net_flow-net.ensures.hi;
      flow_is = c.ends.ensures.value;
    } in
    one_more p b.scale b.bounds c.args.node at k c.supply_of-supply.result c.net_flow-net.result c.ends.result (row.from == c.args.node) c.loop-arc.invariant sums refl c.in_default.ensures

pub returns-in-Some : goal.returns-in-Some
returns-in-Some c part =
    let p = c.args.p.now in
    let b = c.args.b.now in
    let at = c.arcs_at-at.result.now in
    let k = c.loop-arc.arc-index in
    let row = c.index-arcs-arc.result in
    let node = c.index-nodes-node.result in
    let m = c.in-Some.end in
    let scale : FitsSigned w128 c.scale.result = search rules in
    let value : FitsSigned w128 m.value = search rules in
    let below = arc_within p.arcs c.args.node k at c.arcs_at-at.ensures.arcs c.loop-arc-test.true in
    let row_is : slice_get p.arcs (get_or at k 0) ≡ Some row = slice_get_read p.arcs (length p.arcs) (get_or at k 0) row refl below (rw c.arcs-arcs.ensures.rows at c.index-arcs-arc.is) in
    let node_is : slice_get p.nodes c.args.node ≡ Some node = slice_get_read p.nodes (length p.nodes) c.args.node node refl c.requires.node (rw c.nodes.ensures.rows at c.index-nodes-node.is) in
    let sums : Sums p b.scale b.bounds c.args.node (get_or at k 0) c.supply_of-supply.result c.net_flow-net.result c.ends.result = record {
      node = node;
      node_is = node_is;
      row = row;
      row_is = row_is;
      touch = at_touches p.arcs c.args.node k row at c.arcs_at-at.ensures.arcs c.loop-arc-test.true row_is;
      supply_is = rw c.scale.ensures.value at (simp (to_z-of_z, scale) at c.supply_of-supply.ensures.value);
      net_lo = c.net_flow-net.ensures.lo;
      net_hi = c.net_flow-net.ensures.hi;
      flow_is = c.ends.ensures.value;
    } in
    let found : IsFirstEnd c.ends.result (balance_lets (row.from == c.args.node) c.supply_of-supply.result c.net_flow-net.result c.ends.result) m = c.in-Some.ensures in
    simp (to_z-of_z, value) (first_at_node p b.scale b.bounds c.args.node at k c.supply_of-supply.result c.net_flow-net.result c.ends.result (row.from == c.args.node) m part c.arcs_at-at.ensures.arcs c.loop-arc-test.true c.loop-arc.invariant sums refl found)

pub returns : goal.returns
returns c part =
    let p = c.args.p.now in
    let b = c.args.b.now in
    let at = c.arcs_at-at.result.now in
    let done : c.loop-arc.arc-index ≡ length at = omega arith in
    none_at_node p b.scale b.bounds c.args.node at part c.arcs_at-at.ensures.arcs (subst (λ (k : ℕ). NoneBefore p b.scale b.bounds c.args.node at k) done c.loop-arc.invariant)
