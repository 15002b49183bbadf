use Rattle.std.proofs.Common.{◌∙◌, ap, rules, to_z-of_z, FitsSigned}
use Rattle.std.specs.Int.{w128}
use Rattle.std.proofs.lemmas.Option.{slice_get_within}
use Rattle.gas_model.specs.declared.rows.Ends.{Ends}
use Rattle.tree_rules.specs.Rules.{flow_lo, flow_hi}
use Rattle.box_rules.proofs.ArcVars.{arc_vars}
use Rattle.element_laws.proofs.BoxEnds.{safe_flows}
use Rattle.gas_model.proofs.LimitFacts.{node_supplies}
use Rattle.box_rules.proofs.NodeFlows.{leaving_is, entering_is, flow_leaves, flow_enters}
use Rattle.tree_check.proofs.balance.flow_step.Goals as goal

pub supply_of-supply-requires-clause-low : goal.supply_of-supply-requires-clause-low
supply_of-supply-requires-clause-low c = (node_supplies c.args.node_row.now (c.requires.fits.within.nodes c.args.node c.args.node_row.now c.requires.node)).0

pub supply_of-supply-requires-clause-high : goal.supply_of-supply-requires-clause-high
supply_of-supply-requires-clause-high c = (node_supplies c.args.node_row.now (c.requires.fits.within.nodes c.args.node c.args.node_row.now c.requires.node)).1

pub ends-q-requires : goal.ends-q-requires
ends-q-requires c = (arc_vars c.args.p.now c.args.b.now.bounds c.args.arc c.args.row.now c.requires.fits.within c.requires.fits.bounds c.requires.row).q

pub balance_lets-requires-clause-flow : goal.balance_lets-requires-clause-flow
balance_lets-requires-clause-flow c = safe_flows c.args.b.now.scale c.ends-q.result c.ends-q.ensures.scale c.ends-q.ensures.limits

pub balance_lets-requires-then-row-node-2-clause-flow : goal.balance_lets-requires-then-row-node-2-clause-flow
balance_lets-requires-then-row-node-2-clause-flow c = safe_flows c.args.b.now.scale c.ends-q.result c.ends-q.ensures.scale c.ends-q.ensures.limits

pub returns-then-row-node : goal.returns-then-row-node
returns-then-row-node c =
    let b = c.args.b.now in
    let scale : FitsSigned w128 c.scale.result = search rules in
    let supply = rw c.scale.ensures.value at (simp (to_z-of_z, scale) at c.supply_of-supply.ensures.value) in
    let lo = rw c.bounds.ensures.bounds at c.net_flow-net.ensures.lo in
    let hi = rw c.bounds.ensures.bounds at c.net_flow-net.ensures.hi in
    (simp (to_z-of_z, c.ranges.value) at c.balance_lets.ensures)
    ∙ leaving_is c.args.node_row.now b.scale c.supply_of-supply.result c.net_flow-net.result c.ends-q.result (flow_lo b.bounds) (flow_hi b.bounds) c.args.node c.args.p.now.arcs c.args.arc c.args.row.now c.args.low c.args.value
    c.requires.row c.if-row-node.true supply lo hi (ap (λ (e : Ends). e.lo) c.ends-q.ensures.value) (ap (λ (e : Ends). e.hi) c.ends-q.ensures.value)
    ∙ flow_leaves c.args.p.now b c.args.node c.args.arc c.args.low c.args.value c.args.node_row.now c.args.row.now c.if-row-node.true

pub returns-then-row-node-2 : goal.returns-then-row-node-2
returns-then-row-node-2 c =
    let b = c.args.b.now in
    let scale : FitsSigned w128 c.scale.result = search rules in
    let supply = rw c.scale.ensures.value at (simp (to_z-of_z, scale) at c.supply_of-supply.ensures.value) in
    let lo = rw c.bounds.ensures.bounds at c.net_flow-net.ensures.lo in
    let hi = rw c.bounds.ensures.bounds at c.net_flow-net.ensures.hi in
    (simp (to_z-of_z, c.ranges.value) at c.balance_lets-then-row-node-2.ensures)
    ∙ entering_is c.args.node_row.now b.scale c.supply_of-supply.result c.net_flow-net.result c.ends-q.result (flow_lo b.bounds) (flow_hi b.bounds) c.args.node c.args.p.now.arcs c.args.arc c.args.row.now c.args.low c.args.value
    c.requires.row c.if-row-node-2.true supply lo hi (ap (λ (e : Ends). e.lo) c.ends-q.ensures.value) (ap (λ (e : Ends). e.hi) c.ends-q.ensures.value)
    ∙ flow_enters c.args.p.now b c.args.node c.args.arc c.args.low c.args.value c.args.node_row.now c.args.row.now c.if-row-node.false c.if-row-node-2.true

pub net_flow-net-requires-clause-node : goal.net_flow-net-requires-clause-node
net_flow-net-requires-clause-node c = slice_get_within c.args.p.now.nodes c.args.node c.args.node_row.now c.requires.node
