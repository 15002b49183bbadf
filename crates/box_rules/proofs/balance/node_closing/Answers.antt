use Rattle.std.proofs.Common.{◌∙◌, rules, to_z-of_z, FitsSigned}
use Rattle.std.specs.Int.{w128}
use Rattle.std.proofs.lemmas.Option.{slice_get_within}
use Rattle.box_rules.specs.Balance.{net_low, net_high}
use Rattle.gas_model.proofs.LimitFacts.{node_supplies}
use Rattle.box_rules.proofs.NodeFlows.{beyond_is}
use Rattle.box_rules.proofs.balance.node_closing.Goals as goal

pub supply_of-requires-clause-low : goal.supply_of-requires-clause-low
supply_of-requires-clause-low c = (node_supplies c.args.node_row.now (c.requires.within.nodes c.args.node c.args.node_row.now c.requires.node)).0

pub supply_of-requires-clause-high : goal.supply_of-requires-clause-high
supply_of-requires-clause-high c = (node_supplies c.args.node_row.now (c.requires.within.nodes c.args.node c.args.node_row.now c.requires.node)).1

pub net_flow-requires-clause-node : goal.net_flow-requires-clause-node
net_flow-requires-clause-node c = slice_get_within c.args.p.now.nodes c.args.node c.args.node_row.now c.requires.node

pub returns : goal.returns
returns c =
    let b = c.args.b.now in
    let scale : FitsSigned w128 c.scale.result = search rules in
    let supply = rw c.scale.ensures.value at (simp (to_z-of_z, scale) at c.supply_of.ensures.value) in
    c.is_beyond.ensures
    ∙ beyond_is c.args.node_row.now b.scale (net_low b.bounds c.args.node c.args.p.now.arcs) (net_high b.bounds c.args.node c.args.p.now.arcs) c.supply_of.result c.net_flow.result supply c.net_flow.ensures.lo c.net_flow.ensures.hi
