use Rattle.std.proofs.Common.{◌≡◌, ◌≤◌, ◌+◌, ap, sym, refl, arith, length, get_or, Some, to_z-of_z, to_z, ◌+ℤ◌, pos, FitsSigned}
use Rattle.std.specs.Prelude.{slice_get}
use Rattle.std.specs.Option.{option_map_or}
use Rattle.std.specs.Int.{w128}
use Rattle.std.proofs.lemmas.Option.{slice_get_read}
use Rattle.gas_model.specs.declared.rows.NodeRow.{NodeRow}
use Rattle.tree_rules.specs.NodeRules.{least_supply, greatest_supply}
use Rattle.gas_model.proofs.LimitFacts.{flow_size, node_supplies}
use Rattle.tree_check.proofs.CutNodes.{supply_step, supply_fits, inside_at, few_nodes, small_flow, wide_flow}
use Rattle.tree_check.proofs.cuts.supplies.Goals as goal

pub loop-node-preserved : goal.loop-node-preserved
loop-node-preserved c =
    let nodes = c.args.p.now.nodes in
    let ns = c.args.nodes.now in
    let k = c.loop-node.node-index in
    let row = c.index-rows-node.result in
    let lo = to_z w128 c.loop-node.lo-bits in
    let hi = to_z w128 c.loop-node.hi-bits in
    let below = inside_at (length nodes) ns k c.requires.inside c.loop-node-test.true in
    let is = rw c.nodes-rows.ensures.rows at c.index-rows-node.is in
    let here : slice_get nodes (get_or ns k 0) ≡ Some row = slice_get_read nodes (length nodes) (get_or ns k 0) row refl below is in
    let supply = node_supplies row (c.nodes-rows.ensures.within.nodes (get_or ns k 0) row here) in
    let least : row.b_min ≡ least_supply nodes (get_or ns k 0) = ap (λ o. option_map_or (λ (node : NodeRow). node.b_min) o (pos 0)) (sym here) in
    let most : row.b_max ≡ greatest_supply nodes (get_or ns k 0) = ap (λ o. option_map_or (λ (node : NodeRow). node.b_max) o (pos 0)) (sym here) in
    let low = supply_step (least_supply nodes) ns k lo row.b_min c.loop-node.invariant.0 c.loop-node-test.true least (flow_size row.b_min supply.0) in
    let high = supply_step (greatest_supply nodes) ns k hi row.b_max c.loop-node.invariant.1 c.loop-node-test.true most (flow_size row.b_max supply.1) in
    let few : k + 1 ≤ 2000 = omega (arith, few_nodes (length nodes) ns c.requires.ascend c.requires.inside, c.nodes-rows.ensures.within.few_nodes) in
    let lo_fits : FitsSigned w128 (lo +ℤ row.b_min) = supply_fits (least_supply nodes) ns (k + 1) (lo +ℤ row.b_min) low few in
    let hi_fits : FitsSigned w128 (hi +ℤ row.b_max) = supply_fits (greatest_supply nodes) ns (k + 1) (hi +ℤ row.b_max) high few in
    simp (to_z-of_z, small_flow row.b_min supply.0, small_flow row.b_max supply.1, wide_flow row.b_min supply.0, wide_flow row.b_max supply.1, lo_fits, hi_fits) (low, high)
