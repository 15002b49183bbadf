use Rattle.std.proofs.Common.{◌∙◌, sym, to_z-of_z, pos, FitsSigned, w64, rules}
use Rattle.std.specs.Int.{w128}
use Rattle.gas_model.specs.Points.{balances}
use Rattle.gas_model.specs.Near.{number_at}
use Rattle.integer_laws.proofs.Ring.{one_mul}
use Rattle.element_laws.proofs.Widths.{widened}
use Rattle.element_laws.proofs.Failing.{passes_read}
use Rattle.element_laws.proofs.balance.keeps_balance.Goals as goal

pub returns : goal.returns
returns c =
    let node = c.args.node in
    let arcs = c.args.p.now.arcs in
    let row = c.index-nodes-node.result in
    let low : FitsSigned w64 row.b_min = search rules in
    let high : FitsSigned w64 row.b_max = search rules in
    let net : FitsSigned w128 c.net_flow.result = search rules in
    let value = c.net_flow.ensures in
    let says = simp (to_z-of_z, low, high, net, widened row.b_min low, widened row.b_max high) at c.is_between.ensures in
    let is = rw c.nodes.ensures.rows at c.index-nodes-node.is in
    let read = passes_read (λ r. balances r (pos 1) (number_at c.args.setting.now.flows) node arcs) c.args.p.now.nodes node row c.requires.node is in
    rw value at says ∙ sym (rw (one_mul row.b_min, one_mul row.b_max) at read)
