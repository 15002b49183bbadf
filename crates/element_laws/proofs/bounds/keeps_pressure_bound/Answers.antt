use Rattle.std.proofs.Common.{◌∙◌, sym, to_z-of_z, pos, FitsSigned, w64, rules}
use Rattle.std.specs.Int.{w128}
use Rattle.gas_model.specs.Curves.{square}
use Rattle.gas_model.specs.Points.{keeps_square}
use Rattle.gas_model.specs.Near.{number_at}
use Rattle.integer_laws.proofs.Ring.{one_mul}
use Rattle.element_laws.proofs.Failing.{passes_read}
use Rattle.element_laws.proofs.bounds.keeps_pressure_bound.Goals as goal

pub returns : goal.returns
returns c =
    let node = c.args.node in
    let row = c.index-nodes-node.result in
    let low : FitsSigned w64 row.p_min = search rules in
    let high : FitsSigned w64 row.p_max = search rules in
    let at : FitsSigned w128 c.square_at.result = search rules in
    let first : FitsSigned w128 c.square.result = search rules in
    let second : FitsSigned w128 c.square-2.result = search rules in
    let value = c.square_at.ensures.value in
    let low_is = simp (to_z-of_z, low) at c.square.ensures in
    let high_is = simp (to_z-of_z, high) at c.square-2.ensures in
    let says = simp (to_z-of_z, first, second, at) at c.is_between.ensures in
    let is = rw c.nodes.ensures.rows at c.index-nodes-node.is in
    let read = passes_read (λ r. keeps_square r (pos 1) (number_at c.args.setting.now.squares node)) c.args.p.now.nodes node row c.requires.node is in
    rw (value, low_is, high_is) at says ∙ sym (rw (one_mul (square row.p_min), one_mul (square row.p_max)) at read)
