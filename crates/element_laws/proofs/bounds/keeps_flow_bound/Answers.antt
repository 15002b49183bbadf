use Rattle.std.proofs.Common.{◌∙◌, sym, to_z-of_z, pos, FitsSigned, w64, rules}
use Rattle.std.specs.Int.{w128}
use Rattle.gas_model.specs.Points.{keeps_flow}
use Rattle.gas_model.specs.Near.{number_at}
use Rattle.integer_laws.proofs.Ring.{one_mul}
use Rattle.element_laws.proofs.Widths.{widened}
use Rattle.element_laws.proofs.Failing.{passes_read}
use Rattle.element_laws.proofs.bounds.keeps_flow_bound.Goals as goal

pub returns : goal.returns
returns c =
    let arc = c.args.arc in
    let row = c.index-arcs-arc.result in
    let low : FitsSigned w64 row.q_min = search rules in
    let high : FitsSigned w64 row.q_max = search rules in
    let flow : FitsSigned w128 c.flow_at.result = search rules in
    let value = c.flow_at.ensures.value in
    let says = simp (to_z-of_z, low, high, flow, widened row.q_min low, widened row.q_max high) at c.is_between.ensures in
    let is = rw c.arcs.ensures.rows at c.index-arcs-arc.is in
    let read = passes_read (λ r. keeps_flow r (pos 1) (number_at c.args.setting.now.flows arc)) c.args.p.now.arcs arc row c.requires.arc is in
    rw value at says ∙ sym (rw (one_mul row.q_min, one_mul row.q_max) at read)
