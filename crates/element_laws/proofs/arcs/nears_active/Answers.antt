use Rattle.std.proofs.Common.{◌∙◌, sym, to_z-of_z, FitsSigned, w64, rules}
use Rattle.element_laws.proofs.Connectives.{and_first, and_second}
use Rattle.element_laws.proofs.arcs.nears_active.Goals as goal

pub returns-then-flows_down : goal.returns-then-flows_down
returns-then-flows_down c =
    let k = c.in-Control in
    let in_min : FitsSigned w64 k.in_min = search rules in
    let out_max : FitsSigned w64 k.out_max = search rules in
    let red_min : FitsSigned w64 k.red_min = search rules in
    let red_max : FitsSigned w64 k.red_max = search rules in
    let says = simp (to_z-of_z, in_min, out_max, c.ranges.u, c.ranges.v) at c.keeps_inner.ensures in
    let test = simp (to_z-of_z, red_min, red_max, c.ranges.q, c.ranges.u, c.ranges.v) at c.flows_down.ensures in
    rw k.is (says ∙ and_second _ _ (sym test ∙ c.if-flows_down.true))

pub returns-else-flows_down : goal.returns-else-flows_down
returns-else-flows_down c =
    let k = c.in-Control in
    let red_min : FitsSigned w64 k.red_min = search rules in
    let red_max : FitsSigned w64 k.red_max = search rules in
    let test = simp (to_z-of_z, red_min, red_max, c.ranges.q, c.ranges.u, c.ranges.v) at c.flows_down.ensures in
    rw k.is (test ∙ and_first _ _ (sym test ∙ c.if-flows_down.false))

pub returns-then-flows_up : goal.returns-then-flows_up
returns-then-flows_up c =
    let k = c.in-Station in
    let in_min : FitsSigned w64 k.in_min = search rules in
    let out_max : FitsSigned w64 k.out_max = search rules in
    let num : FitsSigned w64 k.ratio_num = search rules in
    let den : FitsSigned w64 k.ratio_den = search rules in
    let rise : FitsSigned w64 k.rise_max = search rules in
    let says = simp (to_z-of_z, in_min, out_max, c.ranges.u, c.ranges.v) at c.keeps_inner-then-flows_up.ensures in
    let test = simp (to_z-of_z, num, den, rise, c.ranges.q, c.ranges.u, c.ranges.v) at c.flows_up.ensures in
    rw k.is (says ∙ and_second _ _ (sym test ∙ c.if-flows_up.true))

pub returns-else-flows_up : goal.returns-else-flows_up
returns-else-flows_up c =
    let k = c.in-Station in
    let num : FitsSigned w64 k.ratio_num = search rules in
    let den : FitsSigned w64 k.ratio_den = search rules in
    let rise : FitsSigned w64 k.rise_max = search rules in
    let test = simp (to_z-of_z, num, den, rise, c.ranges.q, c.ranges.u, c.ranges.v) at c.flows_up.ensures in
    rw k.is (test ∙ and_first _ _ (sym test ∙ c.if-flows_up.false))
