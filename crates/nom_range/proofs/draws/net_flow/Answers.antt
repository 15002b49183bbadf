use Rattle.std.proofs.Common.{◌≡◌, ◌≤◌, ℕ, ap, subst, refl, arith, rules, ◌+◌, ◌^◌, length, get_or, Some, to_z-of_z, to_z, w64, ◌+ℤ◌, FitsSigned}
use Rattle.std.specs.Prelude.{slice_get}
use Rattle.std.proofs.lemmas.Int.{fits_signed_from_abs}
use Rattle.std.proofs.lemmas.Option.{slice_get_read}
use Rattle.integer_laws.specs.Sizes.{IsWithin}
use Rattle.gas_model.specs.Near.{number_at}
use Rattle.gas_model.proofs.LimitFacts.{flow_size}
use Rattle.gas_model.proofs.NodeSums.{NetSums, arc_within, few_at, taken_size, net_step, net_whole, whole_rest}
use Rattle.nom_range.proofs.draws.net_flow.Goals as goal

pub bounds-arcs-arc : goal.bounds-arcs-arc
bounds-arcs-arc c =
    let below = arc_within c.args.p.now.arcs c.args.node c.loop-arc.arc-index c.arcs_at-at.result.now c.arcs_at-at.ensures.arcs c.loop-arc-test.true in
    omega (arith, below, ap length c.arcs-arcs.ensures.rows)

pub flow_at-requires-clause-arc : goal.flow_at-requires-clause-arc
flow_at-requires-clause-arc c =
    let below = arc_within c.args.p.now.arcs c.args.node c.loop-arc.arc-index c.arcs_at-at.result.now c.arcs_at-at.ensures.arcs c.loop-arc-test.true in
    omega (arith, below, c.requires.flows)

pub overflow_add-total : goal.overflow_add-total
overflow_add-total c =
    let arcs = c.args.p.now.arcs in
    let at = c.arcs_at-at.result.now in
    let k = c.loop-arc.arc-index in
    let row = c.index-arcs-arc.result in
    let total = to_z w64 c.loop-arc.total-bits in
    let below = arc_within arcs c.args.node k at c.arcs_at-at.ensures.arcs c.loop-arc-test.true in
    let is = rw c.arcs-arcs.ensures.rows at c.index-arcs-arc.is in
    let here : slice_get arcs (get_or at k 0) ≡ Some row = slice_get_read arcs (length arcs) (get_or at k 0) row refl below is in
    let flow : FitsSigned w64 c.flow_at.result = search rules in
    let term : FitsSigned w64 c.taken_from-total.result = search rules in
    let term_is = simp (to_z-of_z, flow) at c.taken_from-total.ensures in
    let x = number_at c.args.setting.now.flows in
    let size = flow_size c.flow_at.result c.flow_at.ensures.limit in
    let small : IsWithin (10 ^ 12) c.taken_from-total.result = rw term_is (taken_size row c.args.node (10 ^ 12) c.flow_at.result c.flow_at.result size size) in
    let next = net_step (10 ^ 12) x x arcs c.args.node at k total c.taken_from-total.result c.flow_at.result c.flow_at.result row c.loop-arc.invariant c.loop-arc-test.true here c.flow_at.ensures.value c.flow_at.ensures.value small term_is in
    let few : k + 1 ≤ 2000 = omega (arith, few_at arcs c.args.node at c.arcs_at-at.ensures.arcs, c.arcs_at-at.ensures.within.few_arcs) in
    let fits : FitsSigned w64 (total +ℤ c.taken_from-total.result) = fits_signed_from_abs w64 (total +ℤ c.taken_from-total.result) (omega (arith, next.size)) in
    simp (to_z-of_z, term) fits

pub loop-arc-preserved : goal.loop-arc-preserved
loop-arc-preserved c =
    let arcs = c.args.p.now.arcs in
    let at = c.arcs_at-at.result.now in
    let k = c.loop-arc.arc-index in
    let row = c.index-arcs-arc.result in
    let total = to_z w64 c.loop-arc.total-bits in
    let below = arc_within arcs c.args.node k at c.arcs_at-at.ensures.arcs c.loop-arc-test.true in
    let is = rw c.arcs-arcs.ensures.rows at c.index-arcs-arc.is in
    let here : slice_get arcs (get_or at k 0) ≡ Some row = slice_get_read arcs (length arcs) (get_or at k 0) row refl below is in
    let flow : FitsSigned w64 c.flow_at.result = search rules in
    let term : FitsSigned w64 c.taken_from-total.result = search rules in
    let term_is = simp (to_z-of_z, flow) at c.taken_from-total.ensures in
    let x = number_at c.args.setting.now.flows in
    let size = flow_size c.flow_at.result c.flow_at.ensures.limit in
    let small : IsWithin (10 ^ 12) c.taken_from-total.result = rw term_is (taken_size row c.args.node (10 ^ 12) c.flow_at.result c.flow_at.result size size) in
    let next = net_step (10 ^ 12) x x arcs c.args.node at k total c.taken_from-total.result c.flow_at.result c.flow_at.result row c.loop-arc.invariant c.loop-arc-test.true here c.flow_at.ensures.value c.flow_at.ensures.value small term_is in
    let few : k + 1 ≤ 2000 = omega (arith, few_at arcs c.args.node at c.arcs_at-at.ensures.arcs, c.arcs_at-at.ensures.within.few_arcs) in
    let fits : FitsSigned w64 (total +ℤ c.taken_from-total.result) = fits_signed_from_abs w64 (total +ℤ c.taken_from-total.result) (omega (arith, next.size)) in
    simp (to_z-of_z, term, fits) next

pub returns-clause-value : goal.returns-clause-value
returns-clause-value c =
    let arcs = c.args.p.now.arcs in
    let at = c.arcs_at-at.result.now in
    let x = number_at c.args.setting.now.flows in
    let total = to_z w64 c.loop-arc.total-bits in
    let done : c.loop-arc.arc-index ≡ length at = omega arith in
    net_whole (10 ^ 12) x x arcs c.args.node at total (whole_rest arcs c.arcs_at-at.ensures.within.apart) c.arcs_at-at.ensures.arcs (subst (λ (k : ℕ). NetSums (10 ^ 12) x x arcs c.args.node at k total) done c.loop-arc.invariant)

pub returns-clause-size : goal.returns-clause-size
returns-clause-size c =
    let few = few_at c.args.p.now.arcs c.args.node c.arcs_at-at.result.now c.arcs_at-at.ensures.arcs in
    omega (arith, few, c.arcs_at-at.ensures.within.few_arcs, c.loop-arc.invariant.size)
