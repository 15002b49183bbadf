use Rattle.std.proofs.Common.{◌≡◌, ◌≤◌, ℕ, ap, subst, refl, arith, ◌+◌, length, get_or, Some, to_z-of_z, to_z, ◌+ℤ◌, FitsSigned}
use Rattle.std.specs.Prelude.{slice_get}
use Rattle.std.specs.Int.{w128}
use Rattle.std.proofs.lemmas.Option.{slice_get_read}
use borrow.Author.Tests.{lt-ltb}
use Rattle.gas_model.specs.declared.rows.Ends.{Ends}
use Rattle.gas_model.proofs.NodeSums.{NetSums, arc_within, few_at, net_step, net_whole, whole_rest}
use Rattle.element_laws.specs.Sizes.{most_flow}
use Rattle.tree_rules.specs.Rules.{flow_lo, flow_hi}
use Rattle.box_rules.proofs.SideFits.{flow_fits}
use Rattle.box_rules.proofs.NodeFlows.{net_size, sum_fits}
use Rattle.box_rules.proofs.balance.net_flow.Goals as goal

pub bounds-arcs-arc : goal.bounds-arcs-arc
bounds-arcs-arc c =
    let below = arc_within c.args.p.now.arcs c.args.node c.loop-arc.arc-index c.arcs_at-at.result.now c.arcs_at-at.ensures.arcs c.loop-arc-test.true in
    omega (arith, below, ap length c.arcs-arcs.ensures.rows)

pub ends-q-requires : goal.ends-q-requires
ends-q-requires c =
    let at = c.arcs_at-at.result.now in
    let k = c.loop-arc.arc-index in
    let below = arc_within c.args.p.now.arcs c.args.node k at c.arcs_at-at.ensures.arcs c.loop-arc-test.true in
    let flows = c.requires.bounds.flows in
    lt-ltb (get_or at k 0) (length c.args.b.now.bounds.flows) (omega (arith, below, flows))

pub loop-arc-preserved : goal.loop-arc-preserved
loop-arc-preserved c =
    let arcs = c.args.p.now.arcs in
    let at = c.arcs_at-at.result.now in
    let k = c.loop-arc.arc-index in
    let row = c.index-arcs-arc.result in
    let q = c.ends-q.result in
    let term = c.taken-term.result in
    let lo = to_z w128 c.loop-arc.lo-bits in
    let hi = to_z w128 c.loop-arc.hi-bits in
    let fl = flow_lo c.args.b.now.bounds in
    let fh = flow_hi c.args.b.now.bounds in
    let below = arc_within arcs c.args.node k at c.arcs_at-at.ensures.arcs c.loop-arc-test.true in
    let is = rw c.arcs-arcs.ensures.rows at c.index-arcs-arc.is in
    let here : slice_get arcs (get_or at k 0) ≡ Some row = slice_get_read arcs (length arcs) (get_or at k 0) row refl below is in
    let ql : q.lo ≡ fl (get_or at k 0) = ap (λ (e : Ends). e.lo) c.ends-q.ensures.value in
    let qh : q.hi ≡ fh (get_or at k 0) = ap (λ (e : Ends). e.hi) c.ends-q.ensures.value in
    let low = net_step most_flow fl fh arcs c.args.node at k lo term.lo q.lo q.hi row c.loop-arc.invariant.0 c.loop-arc-test.true here ql qh c.taken-term.ensures.safe.lo c.taken-term.ensures.lo in
    let high = net_step most_flow fh fl arcs c.args.node at k hi term.hi q.hi q.lo row c.loop-arc.invariant.1 c.loop-arc-test.true here qh ql c.taken-term.ensures.safe.hi c.taken-term.ensures.hi in
    let few : k + 1 ≤ 2000 = omega (arith, few_at arcs c.args.node at c.arcs_at-at.ensures.arcs, c.arcs_at-at.ensures.within.few_arcs) in
    let lo_fits : FitsSigned w128 (lo +ℤ term.lo) = sum_fits (lo +ℤ term.lo) (net_size fl fh arcs c.args.node at (k + 1) (lo +ℤ term.lo) low few) in
    let hi_fits : FitsSigned w128 (hi +ℤ term.hi) = sum_fits (hi +ℤ term.hi) (net_size fh fl arcs c.args.node at (k + 1) (hi +ℤ term.hi) high few) in
    let term_lo : FitsSigned w128 term.lo = flow_fits term.lo c.taken-term.ensures.safe.lo in
    let term_hi : FitsSigned w128 term.hi = flow_fits term.hi c.taken-term.ensures.safe.hi in
    simp (to_z-of_z, term_lo, term_hi, lo_fits, hi_fits) (low, high)

pub returns-clause-lo : goal.returns-clause-lo
returns-clause-lo c =
    let arcs = c.args.p.now.arcs in
    let at = c.arcs_at-at.result.now in
    let x = flow_lo c.args.b.now.bounds in
    let y = flow_hi c.args.b.now.bounds in
    let total = to_z w128 c.loop-arc.lo-bits in
    let done : c.loop-arc.arc-index ≡ length at = omega arith in
    net_whole most_flow x y arcs c.args.node at total (whole_rest arcs c.arcs_at-at.ensures.within.apart) c.arcs_at-at.ensures.arcs (subst (λ (k : ℕ). NetSums most_flow x y arcs c.args.node at k total) done c.loop-arc.invariant.0)

pub returns-clause-hi : goal.returns-clause-hi
returns-clause-hi c =
    let arcs = c.args.p.now.arcs in
    let at = c.arcs_at-at.result.now in
    let x = flow_hi c.args.b.now.bounds in
    let y = flow_lo c.args.b.now.bounds in
    let total = to_z w128 c.loop-arc.hi-bits in
    let done : c.loop-arc.arc-index ≡ length at = omega arith in
    net_whole most_flow x y arcs c.args.node at total (whole_rest arcs c.arcs_at-at.ensures.within.apart) c.arcs_at-at.ensures.arcs (subst (λ (k : ℕ). NetSums most_flow x y arcs c.args.node at k total) done c.loop-arc.invariant.1)

pub returns-clause-sums : goal.returns-clause-sums
returns-clause-sums c =
    let arcs = c.args.p.now.arcs in
    let at = c.arcs_at-at.result.now in
    let x = flow_lo c.args.b.now.bounds in
    let y = flow_hi c.args.b.now.bounds in
    let k = c.loop-arc.arc-index in
    let few : k ≤ 2000 = omega (arith, few_at arcs c.args.node at c.arcs_at-at.ensures.arcs, c.arcs_at-at.ensures.within.few_arcs) in
    record {
      lo = net_size x y arcs c.args.node at k (to_z w128 c.loop-arc.lo-bits) c.loop-arc.invariant.0 few;
      hi = net_size y x arcs c.args.node at k (to_z w128 c.loop-arc.hi-bits) c.loop-arc.invariant.1 few;
    }
