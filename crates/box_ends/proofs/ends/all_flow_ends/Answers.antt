use Rattle.std.proofs.Common.{◌≡◌, ◌∙◌, to_z-of_z, ap, sym, subst, refl, arith, length, map, take, Some}
use Rattle.std.specs.Prelude.{slice_get}
use Rattle.std.proofs.Math.Seq.{take-length}
use Rattle.std.proofs.lemmas.Option.{slice_get_read}
use Rattle.gas_model.specs.Boxes.{flow_ends}
use Rattle.gas_model.specs.BoxLimits.{AreFlowEnds}
use Rattle.box_ends.specs.Scaled.{AreHeld}
use Rattle.gas_model.proofs.LimitFacts.{row_flows}
use Rattle.box_ends.proofs.HeldEnds.{held_flows}
use Rattle.box_ends.proofs.ends.all_flow_ends.Goals as goal

pub flow_ends-requires-clause-low : goal.flow_ends-requires-clause-low
flow_ends-requires-clause-low c =
    let arcs = c.arcs-row-items.result.now in
    let row = c.row-item.result in
    let here : slice_get arcs c.loop-row.row-index ≡ Some row = slice_get_read arcs (length arcs) c.loop-row.row-index row refl c.loop-row-test.true c.row-item.is in
    (row_flows row (c.arcs-row-items.ensures.within.arcs c.loop-row.row-index row (rw c.arcs-row-items.ensures.rows at here))).0

pub flow_ends-requires-clause-high : goal.flow_ends-requires-clause-high
flow_ends-requires-clause-high c =
    let arcs = c.arcs-row-items.result.now in
    let row = c.row-item.result in
    let here : slice_get arcs c.loop-row.row-index ≡ Some row = slice_get_read arcs (length arcs) c.loop-row.row-index row refl c.loop-row-test.true c.row-item.is in
    (row_flows row (c.arcs-row-items.ensures.within.arcs c.loop-row.row-index row (rw c.arcs-row-items.ensures.rows at here))).1

pub returns-clause-value : goal.returns-clause-value
returns-clause-value c =
    let arcs = c.arcs-row-items.result.now in
    let done : c.loop-row.row-index ≡ length arcs = omega arith in
    simp (to_z-of_z, c.ranges.scale) at c.loop-row.invariant ∙ ap (map (flow_ends c.args.scale)) (ap (λ k. take k arcs) done ∙ take-length arcs ∙ c.arcs-row-items.ensures.rows)

pub returns-clause-held : goal.returns-clause-held
returns-clause-held c =
    let arcs = c.arcs-row-items.result.now in
    let done : c.loop-row.row-index ≡ length arcs = omega arith in
    let value = simp (to_z-of_z, c.ranges.scale) at c.loop-row.invariant ∙ ap (map (flow_ends c.args.scale)) (ap (λ k. take k arcs) done ∙ take-length arcs ∙ c.arcs-row-items.ensures.rows) in
    subst (AreHeld (AreFlowEnds c.args.scale)) (sym value) (held_flows c.args.p.now c.args.scale c.requires c.arcs-row-items.ensures.within)
