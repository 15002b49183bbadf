use Rattle.std.proofs.Common.{◌≡◌, ◌∙◌, ap, sym, refl, arith, add-one, length, get_or, drop, Some, false, true}
use Rattle.std.specs.Prelude.{slice_get}
use Rattle.std.specs.List.{list_all}
use Rattle.std.proofs.lemmas.Option.{slice_get_read}
use Rattle.gas_model.proofs.NodeSums.{arc_within}
use Rattle.tree_check.specs.Cuts.{passes_at, is_cut_off}
use Rattle.tree_check.proofs.CutArcs.{passes_row, all_more, all_stops}
use Rattle.tree_check.proofs.cuts.are_cut_off_at.Goals as goal

pub bounds-arcs-arc : goal.bounds-arcs-arc
bounds-arcs-arc c =
    let below = arc_within c.args.p.now.arcs c.args.node c.loop-arc.arc-index c.arcs_at-arc-items.result.now c.arcs_at-arc-items.ensures.arcs c.loop-arc-test.true in
    omega (arith, below, ap length c.arcs-arcs.ensures.rows)

pub is_cut_off-requires-clause-row : goal.is_cut_off-requires-clause-row
is_cut_off-requires-clause-row c =
    let arcs = c.args.p.now.arcs in
    let a = get_or c.arcs_at-arc-items.result.now c.loop-arc.arc-index 0 in
    let below = arc_within arcs c.args.node c.loop-arc.arc-index c.arcs_at-arc-items.result.now c.arcs_at-arc-items.ensures.arcs c.loop-arc-test.true in
    slice_get_read arcs (length arcs) a c.index-arcs-arc.result refl below (rw c.arcs-arcs.ensures.rows at c.index-arcs-arc.is)

pub returns-then-not-is_cut_off : goal.returns-then-not-is_cut_off
returns-then-not-is_cut_off c =
    let arcs = c.args.p.now.arcs in
    let items = c.arcs_at-arc-items.result.now in
    let k = c.loop-arc.arc-index in
    let a = get_or items k 0 in
    let row = c.index-arcs-arc.result in
    let test = is_cut_off c.args.p.now c.args.b.now.part c.args.nodes.now in
    let below = arc_within arcs c.args.node k items c.arcs_at-arc-items.ensures.arcs c.loop-arc-test.true in
    let here : slice_get arcs a ≡ Some row = slice_get_read arcs (length arcs) a row refl below (rw c.arcs-arcs.ensures.rows at c.index-arcs-arc.is) in
    let fails : passes_at test arcs a ≡ false = passes_row test arcs a row here ∙ sym c.is_cut_off.ensures ∙ c.if-not-is_cut_off.true in
    sym (ap (list_all (passes_at test arcs)) (sym c.arcs_at-arc-items.ensures.arcs) ∙ c.loop-arc.invariant ∙ all_stops (passes_at test arcs) items k 0 c.loop-arc-test.true fails)

pub loop-arc-preserved : goal.loop-arc-preserved
loop-arc-preserved c =
    let arcs = c.args.p.now.arcs in
    let items = c.arcs_at-arc-items.result.now in
    let k = c.loop-arc.arc-index in
    let a = get_or items k 0 in
    let row = c.index-arcs-arc.result in
    let test = is_cut_off c.args.p.now c.args.b.now.part c.args.nodes.now in
    let below = arc_within arcs c.args.node k items c.arcs_at-arc-items.ensures.arcs c.loop-arc-test.true in
    let here : slice_get arcs a ≡ Some row = slice_get_read arcs (length arcs) a row refl below (rw c.arcs-arcs.ensures.rows at c.index-arcs-arc.is) in
    let passes : passes_at test arcs a ≡ true = passes_row test arcs a row here ∙ sym c.is_cut_off.ensures ∙ c.if-not-is_cut_off.false in
    c.loop-arc.invariant ∙ all_more (passes_at test arcs) items k 0 c.loop-arc-test.true passes ∙ ap (λ j. list_all (passes_at test arcs) (drop j items)) (sym (add-one k))
