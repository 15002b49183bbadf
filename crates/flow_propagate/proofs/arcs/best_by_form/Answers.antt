use Rattle.std.proofs.Common.{◌≡◌, ◌<◌, ◌∙◌, sym, subst, refl, to_z, of_z, to_z-of_z, rules, ℤ, FitsSigned, Some, length}
use Rattle.std.specs.Prelude.{slice_get}
use Rattle.std.specs.Int.{w128}
use Rattle.std.proofs.lemmas.Option.{slice_get_read}
use Rattle.box_rules.specs.ArcLimits.{AreBoxSides}
use Rattle.tree_rules.specs.declared.arc_vars.ArcVar.TheVariants.{OfFlow}
use Rattle.tight_steps.specs.Moves.{allows, part_box}
use Rattle.tight_steps.specs.NewEnds.{HasNoEnd, IsFirstEnd}
use Rattle.tight_steps.proofs.ArcMoves.{HasForm}
use Rattle.flow_propagate.proofs.ArcFlows.{ruleless_none, endless_none, first_end}
use Rattle.flow_propagate.proofs.arcs.best_by_form.Goals as goal

pub sides-requires-clause-row : goal.sides-requires-clause-row
sides-requires-clause-row c = slice_get_read c.args.p.now.arcs (length c.args.p.now.arcs) c.args.arc c.index-arcs-arc.result refl c.requires.arc (rw c.arcs.ensures.rows at c.index-arcs-arc.is)

pub best_end-requires-clause-ends : goal.best_end-requires-clause-ends
best_end-requires-clause-ends c =
    let scale : FitsSigned w128 c.scale.result = search rules in
    simp (to_z-of_z, scale) (subst (λ (K : ℤ). AreBoxSides K c.sides.result) (sym c.scale.ensures.value) c.sides.ensures.limits)

pub returns-in_err-rule : goal.returns-in_err-rule
returns-in_err-rule c part law =
    let row = c.index-arcs-arc.result in
    let at : slice_get c.args.p.now.arcs c.args.arc ≡ Some row = slice_get_read c.args.p.now.arcs (length c.args.p.now.arcs) c.args.arc row refl c.requires.arc (rw c.arcs.ensures.rows at c.index-arcs-arc.is) in
    let box = part_box c.args.b.now.scale part c.args.b.now.bounds in
    let form = c.args.form.now in
    let has : HasForm c.args.p.now box c.args.arc row form = record { row_is = at; form_is = law row at } in
    rw c.from_residual.ensures (ruleless_none c.args.p.now box c.args.arc row form has (sym c.in_err-rule.ensures))

pub returns-in_err-end : goal.returns-in_err-end
returns-in_err-end c part law =
    let row = c.index-arcs-arc.result in
    let at : slice_get c.args.p.now.arcs c.args.arc ≡ Some row = slice_get_read c.args.p.now.arcs (length c.args.p.now.arcs) c.args.arc row refl c.requires.arc (rw c.arcs.ensures.rows at c.index-arcs-arc.is) in
    let box = part_box c.args.b.now.scale part c.args.b.now.bounds in
    let form = c.args.form.now in
    let e = c.sides.result in
    let scale : FitsSigned w128 c.scale.result = search rules in
    let has : HasForm c.args.p.now box c.args.arc row form = record { row_is = at; form_is = law row at } in
    let raw : HasNoEnd e.q (allows c.in_ok-rule.rule form (to_z w128 (of_z w128 c.scale.result)) e OfFlow) = c.in_err-end.ensures in
    let none : HasNoEnd e.q (allows c.in_ok-rule.rule form c.scale.result e OfFlow) = simp (to_z-of_z, scale) at raw in
    let here : HasNoEnd e.q (allows c.in_ok-rule.rule form c.args.b.now.scale e OfFlow) = subst (λ (K : ℤ). HasNoEnd e.q (allows c.in_ok-rule.rule form K e OfFlow)) c.scale.ensures.value none in
    rw c.from_residual-in_err-end.ensures (endless_none c.args.p.now box c.args.arc row form c.in_ok-rule.rule e has (sym c.in_ok-rule.ensures) c.sides.ensures.ends here)

pub returns : goal.returns
returns c part law =
    let row = c.index-arcs-arc.result in
    let at : slice_get c.args.p.now.arcs c.args.arc ≡ Some row = slice_get_read c.args.p.now.arcs (length c.args.p.now.arcs) c.args.arc row refl c.requires.arc (rw c.arcs.ensures.rows at c.index-arcs-arc.is) in
    let box = part_box c.args.b.now.scale part c.args.b.now.bounds in
    let form = c.args.form.now in
    let e = c.sides.result in
    let m = c.in_ok-end.end in
    let scale : FitsSigned w128 c.scale.result = search rules in
    let value : FitsSigned w128 m.value = search rules in
    let has : HasForm c.args.p.now box c.args.arc row form = record { row_is = at; form_is = law row at } in
    let raw : IsFirstEnd e.q (allows c.in_ok-rule.rule form (to_z w128 (of_z w128 c.scale.result)) e OfFlow) m = c.in_ok-end.ensures in
    let found : IsFirstEnd e.q (allows c.in_ok-rule.rule form c.scale.result e OfFlow) m = simp (to_z-of_z, scale) at raw in
    let here : IsFirstEnd e.q (allows c.in_ok-rule.rule form c.args.b.now.scale e OfFlow) m = subst (λ (K : ℤ). IsFirstEnd e.q (allows c.in_ok-rule.rule form K e OfFlow) m) c.scale.ensures.value found in
    simp (to_z-of_z, value) (first_end c.args.p.now box c.args.arc row form c.in_ok-rule.rule e m has (sym c.in_ok-rule.ensures) c.sides.ensures.ends here)
