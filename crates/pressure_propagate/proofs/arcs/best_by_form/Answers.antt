use Rattle.std.proofs.Common.{◌≡◌, ◌<◌, ◌∙◌, sym, subst, refl, to_z, of_z, to_z-of_z, rules, ℤ, FitsSigned, Some, length}
use Rattle.std.specs.Prelude.{slice_get}
use Rattle.std.specs.Int.{w128}
use Rattle.std.proofs.lemmas.Option.{slice_get_read}
use Rattle.gas_model.specs.declared.rows.ArcRow.{ArcRow}
use Rattle.box_rules.specs.ArcLimits.{AreBoxSides}
use Rattle.tree_rules.specs.declared.arc_vars.ArcVar.TheVariants.{OfFrom, OfTo}
use Rattle.tight_steps.specs.Moves.{part_box, is_square, square_number, IsFirstMove}
use Rattle.tight_steps.specs.declared.law.Law.TheVariants.{AtArc}
use Rattle.tight_steps.proofs.ArcMoves.{HasForm}
use Rattle.pressure_propagate.specs.SquareRules.{HasNoRuleEnd, IsFirstRuleEnd}
use Rattle.pressure_propagate.proofs.SquareMoves.{neither_square, from_square, to_square, square_step}
use Rattle.pressure_propagate.proofs.arcs.best_by_form.Goals as goal

pub sides-e-requires-clause-row : goal.sides-e-requires-clause-row
sides-e-requires-clause-row c = slice_get_read c.args.p.now.arcs (length c.args.p.now.arcs) c.args.arc c.index-arcs-arc.result refl c.requires.arc (rw c.arcs.ensures.rows at c.index-arcs-arc.is)

pub first_end-requires-clause-ends : goal.first_end-requires-clause-ends
first_end-requires-clause-ends c =
    let scale : FitsSigned w128 c.scale-scale.result = search rules in
    simp (to_z-of_z, scale) (subst (λ (K : ℤ). AreBoxSides K c.sides-e.result) (sym c.scale-scale.ensures.value) c.sides-e.ensures.limits)

pub first_end-requires-2-clause-ends : goal.first_end-requires-2-clause-ends
first_end-requires-2-clause-ends c =
    let scale : FitsSigned w128 c.scale-scale.result = search rules in
    simp (to_z-of_z, scale) (subst (λ (K : ℤ). AreBoxSides K c.sides-e.result) (sym c.scale-scale.ensures.value) c.sides-e.ensures.limits)

pub returns-in-Some : goal.returns-in-Some
returns-in-Some c part law row at =
    let own = c.index-arcs-arc.result in
    let here : slice_get c.args.p.now.arcs c.args.arc ≡ Some own = slice_get_read c.args.p.now.arcs (length c.args.p.now.arcs) c.args.arc own refl c.requires.arc (rw c.arcs.ensures.rows at c.index-arcs-arc.is) in
    let box = part_box c.args.b.now.scale part c.args.b.now.bounds in
    let form = c.args.form.now in
    let e = c.sides-e.result in
    let scale : FitsSigned w128 c.scale-scale.result = search rules in
    let has : HasForm c.args.p.now box c.args.arc own form = record { row_is = here; form_is = law own here } in
    let first-raw : IsFirstRuleEnd form (to_z w128 (of_z w128 c.scale-scale.result)) e OfFrom c.in-Some.end = c.in-Some.ensures in
    let first-one : IsFirstRuleEnd form c.scale-scale.result e OfFrom c.in-Some.end = simp (to_z-of_z, scale) at first-raw in
    let first : IsFirstRuleEnd form c.args.b.now.scale e OfFrom c.in-Some.end = subst (λ (K : ℤ). IsFirstRuleEnd form K e OfFrom c.in-Some.end) c.scale-scale.ensures.value first-one in
    let value : FitsSigned w128 c.in-Some.end.value = search rules in
    let same : own ≡ row = cc (here, at) in
    simp (to_z-of_z, value) (subst (λ (r : ArcRow). IsFirstMove c.args.p.now box (AtArc c.args.arc) is_square (square_number r) (square_step own.from c.args.arc c.in-Some.end)) same
    (from_square c.args.p.now box c.args.arc own form e c.in-Some.end c.arcs.ensures.within has c.sides-e.ensures.ends first))

pub returns-in_err-end : goal.returns-in_err-end
returns-in_err-end c part law row at =
    let own = c.index-arcs-arc.result in
    let here : slice_get c.args.p.now.arcs c.args.arc ≡ Some own = slice_get_read c.args.p.now.arcs (length c.args.p.now.arcs) c.args.arc own refl c.requires.arc (rw c.arcs.ensures.rows at c.index-arcs-arc.is) in
    let box = part_box c.args.b.now.scale part c.args.b.now.bounds in
    let form = c.args.form.now in
    let e = c.sides-e.result in
    let scale : FitsSigned w128 c.scale-scale.result = search rules in
    let has : HasForm c.args.p.now box c.args.arc own form = record { row_is = here; form_is = law own here } in
    let from-raw : HasNoRuleEnd form (to_z w128 (of_z w128 c.scale-scale.result)) e OfFrom = c.in_default.ensures in
    let from-one : HasNoRuleEnd form c.scale-scale.result e OfFrom = simp (to_z-of_z, scale) at from-raw in
    let from : HasNoRuleEnd form c.args.b.now.scale e OfFrom = subst (λ (K : ℤ). HasNoRuleEnd form K e OfFrom) c.scale-scale.ensures.value from-one in
    let to-raw : HasNoRuleEnd form (to_z w128 (of_z w128 c.scale-scale.result)) e OfTo = c.in_err-end.ensures in
    let to-one : HasNoRuleEnd form c.scale-scale.result e OfTo = simp (to_z-of_z, scale) at to-raw in
    let to : HasNoRuleEnd form c.args.b.now.scale e OfTo = subst (λ (K : ℤ). HasNoRuleEnd form K e OfTo) c.scale-scale.ensures.value to-one in
    rw c.from_residual.ensures (neither_square c.args.p.now box c.args.arc own form e has c.sides-e.ensures.ends from to)

pub returns : goal.returns
returns c part law row at =
    let own = c.index-arcs-arc.result in
    let here : slice_get c.args.p.now.arcs c.args.arc ≡ Some own = slice_get_read c.args.p.now.arcs (length c.args.p.now.arcs) c.args.arc own refl c.requires.arc (rw c.arcs.ensures.rows at c.index-arcs-arc.is) in
    let box = part_box c.args.b.now.scale part c.args.b.now.bounds in
    let form = c.args.form.now in
    let e = c.sides-e.result in
    let scale : FitsSigned w128 c.scale-scale.result = search rules in
    let has : HasForm c.args.p.now box c.args.arc own form = record { row_is = here; form_is = law own here } in
    let from-raw : HasNoRuleEnd form (to_z w128 (of_z w128 c.scale-scale.result)) e OfFrom = c.in_default.ensures in
    let from-one : HasNoRuleEnd form c.scale-scale.result e OfFrom = simp (to_z-of_z, scale) at from-raw in
    let from : HasNoRuleEnd form c.args.b.now.scale e OfFrom = subst (λ (K : ℤ). HasNoRuleEnd form K e OfFrom) c.scale-scale.ensures.value from-one in
    let first-raw : IsFirstRuleEnd form (to_z w128 (of_z w128 c.scale-scale.result)) e OfTo c.in_ok-end.end = c.in_ok-end.ensures in
    let first-one : IsFirstRuleEnd form c.scale-scale.result e OfTo c.in_ok-end.end = simp (to_z-of_z, scale) at first-raw in
    let first : IsFirstRuleEnd form c.args.b.now.scale e OfTo c.in_ok-end.end = subst (λ (K : ℤ). IsFirstRuleEnd form K e OfTo c.in_ok-end.end) c.scale-scale.ensures.value first-one in
    let value : FitsSigned w128 c.in_ok-end.end.value = search rules in
    let same : own ≡ row = cc (here, at) in
    simp (to_z-of_z, value) (subst (λ (r : ArcRow). IsFirstMove c.args.p.now box (AtArc c.args.arc) is_square (square_number r) (square_step own.to c.args.arc c.in_ok-end.end)) same
    (to_square c.args.p.now box c.args.arc own form e c.in_ok-end.end c.arcs.ensures.within has c.sides-e.ensures.ends from first))
