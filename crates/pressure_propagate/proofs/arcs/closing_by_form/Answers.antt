use Rattle.std.proofs.Common.{◌≡◌, ◌<◌, ◌∙◌, sym, subst, refl, to_z, of_z, to_z-of_z, rules, ℤ, FitsSigned, Some, length}
use Rattle.std.specs.Prelude.{slice_get}
use Rattle.std.specs.Int.{w128}
use Rattle.std.proofs.lemmas.Option.{slice_get_read}
use Rattle.tight_steps.specs.Moves.{part_box}
use Rattle.tight_steps.proofs.ArcMoves.{HasForm}
use Rattle.pressure_propagate.specs.SquareRules.{HasNoClosing, IsFirstClosing}
use Rattle.pressure_propagate.proofs.ArcClosings.{none_closes, first_closes}
use Rattle.pressure_propagate.proofs.arcs.closing_by_form.Goals as goal

pub sides-requires-clause-row : goal.sides-requires-clause-row
sides-requires-clause-row c = slice_get_read c.args.p.now.arcs (length c.args.p.now.arcs) c.args.arc c.index-arcs-arc.result refl c.requires.arc (rw c.arcs.ensures.rows at c.index-arcs-arc.is)

pub returns-in_err-rule : goal.returns-in_err-rule
returns-in_err-rule c part law =
    let row = c.index-arcs-arc.result in
    let at : slice_get c.args.p.now.arcs c.args.arc ≡ Some row = slice_get_read c.args.p.now.arcs (length c.args.p.now.arcs) c.args.arc row refl c.requires.arc (rw c.arcs.ensures.rows at c.index-arcs-arc.is) in
    let box = part_box c.args.b.now.scale part c.args.b.now.bounds in
    let form = c.args.form.now in
    let e = c.sides.result in
    let scale : FitsSigned w128 c.scale.result = search rules in
    let has : HasForm c.args.p.now box c.args.arc row form = record { row_is = at; form_is = law row at } in
    let raw : HasNoClosing form (to_z w128 (of_z w128 c.scale.result)) e = c.in_err-rule.ensures in
    let none : HasNoClosing form c.scale.result e = simp (to_z-of_z, scale) at raw in
    let here : HasNoClosing form c.args.b.now.scale e = subst (λ (K : ℤ). HasNoClosing form K e) c.scale.ensures.value none in
    rw c.from_residual.ensures (none_closes c.args.p.now box c.args.arc row form e has c.sides.ensures.ends here)

pub returns : goal.returns
returns c part law =
    let row = c.index-arcs-arc.result in
    let at : slice_get c.args.p.now.arcs c.args.arc ≡ Some row = slice_get_read c.args.p.now.arcs (length c.args.p.now.arcs) c.args.arc row refl c.requires.arc (rw c.arcs.ensures.rows at c.index-arcs-arc.is) in
    let box = part_box c.args.b.now.scale part c.args.b.now.bounds in
    let form = c.args.form.now in
    let e = c.sides.result in
    let scale : FitsSigned w128 c.scale.result = search rules in
    let has : HasForm c.args.p.now box c.args.arc row form = record { row_is = at; form_is = law row at } in
    let raw : IsFirstClosing form (to_z w128 (of_z w128 c.scale.result)) e c.in_ok-rule.rule = c.in_ok-rule.ensures in
    let found : IsFirstClosing form c.scale.result e c.in_ok-rule.rule = simp (to_z-of_z, scale) at raw in
    let here : IsFirstClosing form c.args.b.now.scale e c.in_ok-rule.rule = subst (λ (K : ℤ). IsFirstClosing form K e c.in_ok-rule.rule) c.scale.ensures.value found in
    first_closes c.args.p.now box c.args.arc row form e c.in_ok-rule.rule has c.sides.ensures.ends here
