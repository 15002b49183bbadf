use Rattle.std.proofs.Common.{◌≡◌, ◌∙◌, ap, subst, sym, to_z, of_z, to_z-of_z, rules, FitsSigned}
use Rattle.std.specs.Int.{w128}
use Rattle.gas_model.specs.declared.rows.Ends.{Ends}
use Rattle.tree_rules.specs.declared.arc_vars.ArcVar.{ArcVar}
use Rattle.tight_steps.specs.Best.{CanShrink, HasNoBest, AreSmallEnds, cut}
use Rattle.tight_steps.specs.Moves.{allows, ends_at}
use Rattle.tight_steps.proofs.Bests.{best_where}
use Rattle.tight_steps.proofs.Allowed.{own_small}
use Rattle.pressure_propagate.specs.SquareRules.{square_at}
use Rattle.pressure_propagate.proofs.ends.best_value.Goals as goal

pub cut-requires : goal.cut-requires
cut-requires c = subst AreSmallEnds (sym c.own_ends.ensures) (own_small c.args.scale c.args.e c.side_of-side.result c.requires.ends)

pub returns-then-not-shrinks_by : goal.returns-then-not-shrinks_by
returns-then-not-shrinks_by c =
    let e = c.args.e in
    let form = c.args.form.now in
    let x = c.side_of-side.result in
    let raw_none : HasNoBest c.args.low (ends_at e x) (allows c.args.rule form (to_z w128 (of_z w128 c.args.scale)) e x c.args.low) = c.if-not-shrinks_by.ensures in
    let none : HasNoBest c.args.low (ends_at e x) (allows c.args.rule form c.args.scale e x c.args.low) = simp (to_z-of_z, c.ranges.scale) at raw_none in
    subst (λ (y : ArcVar). HasNoBest c.args.low (ends_at e y) (allows c.args.rule form c.args.scale e y c.args.low)) c.side_of-side.ensures none

pub returns : goal.returns
returns c =
    let e = c.args.e in
    let form = c.args.form.now in
    let x = c.side_of-side.result in
    let y = square_at c.args.from in
    let bound : FitsSigned w128 c.square_bound.result = search rules in
    let result : FitsSigned w128 c.cut.result = search rules in
    let raw_side : CanShrink c.args.low (ends_at e x) (allows c.args.rule form (to_z w128 (of_z w128 c.args.scale)) e x c.args.low) = c.if-not-shrinks_by.ensures in
    let side : CanShrink c.args.low (ends_at e x) (allows c.args.rule form c.args.scale e x c.args.low) = simp (to_z-of_z, c.ranges.scale) at raw_side in
    let can : CanShrink c.args.low (ends_at e y) (allows c.args.rule form c.args.scale e y c.args.low) = subst (λ (z : ArcVar). CanShrink c.args.low (ends_at e z) (allows c.args.rule form c.args.scale e z c.args.low)) c.side_of-side.ensures side in
    let own = c.own_ends.ensures ∙ ap (ends_at e) c.side_of-side.ensures in
    let cuts = simp (to_z-of_z, bound) at c.cut.ensures in
    let is = cuts ∙ ap (λ (o : Ends). cut c.args.low o c.square_bound.result) own in
    let by = simp (to_z-of_z, c.ranges.scale) at c.square_bound.ensures in
    simp (to_z-of_z, result) (rw is (best_where c.args.low (ends_at e y) (allows c.args.rule form c.args.scale e y c.args.low) c.square_bound.result can (by can)))
