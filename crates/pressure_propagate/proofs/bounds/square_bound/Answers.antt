use Rattle.std.proofs.Common.{◌≡◌, sym, subst, to_z, of_z, to_z-of_z, rules, FitsSigned, ℤ}
use Rattle.std.specs.Int.{w128}
use Rattle.gas_model.specs.declared.law_forms.LawForm.TheVariants.{Equals, Drags}
use Rattle.tree_cert.specs.declared.line.Rule.TheVariants.{Pipe}
use Rattle.tight_steps.specs.Best.{IsBound}
use Rattle.tight_steps.specs.Moves.{allows, ends_at}
use Rattle.box_rules.proofs.SideFits.{difference_fits, part_fits}
use Rattle.pressure_propagate.specs.SquareRules.{BoundsSquare, square_at}
use Rattle.pressure_propagate.proofs.SquareBounds.{drags_rest, equals_all, shuts_all, never_all}
use Rattle.pressure_propagate.proofs.bounds.square_bound.Goals as goal

pub returns-in-Drags : goal.returns-in-Drags
returns-in-Drags c =
    let e = c.args.e in
    let x = square_at c.args.from in
    let result : FitsSigned w128 c.drag_bound.result = search rules in
    let raw : IsBound c.args.low (ends_at e x) (allows Pipe (Drags c.in-Drags.law) (to_z w128 (of_z w128 c.args.scale)) e x c.args.low) c.drag_bound.result = c.drag_bound.ensures in
    let here : IsBound c.args.low (ends_at e x) (allows Pipe (Drags c.in-Drags.law) c.args.scale e x c.args.low) c.drag_bound.result = simp (to_z-of_z, c.ranges.scale) at raw in
    simp (to_z-of_z, result) (rw c.in-Drags.is (drags_rest c.args.rule c.in-Drags.law c.args.scale e c.args.from c.args.low c.drag_bound.result here))

pub returns-in-Equals : goal.returns-in-Equals
returns-in-Equals c =
    let e = c.args.e in
    let other : FitsSigned w128 c.opposite.result = search rules in
    simp (to_z-of_z, other) (rw c.in-Equals.is (subst (λ (z : ℤ). BoundsSquare Equals c.args.scale e c.args.from c.args.low c.args.rule z) (sym c.opposite.ensures) (equals_all c.args.rule c.args.scale e c.args.from c.args.low)))

pub returns-in-Loses : goal.returns-in-Loses
returns-in-Loses c =
    let result : FitsSigned w128 c.loses_bound.result = search rules in
    let w = rw c.in-Loses.is at c.requires.within in
    let here = simp (to_z-of_z, c.ranges.scale, difference_fits c.in-Loses.least w.0, difference_fits c.in-Loses.high w.1) at c.loses_bound.ensures in
    simp (to_z-of_z, result) (rw c.in-Loses.is here)

pub returns-in-Reduces : goal.returns-in-Reduces
returns-in-Reduces c =
    let result : FitsSigned w128 c.reduces_bound.result = search rules in
    let w = rw c.in-Reduces.is at c.requires.within in
    let here = simp (to_z-of_z, c.ranges.scale, difference_fits c.in-Reduces.in_min w.0.0, difference_fits c.in-Reduces.out_max w.0.1, difference_fits c.in-Reduces.red_min w.1.0, difference_fits c.in-Reduces.red_max w.1.1) at c.reduces_bound.ensures in
    simp (to_z-of_z, result) (rw c.in-Reduces.is here)

pub returns-in-Raises : goal.returns-in-Raises
returns-in-Raises c =
    let result : FitsSigned w128 c.raises_bound.result = search rules in
    let w = rw c.in-Raises.is at c.requires.within in
    let here = simp (to_z-of_z, c.ranges.scale, difference_fits c.in-Raises.in_min w.0.0, difference_fits c.in-Raises.out_max w.0.1, part_fits c.in-Raises.ratio_num w.1.0, part_fits c.in-Raises.ratio_den w.1.1, difference_fits c.in-Raises.rise_max w.2) at c.raises_bound.ensures in
    simp (to_z-of_z, result) (rw c.in-Raises.is here)

pub returns-in-Shuts : goal.returns-in-Shuts
returns-in-Shuts c = rw c.in-Shuts.is (shuts_all c.args.rule c.args.scale c.args.e c.args.from c.args.low _)

pub returns-in-Never : goal.returns-in-Never
returns-in-Never c = rw c.in-Never.is (never_all c.args.rule c.args.scale c.args.e c.args.from c.args.low _)
