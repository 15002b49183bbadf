use Rattle.std.proofs.Common.{◌≡◌, sym, subst, to_z-of_z, rules, FitsSigned, ℤ}
use Rattle.std.specs.Int.{w128}
use Rattle.gas_model.specs.declared.law_forms.LawForm.TheVariants.{Reduces}
use Rattle.tree_cert.specs.declared.line.Rule.{Rule}
use Rattle.pressure_propagate.specs.SquareRules.{BoundsSquare}
use Rattle.pressure_propagate.proofs.SquareBounds.{reduces_rest}
use Rattle.pressure_propagate.proofs.bounds.reduces_bound.Goals as goal

pub returns-in-Fall : goal.returns-in-Fall
returns-in-Fall c =
    let e = c.args.e in
    let result : FitsSigned w128 c.fall_bound.result = search rules in
    let fall = simp (to_z-of_z, c.ranges.scale, c.ranges.red_min, c.ranges.red_max) at (c.fall_bound.ensures c.args.in_min c.args.out_max) in
    simp (to_z-of_z, result) (subst (λ (r : Rule). BoundsSquare (Reduces c.args.in_min c.args.out_max c.args.red_min c.args.red_max) c.args.scale e c.args.from c.args.low r c.fall_bound.result) (sym c.in-Fall.is) fall)

pub returns-in_default : goal.returns-in_default
returns-in_default c =
    let e = c.args.e in
    let result : FitsSigned w128 c.inner_bound.result = search rules in
    let is = simp (to_z-of_z, c.ranges.scale, c.ranges.in_min, c.ranges.out_max) at c.inner_bound.ensures in
    simp (to_z-of_z, result) (subst (λ (z : ℤ). BoundsSquare (Reduces c.args.in_min c.args.out_max c.args.red_min c.args.red_max) c.args.scale e c.args.from c.args.low c.args.rule z) (sym is)
    (reduces_rest c.args.rule c.args.in_min c.args.out_max c.args.red_min c.args.red_max c.args.scale e c.args.from c.args.low c.in_default.not-Fall))
