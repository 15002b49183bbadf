use Rattle.std.proofs.Common.{◌≡◌, sym, subst, to_z-of_z, rules, FitsSigned, ℤ, IsTrue}
use Rattle.std.specs.Int.{w128}
use Rattle.element_laws.specs.Sizes.{is_wide_square}
use Rattle.gas_model.specs.declared.law_forms.LawForm.TheVariants.{Raises}
use Rattle.tree_cert.specs.declared.line.Rule.{Rule}
use Rattle.tree_cert.specs.declared.line.Rule.TheVariants.{Inner}
use Rattle.tight_steps.proofs.Allowed.{safe_sides, limited_sides}
use Rattle.pressure_propagate.specs.SquareRules.{BoundsSquare, IsRatioBound}
use Rattle.pressure_propagate.proofs.SquareBounds.{ReachesBy, inner_raises, rise_of, ratio_of, raises_rest, wide_opposite}
use Rattle.pressure_propagate.proofs.bounds.raises_bound.Goals as goal

pub reach_bound-requires-clause-other : goal.reach_bound-requires-clause-other
reach_bound-requires-clause-other c =
    let other : FitsSigned w128 c.opposite-other.result = search rules in
    simp (to_z-of_z, other) (subst (λ (z : ℤ). IsTrue (is_wide_square z)) (sym c.opposite-other.ensures) (wide_opposite c.args.e c.args.from c.args.low (safe_sides c.args.scale c.args.e c.requires.ends)))

pub ratio_bound-requires-clause-other : goal.ratio_bound-requires-clause-other
ratio_bound-requires-clause-other c =
    let other : FitsSigned w128 c.opposite-other.result = search rules in
    simp (to_z-of_z, other) (subst (λ (z : ℤ). IsTrue (is_wide_square z)) (sym c.opposite-other.ensures) (wide_opposite c.args.e c.args.from c.args.low (safe_sides c.args.scale c.args.e c.requires.ends)))

pub returns-in-Inner : goal.returns-in-Inner
returns-in-Inner c =
    let e = c.args.e in
    let result : FitsSigned w128 c.inner_bound.result = search rules in
    let is = simp (to_z-of_z, c.ranges.scale, c.ranges.in_min, c.ranges.out_max) at c.inner_bound.ensures in
    let here = subst (λ (z : ℤ). BoundsSquare (Raises c.args.in_min c.args.out_max c.args.num c.args.den c.args.rise_max) c.args.scale e c.args.from c.args.low Inner z) (sym is)
    (inner_raises c.args.in_min c.args.out_max c.args.num c.args.den c.args.rise_max c.args.scale e c.args.from c.args.low) in
    simp (to_z-of_z, result) (subst (λ (r : Rule). BoundsSquare (Raises c.args.in_min c.args.out_max c.args.num c.args.den c.args.rise_max) c.args.scale e c.args.from c.args.low r c.inner_bound.result) (sym c.in-Inner.is) here)

pub returns-in-Rise : goal.returns-in-Rise
returns-in-Rise c =
    let e = c.args.e in
    let limits = limited_sides c.args.scale c.args.e c.requires.ends in
    let other : FitsSigned w128 c.opposite-other.result = search rules in
    let result : FitsSigned w128 c.reach_bound.result = search rules in
    let by : ReachesBy c.args.scale c.opposite-other.result c.args.rise_max c.args.low c.reach_bound.result = λ C p. simp (to_z-of_z, c.ranges.scale, other, c.ranges.rise_max) at (c.reach_bound.ensures.bound C p) in
    let here = subst (λ (z : ℤ). ReachesBy c.args.scale z c.args.rise_max c.args.low c.reach_bound.result) c.opposite-other.ensures by in
    simp (to_z-of_z, result) (subst (λ (r : Rule). BoundsSquare (Raises c.args.in_min c.args.out_max c.args.num c.args.den c.args.rise_max) c.args.scale e c.args.from c.args.low r c.reach_bound.result) (sym c.in-Rise.is)
    (rise_of c.args.in_min c.args.out_max c.args.num c.args.den c.args.rise_max c.args.scale e c.args.from c.args.low c.reach_bound.result limits here c.reach_bound.ensures.natural))

pub returns-in-Ratio : goal.returns-in-Ratio
returns-in-Ratio c =
    let e = c.args.e in
    let other : FitsSigned w128 c.opposite-other.result = search rules in
    let result : FitsSigned w128 c.ratio_bound.result = search rules in
    let by = simp (to_z-of_z, other, c.ranges.num, c.ranges.den) at c.ratio_bound.ensures in
    let here = subst (λ (z : ℤ). IsRatioBound c.args.num c.args.den z c.args.low c.ratio_bound.result) c.opposite-other.ensures by in
    simp (to_z-of_z, result) (subst (λ (r : Rule). BoundsSquare (Raises c.args.in_min c.args.out_max c.args.num c.args.den c.args.rise_max) c.args.scale e c.args.from c.args.low r c.ratio_bound.result) (sym c.in-Ratio.is)
    (ratio_of c.args.in_min c.args.out_max c.args.num c.args.den c.args.rise_max c.args.scale e c.args.from c.args.low c.ratio_bound.result here))

pub returns-in_default : goal.returns-in_default
returns-in_default c =
    let e = c.args.e in
    let other : FitsSigned w128 c.opposite-other.result = search rules in
    simp (to_z-of_z, other) (subst (λ (z : ℤ). BoundsSquare (Raises c.args.in_min c.args.out_max c.args.num c.args.den c.args.rise_max) c.args.scale e c.args.from c.args.low c.args.rule z) (sym c.opposite-other.ensures)
    (raises_rest c.args.rule c.args.in_min c.args.out_max c.args.num c.args.den c.args.rise_max c.args.scale e c.args.from c.args.low c.in_default.not-Inner c.in_default.not-Rise c.in_default.not-Ratio))
