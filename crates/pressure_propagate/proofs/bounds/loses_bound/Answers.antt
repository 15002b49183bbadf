use Rattle.std.proofs.Common.{◌≡◌, sym, subst, to_z-of_z, rules, FitsSigned, ℤ, IsTrue}
use Rattle.std.specs.Int.{w128}
use Rattle.element_laws.specs.Sizes.{is_wide_square}
use Rattle.gas_model.specs.declared.law_forms.LawForm.TheVariants.{Loses}
use Rattle.tree_cert.specs.declared.line.Rule.{Rule}
use Rattle.tight_steps.proofs.Allowed.{safe_sides, limited_sides}
use Rattle.pressure_propagate.specs.SquareRules.{BoundsSquare}
use Rattle.pressure_propagate.proofs.SquareBounds.{ReachesBy, KeepsApart, reach_of, drop_of, loses_rest, wide_opposite}
use Rattle.pressure_propagate.proofs.bounds.loses_bound.Goals as goal

pub reach_bound-requires-clause-other : goal.reach_bound-requires-clause-other
reach_bound-requires-clause-other c =
    let other : FitsSigned w128 c.opposite-other.result = search rules in
    simp (to_z-of_z, other) (subst (λ (z : ℤ). IsTrue (is_wide_square z)) (sym c.opposite-other.ensures) (wide_opposite c.args.e c.args.from c.args.low (safe_sides c.args.scale c.args.e c.requires.ends)))

pub apart_bound-requires-clause-other : goal.apart_bound-requires-clause-other
apart_bound-requires-clause-other c =
    let other : FitsSigned w128 c.opposite-other.result = search rules in
    simp (to_z-of_z, other) (subst (λ (z : ℤ). IsTrue (is_wide_square z)) (sym c.opposite-other.ensures) (wide_opposite c.args.e c.args.from c.args.low (safe_sides c.args.scale c.args.e c.requires.ends)))

pub returns-in-Reach : goal.returns-in-Reach
returns-in-Reach c =
    let e = c.args.e in
    let limits = limited_sides c.args.scale c.args.e c.requires.ends in
    let other : FitsSigned w128 c.opposite-other.result = search rules in
    let result : FitsSigned w128 c.reach_bound.result = search rules in
    let by : ReachesBy c.args.scale c.opposite-other.result c.args.high_loss c.args.low c.reach_bound.result = λ C p. simp (to_z-of_z, c.ranges.scale, other, c.ranges.high_loss) at (c.reach_bound.ensures.bound C p) in
    let here = subst (λ (z : ℤ). ReachesBy c.args.scale z c.args.high_loss c.args.low c.reach_bound.result) c.opposite-other.ensures by in
    simp (to_z-of_z, result) (subst (λ (r : Rule). BoundsSquare (Loses c.args.low_loss c.args.high_loss) c.args.scale e c.args.from c.args.low r c.reach_bound.result) (sym c.in-Reach.is)
    (reach_of c.args.low_loss c.args.high_loss c.args.scale e c.args.from c.args.low c.reach_bound.result limits here c.reach_bound.ensures.natural))

pub returns-in-Drop : goal.returns-in-Drop
returns-in-Drop c =
    let e = c.args.e in
    let limits = limited_sides c.args.scale c.args.e c.requires.ends in
    let other : FitsSigned w128 c.opposite-other.result = search rules in
    let result : FitsSigned w128 c.apart_bound.result = search rules in
    let by : KeepsApart c.args.scale c.opposite-other.result c.args.low_loss c.args.low c.apart_bound.result = λ C p. simp (to_z-of_z, c.ranges.scale, other, c.ranges.low_loss) at (c.apart_bound.ensures.bound C p) in
    let here = subst (λ (z : ℤ). KeepsApart c.args.scale z c.args.low_loss c.args.low c.apart_bound.result) c.opposite-other.ensures by in
    simp (to_z-of_z, result) (subst (λ (r : Rule). BoundsSquare (Loses c.args.low_loss c.args.high_loss) c.args.scale e c.args.from c.args.low r c.apart_bound.result) (sym c.in-Drop.is)
    (drop_of c.args.low_loss c.args.high_loss c.args.scale e c.args.from c.args.low c.apart_bound.result limits here c.apart_bound.ensures.natural))

pub returns-in_default : goal.returns-in_default
returns-in_default c =
    let e = c.args.e in
    let other : FitsSigned w128 c.opposite-other.result = search rules in
    simp (to_z-of_z, other) (subst (λ (z : ℤ). BoundsSquare (Loses c.args.low_loss c.args.high_loss) c.args.scale e c.args.from c.args.low c.args.rule z) (sym c.opposite-other.ensures)
    (loses_rest c.args.rule c.args.low_loss c.args.high_loss c.args.scale e c.args.from c.args.low c.in_default.not-Reach c.in_default.not-Drop))
