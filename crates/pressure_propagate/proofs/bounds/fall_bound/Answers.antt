use Rattle.std.proofs.Common.{◌≡◌, sym, subst, to_z-of_z, rules, FitsSigned, ℤ, IsTrue}
use Rattle.std.specs.Int.{w128}
use Rattle.element_laws.specs.Sizes.{is_wide_square}
use Rattle.tight_steps.proofs.Allowed.{safe_sides, limited_sides}
use Rattle.pressure_propagate.proofs.SquareBounds.{ReachesBy, KeepsApart, fall_apart, fall_reach, same_flags, other_flags, wide_opposite}
use Rattle.pressure_propagate.proofs.bounds.fall_bound.Goals as goal

pub apart_bound-requires-clause-other : goal.apart_bound-requires-clause-other
apart_bound-requires-clause-other c =
    let other : FitsSigned w128 c.opposite-other.result = search rules in
    simp (to_z-of_z, other) (subst (λ (z : ℤ). IsTrue (is_wide_square z)) (sym c.opposite-other.ensures) (wide_opposite c.args.e c.args.from c.args.low (safe_sides c.args.scale c.args.e c.requires.ends)))

pub reach_bound-requires-clause-other : goal.reach_bound-requires-clause-other
reach_bound-requires-clause-other c =
    let other : FitsSigned w128 c.opposite-other.result = search rules in
    simp (to_z-of_z, other) (subst (λ (z : ℤ). IsTrue (is_wide_square z)) (sym c.opposite-other.ensures) (wide_opposite c.args.e c.args.from c.args.low (safe_sides c.args.scale c.args.e c.requires.ends)))

pub returns-then-from-low : goal.returns-then-from-low
returns-then-from-low c in_min out_max =
    let e = c.args.e in
    let limits = limited_sides c.args.scale c.args.e c.requires.ends in
    let other : FitsSigned w128 c.opposite-other.result = search rules in
    let result : FitsSigned w128 c.apart_bound.result = search rules in
    let by : KeepsApart c.args.scale c.opposite-other.result c.args.red_min c.args.low c.apart_bound.result = λ C p. simp (to_z-of_z, c.ranges.scale, other, c.ranges.red_min) at (c.apart_bound.ensures.bound C p) in
    let here = subst (λ (z : ℤ). KeepsApart c.args.scale z c.args.red_min c.args.low c.apart_bound.result) c.opposite-other.ensures by in
    simp (to_z-of_z, result) (fall_apart in_min out_max c.args.red_min c.args.red_max c.args.scale e c.args.from c.args.low c.apart_bound.result (same_flags c.args.from c.args.low c.if-from-low.true) limits here c.apart_bound.ensures.natural)

pub returns-else-from-low : goal.returns-else-from-low
returns-else-from-low c in_min out_max =
    let e = c.args.e in
    let limits = limited_sides c.args.scale c.args.e c.requires.ends in
    let other : FitsSigned w128 c.opposite-other.result = search rules in
    let result : FitsSigned w128 c.reach_bound.result = search rules in
    let by : ReachesBy c.args.scale c.opposite-other.result c.args.red_max c.args.low c.reach_bound.result = λ C p. simp (to_z-of_z, c.ranges.scale, other, c.ranges.red_max) at (c.reach_bound.ensures.bound C p) in
    let here = subst (λ (z : ℤ). ReachesBy c.args.scale z c.args.red_max c.args.low c.reach_bound.result) c.opposite-other.ensures by in
    simp (to_z-of_z, result) (fall_reach in_min out_max c.args.red_min c.args.red_max c.args.scale e c.args.from c.args.low c.reach_bound.result (other_flags c.args.from c.args.low c.if-from-low.false) limits here c.reach_bound.ensures.natural)
