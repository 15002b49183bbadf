use Rattle.std.proofs.Common.{to_z-of_z, rules, arith, refl, pos, ◌-ℤ◌, ◌*ℤ◌, ◌≤ℤ◌, ◌<ℤ◌}
use Rattle.integer_laws.proofs.Ring.{linear}
use Rattle.interval_core.proofs.FitLemmas.{squares_fit}
use Rattle.interval_core.proofs.SquareLemmas.{highest_forward, highest_backward}
use Rattle.interval_core.proofs.interval.highest.Goals as goal

pub overflow_mul-result-then-x-lt0 : goal.overflow_mul-result-then-x-lt0
overflow_mul-result-then-x-lt0 c =
    let x = c.ranges.x in
    let lo = c.ranges.lo in
    let hi = c.ranges.hi in
    let f = squares_fit c.args.lo c.args.hi c.args.x c.requires.range.0 c.requires.range.1 c.requires.size in
    let square_fits = f.square in
    simp to_z-of_z f.low

pub overflow_sub-result : goal.overflow_sub-result
overflow_sub-result c =
    let x = c.ranges.x in
    let lo = c.ranges.lo in
    let hi = c.ranges.hi in
    let f = squares_fit c.args.lo c.args.hi c.args.x c.requires.range.0 c.requires.range.1 c.requires.size in
    let square_fits = f.square in
    let low_fits = f.low in
    simp to_z-of_z f.low_back

pub overflow_mul-result-else-x-lt0-2 : goal.overflow_mul-result-else-x-lt0-2
overflow_mul-result-else-x-lt0-2 c =
    let x = c.ranges.x in
    let lo = c.ranges.lo in
    let hi = c.ranges.hi in
    let f = squares_fit c.args.lo c.args.hi c.args.x c.requires.range.0 c.requires.range.1 c.requires.size in
    let square_fits = f.square in
    simp to_z-of_z f.high

pub returns-then-x-lt0 : goal.returns-then-x-lt0
returns-then-x-lt0 c =
    let x = c.ranges.x in
    let lo = c.ranges.lo in
    let hi = c.ranges.hi in
    let f = squares_fit c.args.lo c.args.hi c.args.x c.requires.range.0 c.requires.range.1 c.requires.size in
    let under : c.args.x <ℤ pos 0 = search rules in
    let square_fits = f.square in
    let low_fits = f.low in
    let low_back_fits = f.low_back in
    simp to_z-of_z (highest_backward c.args.lo c.args.hi c.args.x (pos 0 -ℤ c.args.lo *ℤ (c.args.x *ℤ c.args.x)) under (omega (arith, linear)))

pub returns-else-x-lt0 : goal.returns-else-x-lt0
returns-else-x-lt0 c =
    let x = c.ranges.x in
    let lo = c.ranges.lo in
    let hi = c.ranges.hi in
    let f = squares_fit c.args.lo c.args.hi c.args.x c.requires.range.0 c.requires.range.1 c.requires.size in
    let up : pos 0 ≤ℤ c.args.x = search rules in
    let square_fits = f.square in
    let high_fits = f.high in
    simp to_z-of_z (highest_forward c.args.lo c.args.hi c.args.x _ up refl)
