use Rattle.std.proofs.Common.{◌≤◌, ◌≤ℤ◌, ◌<ℤ◌, ◌*ℤ◌, ◌^◌, arith, to_z-of_z}
use Rattle.integer_laws.proofs.Ring.{linear}
use Rattle.pressure_propagate.proofs.RootBounds.{root_is, rooted, sum_fits, reach_is, no_reach}
use Rattle.pressure_propagate.proofs.root_bounds.greatest_at_least.Goals as goal

pub overflow_mul-result : goal.overflow_mul-result
overflow_mul-result c =
    let e = c.root_times-e.result in
    let f = sum_fits c.args.y e 0 c.requires.y c.root_times-e.ensures.wide (omega arith) in
    simp (to_z-of_z, f.root_of) f.square

pub overflow_add-result : goal.overflow_add-result
overflow_add-result c =
    let e = c.root_times-e.result in
    let f = sum_fits c.args.y e 0 c.requires.y c.root_times-e.ensures.wide (omega arith) in
    simp (to_z-of_z, f.given, f.root_of, f.square) f.both

pub overflow_sub-result : goal.overflow_sub-result
overflow_sub-result c =
    let e = c.root_times-e.result in
    let m : c.root_up.result ≤ 2 ^ 64 = omega (arith, c.root_up.ensures.bound) in
    let f = sum_fits c.args.y e c.root_up.result c.requires.y c.root_times-e.ensures.wide m in
    simp (to_z-of_z, f.given, f.root_of, f.square, f.both, root_is c.root_up.result m) f.rest

pub returns-then-y-e : goal.returns-then-y-e
returns-then-y-e c C p =
    let e = c.root_times-e.result in
    let f = sum_fits c.args.y e 0 c.requires.y c.root_times-e.ensures.wide (omega arith) in
    let square = simp (to_z-of_z, c.ranges.scale, c.ranges.d) at c.root_times-e.ensures.square in
    let test = simp (to_z-of_z, f.given, f.root_of, f.square) at c.if-y-e.true in
    let less : c.args.y <ℤ (e *ℤ e) = omega (arith, linear, test) in
    no_reach c.args.scale c.args.d e c.args.y C (rooted c.args.scale c.args.d e c.requires.scale c.requires.d c.root_times-e.ensures.wide square) less p

pub returns : goal.returns
returns c C p =
    let e = c.root_times-e.result in
    let m : c.root_up.result ≤ 2 ^ 64 = omega (arith, c.root_up.ensures.bound) in
    let f = sum_fits c.args.y e c.root_up.result c.requires.y c.root_times-e.ensures.wide m in
    let square = simp (to_z-of_z, c.ranges.scale, c.ranges.d) at c.root_times-e.ensures.square in
    let test = simp (to_z-of_z, f.given, f.root_of, f.square) at c.if-y-e.false in
    let under = simp (to_z-of_z, f.root_of, f.given) at c.under_root.ensures in
    let more : (e *ℤ e) ≤ℤ c.args.y = omega (arith, linear, test) in
    simp (to_z-of_z, f.given, f.root_of, f.square, f.both, root_is c.root_up.result m, f.rest)
    (reach_is c.args.scale c.args.d e c.args.y c.under_root.result c.root_up.result C (rooted c.args.scale c.args.d e c.requires.scale c.requires.d c.root_times-e.ensures.wide square) more under c.root_up.ensures.root p)
