use Rattle.std.proofs.Common.{◌≤◌, ◌≤ℤ◌, ◌<ℤ◌, ◌*ℤ◌, ◌^◌, arith, to_z-of_z, pos}
use Rattle.integer_laws.proofs.Ring.{linear}
use Rattle.pressure_propagate.proofs.RootBounds.{root_is, rooted, sum_fits, apart_is, all_apart}
use Rattle.pressure_propagate.proofs.root_bounds.least_at_most.Goals as goal

pub overflow_mul-result : goal.overflow_mul-result
overflow_mul-result c =
    let e = c.root_times-e.result in
    let f = sum_fits c.args.y e 0 c.requires.y c.root_times-e.ensures.wide (omega arith) in
    simp (to_z-of_z, f.root_of) f.square

pub overflow_add-result : goal.overflow_add-result
overflow_add-result c =
    let e = c.root_times-e.result in
    let f = sum_fits c.args.y e 0 c.requires.y c.root_times-e.ensures.wide (omega arith) in
    simp (to_z-of_z, f.given, f.root_of, f.square) f.both

pub overflow_sub-result : goal.overflow_sub-result
overflow_sub-result c =
    let e = c.root_times-e.result in
    let m : c.root_down.result ≤ 2 ^ 64 = omega (arith, c.root_down.ensures.bound) in
    let f = sum_fits c.args.y e c.root_down.result c.requires.y c.root_times-e.ensures.wide m in
    simp (to_z-of_z, f.given, f.root_of, f.square, f.both, root_is c.root_down.result m) f.rest

pub returns-then-y-e-clause-bound : goal.returns-then-y-e-clause-bound
returns-then-y-e-clause-bound c C p =
    let e = c.root_times-e.result in
    let f = sum_fits c.args.y e 0 c.requires.y c.root_times-e.ensures.wide (omega arith) in
    let square = simp (to_z-of_z, c.ranges.scale, c.ranges.d) at c.root_times-e.ensures.square in
    let test = simp (to_z-of_z, f.given, f.root_of, f.square) at c.if-y-e.true in
    let less : c.args.y <ℤ (e *ℤ e) = omega (arith, linear, test) in
    all_apart c.args.scale c.args.d e c.args.y C (rooted c.args.scale c.args.d e c.requires.scale c.requires.d c.root_times-e.ensures.wide square) less p

pub returns-clause-bound : goal.returns-clause-bound
returns-clause-bound c C p =
    let e = c.root_times-e.result in
    let m : c.root_down.result ≤ 2 ^ 64 = omega (arith, c.root_down.ensures.bound) in
    let f = sum_fits c.args.y e c.root_down.result c.requires.y c.root_times-e.ensures.wide m in
    let square = simp (to_z-of_z, c.ranges.scale, c.ranges.d) at c.root_times-e.ensures.square in
    let test = simp (to_z-of_z, f.given, f.root_of, f.square) at c.if-y-e.false in
    let under = simp (to_z-of_z, f.root_of, f.given) at c.under_root.ensures in
    let more : (e *ℤ e) ≤ℤ c.args.y = omega (arith, linear, test) in
    simp (to_z-of_z, f.given, f.root_of, f.square, f.both, root_is c.root_down.result m, f.rest)
    (apart_is c.args.scale c.args.d e c.args.y c.under_root.result c.root_down.result C (rooted c.args.scale c.args.d e c.requires.scale c.requires.d c.root_times-e.ensures.wide square) more under c.root_down.ensures.root p).0

pub returns-clause-natural : goal.returns-clause-natural
returns-clause-natural c =
    let e = c.root_times-e.result in
    let m : c.root_down.result ≤ 2 ^ 64 = omega (arith, c.root_down.ensures.bound) in
    let f = sum_fits c.args.y e c.root_down.result c.requires.y c.root_times-e.ensures.wide m in
    let square = simp (to_z-of_z, c.ranges.scale, c.ranges.d) at c.root_times-e.ensures.square in
    let test = simp (to_z-of_z, f.given, f.root_of, f.square) at c.if-y-e.false in
    let under = simp (to_z-of_z, f.root_of, f.given) at c.under_root.ensures in
    let more : (e *ℤ e) ≤ℤ c.args.y = omega (arith, linear, test) in
    simp (to_z-of_z, f.given, f.root_of, f.square, f.both, root_is c.root_down.result m, f.rest)
    (apart_is c.args.scale c.args.d e c.args.y c.under_root.result c.root_down.result (pos 0) (rooted c.args.scale c.args.d e c.requires.scale c.requires.d c.root_times-e.ensures.wide square) more under c.root_down.ensures.root (omega (arith, linear))).1
