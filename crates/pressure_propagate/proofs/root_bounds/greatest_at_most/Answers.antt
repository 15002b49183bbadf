use Rattle.std.proofs.Common.{◌≤◌, ◌^◌, arith, to_z-of_z}
use Rattle.pressure_propagate.proofs.RootBounds.{root_is, rooted, sum_fits, most_is}
use Rattle.pressure_propagate.proofs.root_bounds.greatest_at_most.Goals as goal

pub overflow_add-result : goal.overflow_add-result
overflow_add-result c =
    let f = sum_fits c.args.x c.root_times-e.result 0 c.requires.x c.root_times-e.ensures.wide (omega arith) in
    simp (to_z-of_z, f.given, f.root_of, f.square) f.both

pub overflow_add-result-2 : goal.overflow_add-result-2
overflow_add-result-2 c =
    let m : c.root_down.result ≤ 2 ^ 64 = omega (arith, c.root_down.ensures.bound) in
    let f = sum_fits c.args.x c.root_times-e.result c.root_down.result c.requires.x c.root_times-e.ensures.wide m in
    simp (to_z-of_z, f.given, f.root_of, f.square, f.both, root_is c.root_down.result m) f.sum

pub returns : goal.returns
returns c C =
    let e = c.root_times-e.result in
    let m : c.root_down.result ≤ 2 ^ 64 = omega (arith, c.root_down.ensures.bound) in
    let f = sum_fits c.args.x e c.root_down.result c.requires.x c.root_times-e.ensures.wide m in
    let square = simp (to_z-of_z, c.ranges.scale, c.ranges.d) at c.root_times-e.ensures.square in
    let under = simp (to_z-of_z, f.root_of, f.given) at c.under_root.ensures in
    simp (to_z-of_z, f.given, f.root_of, f.square, f.both, root_is c.root_down.result m, f.sum)
    (most_is c.args.scale c.args.d e c.args.x c.under_root.result c.root_down.result C (rooted c.args.scale c.args.d e c.requires.scale c.requires.d c.root_times-e.ensures.wide square) under c.root_down.ensures.root)
