use Rattle.std.proofs.Common.{to_z-of_z}
use Rattle.element_laws.proofs.ActiveFits.{ratio_fits}
use Rattle.element_laws.proofs.active.keeps_ratio.Goals as goal

pub overflow_mul-result : goal.overflow_mul-result
overflow_mul-result c =
    let f = ratio_fits c.args.den c.args.v c.requires.den c.requires.to in
    let square_is = simp (to_z-of_z, f.small) at c.square.ensures in
    rw square_is (simp (to_z-of_z, f.squared, c.ranges.v) f.product)

pub overflow_mul-result-2 : goal.overflow_mul-result-2
overflow_mul-result-2 c =
    let f = ratio_fits c.args.num c.args.u c.requires.num c.requires.from in
    let square_is = simp (to_z-of_z, f.small) at c.square-2.ensures in
    rw square_is (simp (to_z-of_z, f.squared, c.ranges.u) f.product)

pub returns : goal.returns
returns c =
    let f = ratio_fits c.args.den c.args.v c.requires.den c.requires.to in
    let g = ratio_fits c.args.num c.args.u c.requires.num c.requires.from in
    let den_is = simp (to_z-of_z, f.small) at c.square.ensures in
    let num_is = simp (to_z-of_z, g.small) at c.square-2.ensures in
    rw (den_is, num_is) (simp (to_z-of_z, f.squared, g.squared, f.product, g.product, c.ranges.u, c.ranges.v))
