use Rattle.std.proofs.Common.{to_z-of_z}
use Rattle.element_laws.proofs.RootFits.{four_squares_fit}
use Rattle.pressure_propagate.proofs.RootBounds.{under_is, under_is_none}
use Rattle.pressure_propagate.proofs.root_bounds.under_root.Goals as goal

pub overflow_mul-product-3 : goal.overflow_mul-product-3
overflow_mul-product-3 c =
    let f = four_squares_fit c.args.x c.args.e c.requires.x c.requires.e in
    simp (to_z-of_z, f.x_fits, f.d_fits, f.square, f.four) f.result

pub returns-then-product-ge0 : goal.returns-then-product-ge0
returns-then-product-ge0 c =
    let f = four_squares_fit c.args.x c.args.e c.requires.x c.requires.e in
    let sign = simp (to_z-of_z, f.x_fits, f.d_fits, f.square, f.four, f.result) at c.if-product-ge0.true in
    simp (to_z-of_z, f.x_fits, f.d_fits, f.square, f.four, f.result) (under_is c.args.e c.args.x sign)

pub returns-else-product-ge0 : goal.returns-else-product-ge0
returns-else-product-ge0 c =
    let f = four_squares_fit c.args.x c.args.e c.requires.x c.requires.e in
    let sign = simp (to_z-of_z, f.x_fits, f.d_fits, f.square, f.four, f.result) at c.if-product-ge0.false in
    under_is_none c.args.e c.args.x sign
