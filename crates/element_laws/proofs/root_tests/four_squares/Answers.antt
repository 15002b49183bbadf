use Rattle.std.proofs.Common.{to_z-of_z}
use Rattle.element_laws.proofs.RootFits.{four_squares_fit, four_squares_at_one}
use Rattle.element_laws.proofs.root_tests.four_squares.Goals as goal

pub overflow_mul-result-3 : goal.overflow_mul-result-3
overflow_mul-result-3 c =
    let f = four_squares_fit c.args.x c.args.d c.requires.x c.requires.d in
    simp (to_z-of_z, f.x_fits, f.d_fits, f.square, f.four) f.result

pub returns : goal.returns
returns c =
    let f = four_squares_fit c.args.x c.args.d c.requires.x c.requires.d in
    simp (to_z-of_z, f.x_fits, f.d_fits, f.square, f.four, f.result) (four_squares_at_one c.args.x c.args.d)
