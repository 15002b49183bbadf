use Rattle.std.proofs.Common.{to_z-of_z}
use Rattle.element_laws.proofs.RootFits.{excess_fits, excess_at_one}
use Rattle.element_laws.proofs.root_tests.excess.Goals as goal

pub overflow_sub-result-2 : goal.overflow_sub-result-2
overflow_sub-result-2 c =
    let f = excess_fits c.args.y c.args.x c.args.d c.requires.y c.requires.x c.requires.d in
    simp (to_z-of_z, f.y_fits, f.x_fits, f.d_fits, f.apart, f.square) f.result

pub returns : goal.returns
returns c =
    let f = excess_fits c.args.y c.args.x c.args.d c.requires.y c.requires.x c.requires.d in
    record {
      value = simp (to_z-of_z, f.y_fits, f.x_fits, f.d_fits, f.apart, f.square, f.result) (excess_at_one c.args.y c.args.x c.args.d);
      size = simp (to_z-of_z, f.y_fits, f.x_fits, f.d_fits, f.apart, f.square, f.result) f.size;
    }
