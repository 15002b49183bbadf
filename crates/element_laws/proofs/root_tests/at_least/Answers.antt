use Rattle.std.proofs.Common.{to_z-of_z, FitsSigned, rules}
use Rattle.std.specs.Int.{w128}
use Rattle.element_laws.proofs.RootFits.{excess_square_fits}
use Rattle.element_laws.proofs.Connectives.{and_second}
use Rattle.element_laws.proofs.root_tests.at_least.Goals as goal

pub overflow_mul-result : goal.overflow_mul-result
overflow_mul-result c =
    let t : FitsSigned w128 c.excess-excess.result = search rules in
    simp (to_z-of_z, t) (excess_square_fits c.excess-excess.result c.excess-excess.ensures.size)

pub returns-then-excess-ge0 : goal.returns-then-excess-ge0
returns-then-excess-ge0 c =
    let t : FitsSigned w128 c.excess-excess.result = search rules in
    let four : FitsSigned w128 c.four_squares.result = search rules in
    let square = excess_square_fits c.excess-excess.result c.excess-excess.ensures.size in
    let test = simp (to_z-of_z, t) at c.if-excess-ge0.true in
    let value = simp (to_z-of_z, c.ranges.y, c.ranges.x, c.ranges.d) at c.excess-excess.ensures.value in
    let four_is = simp (to_z-of_z, c.ranges.x, c.ranges.d) at c.four_squares.ensures in
    simp (to_z-of_z, t, four, square) (rw (four_is, value) (and_second _ _ (rw value at test)))
