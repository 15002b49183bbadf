use Rattle.std.proofs.Common.{◌∙◌, sym, to_z-of_z, FitsSigned, rules}
use Rattle.std.specs.Int.{w128}
use Rattle.element_laws.proofs.Widths.{widened}
use Rattle.element_laws.proofs.Connectives.{and_first, and_second}
use Rattle.element_laws.proofs.FallFits.{fall_fits, wide_difference, wide_square}
use Rattle.element_laws.proofs.falls.nears_fall.Goals as goal

pub overflow_sub-x : goal.overflow_sub-x
overflow_sub-x c = simp (to_z-of_z, c.ranges.x, c.ranges.tol) (fall_fits c.args.tol c.args.x c.requires.tol c.requires.x).less

pub at_most-requires-clause-y : goal.at_most-requires-clause-y
at_most-requires-clause-y c =
    let f = fall_fits c.args.tol c.args.x c.requires.tol c.requires.x in
    let fits : FitsSigned w128 c.at_least_zero.result = search rules in
    let value = simp (to_z-of_z, c.ranges.x, c.ranges.tol, f.less) at c.at_least_zero.ensures in
    simp (to_z-of_z, fits) (rw value f.least)

pub at_most-requires-clause-x : goal.at_most-requires-clause-x
at_most-requires-clause-x c = simp (to_z-of_z, c.ranges.y) (wide_square c.args.y c.requires.y)

pub at_most-requires-clause-d : goal.at_most-requires-clause-d
at_most-requires-clause-d c = simp (to_z-of_z, c.ranges.high, widened c.args.high c.ranges.high) (wide_difference c.args.high c.requires.high)

pub returns-then-at_least : goal.returns-then-at_least
returns-then-at_least c =
    let f = fall_fits c.args.tol c.args.x c.requires.tol c.requires.x in
    let high = widened c.args.high c.ranges.high in
    let low = widened c.args.low c.ranges.low in
    let least : FitsSigned w128 c.at_least_zero.result = search rules in
    let value = simp (to_z-of_z, c.ranges.x, c.ranges.tol, f.less) at c.at_least_zero.ensures in
    let says = simp (to_z-of_z, c.ranges.high, high, least, c.ranges.y) at c.at_most.ensures in
    let test = simp (to_z-of_z, c.ranges.low, low, c.ranges.x, c.ranges.tol, f.more, c.ranges.y) at c.at_least.ensures in
    rw value at says ∙ and_second _ _ (sym test ∙ c.if-at_least.true)

pub returns-else-at_least : goal.returns-else-at_least
returns-else-at_least c =
    let f = fall_fits c.args.tol c.args.x c.requires.tol c.requires.x in
    let low = widened c.args.low c.ranges.low in
    let test = simp (to_z-of_z, c.ranges.low, low, c.ranges.x, c.ranges.tol, f.more, c.ranges.y) at c.at_least.ensures in
    test ∙ and_first _ _ (sym test ∙ c.if-at_least.false)
