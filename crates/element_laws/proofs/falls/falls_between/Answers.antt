use Rattle.std.proofs.Common.{◌∙◌, sym, to_z-of_z}
use Rattle.element_laws.proofs.Widths.{widened}
use Rattle.element_laws.proofs.Connectives.{and_second}
use Rattle.element_laws.proofs.FallFits.{wide_difference}
use Rattle.element_laws.proofs.falls.falls_between.Goals as goal

pub at_most-requires-clause-d : goal.at_most-requires-clause-d
at_most-requires-clause-d c = simp (to_z-of_z, c.ranges.high, widened c.args.high c.ranges.high) (wide_difference c.args.high c.requires.high)

pub returns-then-at_least : goal.returns-then-at_least
returns-then-at_least c =
    let fits = widened c.args.high c.ranges.high in
    let low_fits = widened c.args.low c.ranges.low in
    let says = simp (to_z-of_z, c.ranges.high, fits, c.ranges.x, c.ranges.y) at c.at_most.ensures in
    let test = simp (to_z-of_z, c.ranges.low, low_fits, c.ranges.x, c.ranges.y) at c.at_least.ensures in
    says ∙ and_second _ _ (sym test ∙ c.if-at_least.true)
