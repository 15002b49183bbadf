use Rattle.std.proofs.Common.{to_z-of_z, rules, FitsSigned}
use Rattle.std.specs.Int.{w128}
use Rattle.gas_model.specs.Curves.{at_least}
use Rattle.pressure_propagate.proofs.RootBounds.{up_to, from_zero_on}
use Rattle.pressure_propagate.proofs.root_bounds.reach_bound.Goals as goal

pub returns-then-low-clause-bound : goal.returns-then-low-clause-bound
returns-then-low-clause-bound c C p =
    let result : FitsSigned w128 c.greatest_at_least.result = search rules in
    let h = simp (to_z-of_z, c.ranges.scale, c.ranges.other, c.ranges.d) at (c.greatest_at_least.ensures C p) in
    simp (to_z-of_z, result) (rw c.if-low.true (up_to (at_least c.args.scale c.args.other C c.args.d) c.greatest_at_least.result C h))

pub returns-else-low-clause-bound : goal.returns-else-low-clause-bound
returns-else-low-clause-bound c C p =
    let result : FitsSigned w128 c.max.result = search rules in
    let least : FitsSigned w128 c.least_at_least.result = search rules in
    let h = simp (to_z-of_z, c.ranges.scale, c.ranges.other, c.ranges.d) at (c.least_at_least.ensures C) in
    let most = simp (to_z-of_z, least) at c.max.ensures.value in
    simp (to_z-of_z, result) (rw c.if-low.false (from_zero_on (at_least c.args.scale C c.args.other c.args.d) c.least_at_least.result c.max.result C most p h))
