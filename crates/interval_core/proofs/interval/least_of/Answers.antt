use Rattle.std.proofs.Common.{to_z-of_z, FitsSigned, rules}
use Rattle.std.specs.Int.{w128}
use Rattle.interval_core.proofs.ProductLemmas.{least_of_four}
use Rattle.interval_core.proofs.interval.least_of.Goals as goal

pub returns : goal.returns
returns c =
    let w = c.ranges.w in
    let x = c.ranges.x in
    let y = c.ranges.y in
    let z = c.ranges.z in
    let first : FitsSigned w128 c.min.result = search rules in
    let second : FitsSigned w128 c.min-2.result = search rules in
    let third : FitsSigned w128 c.min-3.result = search rules in
    simp to_z-of_z (least_of_four _ _ _ _ c.min.result c.min-2.result c.min-3.result (simp to_z-of_z at c.min.ensures.value) (simp to_z-of_z at c.min-2.ensures.value) (simp to_z-of_z at c.min-3.ensures.value))
