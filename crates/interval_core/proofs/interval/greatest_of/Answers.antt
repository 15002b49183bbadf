use Rattle.std.proofs.Common.{to_z-of_z, FitsSigned, rules}
use Rattle.std.specs.Int.{w128}
use Rattle.interval_core.proofs.ProductLemmas.{greatest_of_four}
use Rattle.interval_core.proofs.interval.greatest_of.Goals as goal

pub returns : goal.returns
returns c =
    let w = c.ranges.w in
    let x = c.ranges.x in
    let y = c.ranges.y in
    let z = c.ranges.z in
    let first : FitsSigned w128 c.max.result = search rules in
    let second : FitsSigned w128 c.max-2.result = search rules in
    let third : FitsSigned w128 c.max-3.result = search rules in
    simp to_z-of_z (greatest_of_four _ _ _ _ c.max.result c.max-2.result c.max-3.result (simp to_z-of_z at c.max.ensures.value) (simp to_z-of_z at c.max-2.ensures.value) (simp to_z-of_z at c.max-3.ensures.value))
