use Rattle.std.proofs.Common.{to_z-of_z, FitsSigned, rules, refl}
use Rattle.std.specs.Int.{w128}
use Rattle.gas_units.proofs.Quotients.{floor_is, divides_by}
use Rattle.gas_units.proofs.roots_and_quotients.floor_div.Goals as goal

pub returns : goal.returns
returns c =
    let n = c.ranges.n in
    let d = c.ranges.d in
    let r : FitsSigned w128 c.div_euclid.result = search rules in
    simp to_z-of_z (floor_is _ _ _ _ (divides_by _ _ _ _ c.requires (simp to_z-of_z at c.div_euclid.ensures) refl))
