use Rattle.std.proofs.Common.{◌≡◌, ◌+ℤ◌, pos, to_z-of_z, FitsSigned, rules, ap}
use Rattle.std.specs.Int.{w128, cast_unsigned}
use Rattle.gas_units.proofs.Quotients.{ceiling_is, ceiling_is_next, divides_by}
use Rattle.gas_units.proofs.roots_and_quotients.ceil_div.Goals as goal

pub returns-then-rem_euclid-eq0 : goal.returns-then-rem_euclid-eq0
returns-then-rem_euclid-eq0 c =
    let n = c.ranges.n in
    let d = c.ranges.d in
    let r : FitsSigned w128 c.div_euclid-quotient.result = search rules in
    let zero : c.rem_euclid.result ≡ pos 0 = search rules in
    simp to_z-of_z (ceiling_is _ _ _ _ (divides_by _ _ _ _ c.requires (simp to_z-of_z at c.div_euclid-quotient.ensures) (simp to_z-of_z at c.rem_euclid.ensures.value)) zero)

pub returns-else-rem_euclid-eq0 : goal.returns-else-rem_euclid-eq0
returns-else-rem_euclid-eq0 c =
    let n = c.ranges.n in
    let d = c.ranges.d in
    let r : FitsSigned w128 c.div_euclid-quotient.result = search rules in
    let s : FitsSigned w128 (c.div_euclid-quotient.result +ℤ pos 1) = search rules in
    let some : c.rem_euclid.result ≡ pos 0 → ⊥ = λ e. c.if-rem_euclid-eq0.false (ap (cast_unsigned w128) e) in
    simp to_z-of_z (ceiling_is_next _ _ _ _ (divides_by _ _ _ _ c.requires (simp to_z-of_z at c.div_euclid-quotient.ensures) (simp to_z-of_z at c.rem_euclid.ensures.value)) some)
