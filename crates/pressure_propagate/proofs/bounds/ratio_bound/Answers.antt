use Rattle.std.proofs.Common.{◌≡◌, ◌∙◌, sym, subst, to_z-of_z, rules, FitsSigned, ℤ, pos, ◌*ℤ◌, ◌≤ℤ◌, true, false}
use Rattle.std.specs.Int.{w128}
use Rattle.integer_laws.proofs.Ring.{mul_one}
use Rattle.gas_model.specs.Curves.{square}
use Rattle.gas_units.specs.Rounds.{IsFloor, IsCeiling}
use Rattle.pressure_propagate.proofs.SquareBounds.{one_squared, floor_bound, ceiling_bound}
use Rattle.pressure_propagate.proofs.bounds.ratio_bound.Goals as goal

pub floor_div-requires : goal.floor_div-requires
floor_div-requires c =
    let part : FitsSigned w128 c.ratio_square-then-low.result = search rules in
    let is = simp (to_z-of_z, c.ranges.num) at c.ratio_square-then-low.ensures in
    let same : c.ratio_square-then-low.result ≡ square c.args.num = is ∙ mul_one (square c.args.num) in
    simp (to_z-of_z, part) (subst (λ (z : ℤ). pos 1 ≤ℤ z) (sym same) (one_squared c.args.num c.requires.num))

pub ceil_div-requires : goal.ceil_div-requires
ceil_div-requires c =
    let part : FitsSigned w128 c.ratio_square-else-low-2.result = search rules in
    let is = simp (to_z-of_z, c.ranges.den) at c.ratio_square-else-low-2.ensures in
    let same : c.ratio_square-else-low-2.result ≡ square c.args.den = is ∙ mul_one (square c.args.den) in
    simp (to_z-of_z, part) (subst (λ (z : ℤ). pos 1 ≤ℤ z) (sym same) (one_squared c.args.den c.requires.den))

pub returns-then-low : goal.returns-then-low
returns-then-low c =
    let part : FitsSigned w128 c.ratio_square-then-low.result = search rules in
    let whole : FitsSigned w128 c.ratio_square.result = search rules in
    let result : FitsSigned w128 c.floor_div.result = search rules in
    let is = simp (to_z-of_z, c.ranges.num) at c.ratio_square-then-low.ensures in
    let top = simp (to_z-of_z, c.ranges.den, c.ranges.other) at c.ratio_square.ensures in
    let same : c.ratio_square-then-low.result ≡ square c.args.num = is ∙ mul_one (square c.args.num) in
    let floor = simp (to_z-of_z, part, whole) at c.floor_div.ensures in
    let here = subst (λ (z : ℤ). IsFloor z (square c.args.num) c.floor_div.result) top (subst (λ (z : ℤ). IsFloor c.ratio_square.result z c.floor_div.result) same floor) in
    simp (to_z-of_z, result) (rw c.if-low.true (floor_bound c.args.num c.args.den c.args.other c.floor_div.result c.requires.num c.requires.den here))

pub returns-else-low : goal.returns-else-low
returns-else-low c =
    let part : FitsSigned w128 c.ratio_square-else-low-2.result = search rules in
    let whole : FitsSigned w128 c.ratio_square-else-low.result = search rules in
    let result : FitsSigned w128 c.ceil_div.result = search rules in
    let is = simp (to_z-of_z, c.ranges.den) at c.ratio_square-else-low-2.ensures in
    let top = simp (to_z-of_z, c.ranges.num, c.ranges.other) at c.ratio_square-else-low.ensures in
    let same : c.ratio_square-else-low-2.result ≡ square c.args.den = is ∙ mul_one (square c.args.den) in
    let ceiling = simp (to_z-of_z, part, whole) at c.ceil_div.ensures in
    let here = subst (λ (z : ℤ). IsCeiling z (square c.args.den) c.ceil_div.result) top (subst (λ (z : ℤ). IsCeiling c.ratio_square-else-low.result z c.ceil_div.result) same ceiling) in
    simp (to_z-of_z, result) (rw c.if-low.false (ceiling_bound c.args.num c.args.den c.args.other c.ceil_div.result c.requires.num c.requires.den here))
