use Rattle.std.proofs.Common.{◌≡◌, ◌^◌, ℕ, ℤ, negsuc, ◌≤ℤ◌, FitsSigned, rules, arith, ap, subst, ◌∙◌}
use Rattle.std.specs.Int.{w64}
use Rattle.std.proofs.lemmas.Int.{to_z-of_z}
use Rattle.integer_laws.proofs.Ring.{linear}
use Rattle.gas_units.specs.Grid.{place, down_part, IsSize}
use Rattle.gas_units.proofs.Rounding.{below_line}
use Rattle.gas_units.proofs.grid.size_in.Goals as goal

pub returns-else-place-ge0 : goal.returns-else-place-ge0
returns-else-place-ge0 c =
    let f : FitsSigned w64 c.grid_place-place.result = search rules in
    let e = to_z-of_z w64 c.grid_place-place.result f in
    let p : c.grid_place-place.result ≡ place c.args.value.now c.args.unit = c.grid_place-place.ensures.exact in
    let down : c.down_places.result ≡ down_part (place c.args.value.now c.args.unit) = c.down_places.ensures.exact ∙ ap down_part (e ∙ p) in
    let test = c.if-place-ge0.false in
    let less : c.grid_place-place.result ≤ℤ negsuc 0 = omega (arith, linear, rw e at test) in
    below_line (place c.args.value.now c.args.unit) c.args.value.now.digits c.part_size.result (subst (λ (z : ℤ). z ≤ℤ negsuc 0) p less)
    (subst (λ (k : ℕ). IsSize c.args.value.now.digits (10 ^ k) c.part_size.result) down c.part_size.ensures)
