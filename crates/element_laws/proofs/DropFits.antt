-- What the code of drops computes fits.
use Rattle.std.proofs.Common.{◌*◌, ◌+◌, ◌^◌, lit≤, arith, ℤ, pos, ◌-ℤ◌, ◌*ℤ◌, ◌≤ℤ◌, FitsSigned, w64, IsTrue}
use Rattle.std.specs.Int.{w128}
use borrow.Author.Differences.{fits_in}
use Rattle.integer_laws.specs.Sizes.{IsWithin}
use Rattle.integer_laws.proofs.Ring.{linear}
use Rattle.integer_laws.proofs.SizeLemmas.{within_fits, product_within, difference_within, between_within}
use Rattle.gas_model.specs.declared.rows.Drag.{Drag}
use Rattle.base_types.specs.Numbers.{is_drag_part}
use Rattle.gas_model.specs.Limits.{is_drag_within}
use Rattle.element_laws.specs.Sizes.{most_flow}

-- a law's numbers within their limits
pub record DragParts (law : Drag) : Type 0 where
  pub lo : IsTrue (is_drag_part law.lo)
  pub hi : IsTrue (is_drag_part law.hi)
  pub den : IsTrue (is_drag_part law.den)

pub drag_parts : (law : Drag) → IsTrue (is_drag_within law) → DragParts law
drag_parts law t =
    let a : IsTrue (is_drag_part law.lo) = grind arith in
    let b : IsTrue (is_drag_part law.hi) = grind arith in
    let c : IsTrue (is_drag_part law.den) = grind arith in
    record { lo = a; hi = b; den = c }

pub part_from : (bound : ℤ) → IsTrue (is_drag_part bound) → pos 1 ≤ℤ bound
part_from bound t = grind (arith, linear)

pub part_most : (bound : ℤ) → IsTrue (is_drag_part bound) → bound ≤ℤ pos (2 ^ 38)
part_most bound t = grind (arith, linear)

pub part_size : (bound : ℤ) → IsTrue (is_drag_part bound) → IsWithin (2 ^ 38) bound
part_size bound t = between_within (2 ^ 38) bound (omega (arith, linear, part_from bound t)) (part_most bound t)

pub record DropFits (bound flow : ℤ) : Type 0 where
  pub small : FitsSigned w64 bound
  pub wide : FitsSigned w128 bound
  pub q : FitsSigned w128 flow
  pub square : FitsSigned w128 (flow *ℤ flow)
  pub product : FitsSigned w128 (bound *ℤ (flow *ℤ flow))
  pub negated : FitsSigned w128 (pos 0 -ℤ bound *ℤ (flow *ℤ flow))

pub drop_fits : (bound q : ℤ) → IsTrue (is_drag_part bound) → IsWithin most_flow q → DropFits bound q
drop_fits bound q t w =
    let b = part_size bound t in
    let s = product_within q q most_flow most_flow w w in
    let p = product_within bound (q *ℤ q) (2 ^ 38) (most_flow * most_flow) b s in
    let n = difference_within (pos 0) (bound *ℤ (q *ℤ q)) 0 (2 ^ 38 * (most_flow * most_flow)) (lit≤ tt) p in
    record {
      small = fits_in w64 bound (omega (arith, linear, part_from bound t, part_most bound t));
      wide = within_fits (2 ^ 38) bound b (lit≤ tt);
      q = within_fits most_flow q w (lit≤ tt);
      square = within_fits (most_flow * most_flow) (q *ℤ q) s (lit≤ tt);
      product = within_fits (2 ^ 38 * (most_flow * most_flow)) (bound *ℤ (q *ℤ q)) p (lit≤ tt);
      negated = within_fits (0 + 2 ^ 38 * (most_flow * most_flow)) (pos 0 -ℤ bound *ℤ (q *ℤ q)) n (lit≤ tt);
    }
