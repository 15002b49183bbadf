-- What the code of the bounds by a resistance computes fits.
use Rattle.std.proofs.Common.{◌≡◌, ◌∙◌, sym, ap, subst, inl, inr, ℕ, ◌+◌, ◌*◌, ◌^◌, lit≤, arith, ℤ, pos, neg_ℤ, ◌+ℤ◌, ◌-ℤ◌, ◌*ℤ◌, ◌≤ℤ◌, ◌<ℤ◌, IsTrue, FitsSigned, w64}
use Rattle.std.specs.Int.{w128}
use borrow.Author.Differences.{fits_in}
use Rattle.integer_laws.specs.Sizes.{IsWithin}
use Rattle.integer_laws.proofs.Ring.{linear, le_or_lt, mul_le_left, mul_one, one_mul, neg_mul, add_mul}
use Rattle.integer_laws.proofs.SizeLemmas.{within_fits, within_parts, one_part, product_within, sum_within, difference_within}
use Rattle.gas_model.specs.declared.rows.Drag.{Drag}
use Rattle.gas_model.specs.BoxLimits.{IsScale}
use Rattle.gas_model.specs.Limits.{is_drag_within}
use Rattle.base_types.specs.Numbers.{is_drag_part}
use Rattle.gas_model.specs.Curves.{square, curve, drop_low, drop_high}
use Rattle.gas_model.proofs.LimitFacts.{scale_size}
use Rattle.gas_units.specs.Rounds.{IsFloor, IsCeiling}
use Rattle.element_laws.specs.Sizes.{most_flow, is_wide_square}
use Rattle.element_laws.proofs.DropFits.{drag_parts, part_from, part_most, part_size}
use Rattle.element_laws.proofs.RootFits.{wide_square_size}
use Rattle.gas_model.proofs.CurveFacts.{curve_forward, curve_back}
use Rattle.tight_steps.proofs.Allowed.{scale_one}

negated : (m : ℕ) (z : ℤ) → IsWithin m z → IsWithin m (neg_ℤ z)
negated m z h = omega (arith, linear, within_parts, one_part z, one_part (neg_ℤ z))

curve_size : (f g q : ℤ) → IsTrue (is_drag_part f) → IsTrue (is_drag_part g) → IsWithin most_flow q → IsWithin (2 ^ 38 * (most_flow * most_flow)) (curve f g q)
curve_size f g q a b w =
    let s = product_within q q most_flow most_flow w w in
    let x = product_within f (square q) (2 ^ 38) (most_flow * most_flow) (part_size f a) s in
    let y = product_within g (square q) (2 ^ 38) (most_flow * most_flow) (part_size g b) s in
    elim (le_or_lt (pos 0) q) [
      | inl forward ↦ subst (IsWithin (2 ^ 38 * (most_flow * most_flow))) (sym (curve_forward f g q forward)) x
      | inr back ↦ subst (IsWithin (2 ^ 38 * (most_flow * most_flow))) (sym (curve_back f g q back)) (negated (2 ^ 38 * (most_flow * most_flow)) (g *ℤ square q) y)
    ]

-- ---- quotients
shift_up : (q d : ℤ) → neg_ℤ (q +ℤ pos 1) *ℤ d ≡ neg_ℤ (q *ℤ d +ℤ d)
shift_up q d = neg_mul (q +ℤ pos 1) d ∙ ap neg_ℤ (add_mul q (pos 1) d ∙ ap (λ (z : ℤ). q *ℤ d +ℤ z) (one_mul d))

shift_down : (q d : ℤ) → (q -ℤ pos 1) *ℤ d ≡ q *ℤ d -ℤ d
shift_down q d = add_mul q (neg_ℤ (pos 1)) d ∙ ap (λ (z : ℤ). q *ℤ d +ℤ z) (neg_mul (pos 1) d ∙ ap neg_ℤ (one_mul d))

between_zero : (m : ℕ) (n q : ℤ) → pos 0 ≤ℤ q → q ≤ℤ n → IsWithin m n → IsWithin m q
between_zero m n q a b w = omega (arith, linear, within_parts, one_part q, one_part n)

below_zero : (m : ℕ) (n q : ℤ) → q ≤ℤ pos 0 → n ≤ℤ q → IsWithin m n → IsWithin m q
below_zero m n q a b w = omega (arith, linear, within_parts, one_part q, one_part n)

floor_size : (m : ℕ) (n d q : ℤ) → pos 1 ≤ℤ d → IsFloor n d q → IsWithin m n → IsWithin m q
floor_size m n d q one f w =
    elim (le_or_lt (pos 0) q) [
      | inl up ↦
          let h = mul_le_left q (pos 1) d up one in
          between_zero m n q up (omega (arith, linear, h, mul_one q, f.at_most)) w
      | inr down ↦
          let k : pos 0 ≤ℤ neg_ℤ (q +ℤ pos 1) = omega (arith, linear, down) in
          let h = mul_le_left (neg_ℤ (q +ℤ pos 1)) (pos 1) d k one in
          below_zero m n q (omega (arith, linear, down)) (omega (arith, linear, h, mul_one (neg_ℤ (q +ℤ pos 1)), shift_up q d, f.greatest)) w
    ]

ceiling_size : (m : ℕ) (n d q : ℤ) → pos 1 ≤ℤ d → IsCeiling n d q → IsWithin m n → IsWithin m q
ceiling_size m n d q one f w =
    elim (le_or_lt (pos 1) q) [
      | inl up ↦
          let k : pos 0 ≤ℤ (q -ℤ pos 1) = omega (arith, linear, up) in
          let h = mul_le_left (q -ℤ pos 1) (pos 1) d k one in
          between_zero m n q (omega (arith, linear, up)) (omega (arith, linear, h, mul_one (q -ℤ pos 1), shift_down q d, f.least)) w
      | inr down ↦
          let k : pos 0 ≤ℤ neg_ℤ q = omega (arith, linear, down) in
          let h = mul_le_left (neg_ℤ q) (pos 1) d k one in
          below_zero m n q (omega (arith, linear, down)) (omega (arith, linear, h, mul_one (neg_ℤ q), neg_mul q d, f.at_least)) w
    ]

-- ---- what fits
pub record PartFits (den K : ℤ) : Type 0 where
  pub small : FitsSigned w64 den
  pub wide : FitsSigned w128 den
  pub product : FitsSigned w128 (den *ℤ K)
  pub one : pos 1 ≤ℤ (den *ℤ K)

pub part_fits : (law : Drag) (K : ℤ) → IsTrue (is_drag_within law) → IsScale K → PartFits law.den K
part_fits law K t k =
    let d = (drag_parts law t).den in
    let size = part_size law.den d in
    let one = mul_le_left law.den (pos 1) K (omega (arith, linear, part_from law.den d)) (scale_one K k) in
    record {
      small = fits_in w64 law.den (omega (arith, linear, part_from law.den d, part_most law.den d));
      wide = within_fits (2 ^ 38) law.den size (lit≤ tt);
      product = within_fits (2 ^ 38 * 16) (law.den *ℤ K) (product_within law.den K (2 ^ 38) 16 size (scale_size K k)) (lit≤ tt);
      one = omega (arith, linear, one, mul_one law.den, part_from law.den d);
    }

pub record MovedFits (x q : ℤ) : Type 0 where
  pub up_by : FitsSigned w128 (x +ℤ q)
  pub down_by : FitsSigned w128 (x -ℤ q)

moved_fits : (x q : ℤ) → IsTrue (is_wide_square x) → IsWithin (2 ^ 38 * (most_flow * most_flow)) q → MovedFits x q
moved_fits x q a w = record {
  up_by = within_fits (32 * 10 ^ 16 + 16 + 2 ^ 38 * (most_flow * most_flow)) (x +ℤ q) (sum_within x q (32 * 10 ^ 16 + 16) (2 ^ 38 * (most_flow * most_flow)) (wide_square_size x a) w) (lit≤ tt);
  down_by = within_fits (32 * 10 ^ 16 + 16 + 2 ^ 38 * (most_flow * most_flow)) (x -ℤ q) (difference_within x q (32 * 10 ^ 16 + 16) (2 ^ 38 * (most_flow * most_flow)) (wide_square_size x a) w) (lit≤ tt);
}

pub floor_moves : (law : Drag) (K flow x q : ℤ) → IsTrue (is_drag_within law) → IsScale K → IsWithin most_flow flow → IsTrue (is_wide_square x) → IsFloor (drop_low law flow) (law.den *ℤ K) q → MovedFits x q
floor_moves law K flow x q t k w a f =
    let p = drag_parts law t in
    moved_fits x q a (floor_size (2 ^ 38 * (most_flow * most_flow)) (drop_low law flow) (law.den *ℤ K) q (part_fits law K t k).one f (curve_size law.lo law.hi flow p.lo p.hi w))

pub ceiling_moves : (law : Drag) (K flow x q : ℤ) → IsTrue (is_drag_within law) → IsScale K → IsWithin most_flow flow → IsTrue (is_wide_square x) → IsCeiling (drop_high law flow) (law.den *ℤ K) q → MovedFits x q
ceiling_moves law K flow x q t k w a f =
    let p = drag_parts law t in
    moved_fits x q a (ceiling_size (2 ^ 38 * (most_flow * most_flow)) (drop_high law flow) (law.den *ℤ K) q (part_fits law K t k).one f (curve_size law.hi law.lo flow p.hi p.lo w))
