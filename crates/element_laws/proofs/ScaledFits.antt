-- What the code of products computes fits, and the tests of roots at a scale.
use Rattle.std.proofs.Common.{◌≡◌, sym, ap, ◌∙◌, ◌^◌, ◌*◌, ◌+◌, lit≤, arith, ℤ, pos, ◌-ℤ◌, ◌*ℤ◌, FitsSigned, w64, IsTrue}
use Rattle.std.specs.Prelude.{◌&&◌, ◌||◌, int_le}
use Rattle.std.specs.Int.{w128}
use borrow.Author.Differences.{fits_in}
use Rattle.integer_laws.proofs.Ring.{linear, one_mul, mul_assoc, mul_comm}
use Rattle.integer_laws.proofs.SizeLemmas.{within_fits, product_within, difference_within}
use Rattle.gas_model.specs.declared.law_forms.PipeLaw.{PipeLaw}
use Rattle.base_types.specs.Numbers.{is_ratio_part}
use Rattle.gas_model.specs.Laws.{is_pipe_within}
use Rattle.gas_model.specs.Curves.{square, excess, at_most, at_least}
use Rattle.gas_model.proofs.LimitFacts.{ratio_from, ratio_most, ratio_size, scale_size}
use Rattle.element_laws.specs.Sizes.{is_wide_square}
use Rattle.element_laws.proofs.DropFits.{drag_parts, part_from, part_most, part_size}
use Rattle.element_laws.proofs.RootFits.{wide_square_size}
use Rattle.gas_model.specs.BoxLimits.{IsScale}

pub scale_fits : (K : ℤ) → IsScale K → FitsSigned w128 K
scale_fits K k = within_fits 16 K (scale_size K k) (lit≤ tt)

pub wide_fits : (s : ℤ) → IsTrue (is_wide_square s) → FitsSigned w128 s
wide_fits s t = within_fits (32 * 10 ^ 16 + 16) s (wide_square_size s t) (lit≤ tt)

pub record GapFits (den K y x : ℤ) : Type 0 where
  pub small : FitsSigned w64 den
  pub wide : FitsSigned w128 den
  pub high : FitsSigned w128 y
  pub low : FitsSigned w128 x
  pub scaled : FitsSigned w128 (den *ℤ K)
  pub apart : FitsSigned w128 (y -ℤ x)
  pub product : FitsSigned w128 (den *ℤ K *ℤ (y -ℤ x))

pub gap_fits : (law : PipeLaw) (K high low : ℤ) → IsTrue (is_pipe_within law) → IsScale K → IsTrue (is_wide_square high) → IsTrue (is_wide_square low) → GapFits law.drag.den K high low
gap_fits law K high low t k a b =
    let d = (drag_parts law.drag t).den in
    let size = part_size law.drag.den d in
    let scaled_size = product_within law.drag.den K (2 ^ 38) 16 size (scale_size K k) in
    let apart_size = difference_within high low (32 * 10 ^ 16 + 16) (32 * 10 ^ 16 + 16) (wide_square_size high a) (wide_square_size low b) in
    record {
      small = fits_in w64 law.drag.den (omega (arith, linear, part_from law.drag.den d, part_most law.drag.den d));
      wide = within_fits (2 ^ 38) law.drag.den size (lit≤ tt);
      high = wide_fits high a;
      low = wide_fits low b;
      scaled = within_fits (2 ^ 38 * 16) (law.drag.den *ℤ K) scaled_size (lit≤ tt);
      apart = within_fits (32 * 10 ^ 16 + 16 + (32 * 10 ^ 16 + 16)) (high -ℤ low) apart_size (lit≤ tt);
      product = within_fits (2 ^ 38 * 16 * (32 * 10 ^ 16 + 16 + (32 * 10 ^ 16 + 16))) (law.drag.den *ℤ K *ℤ (high -ℤ low)) (product_within (law.drag.den *ℤ K) (high -ℤ low) (2 ^ 38 * 16) (32 * 10 ^ 16 + 16 + (32 * 10 ^ 16 + 16)) scaled_size apart_size) (lit≤ tt);
    }

pub record RatioFits (n z : ℤ) : Type 0 where
  pub small : FitsSigned w64 n
  pub wide : FitsSigned w128 n
  pub s : FitsSigned w128 z
  pub squared : FitsSigned w128 (n *ℤ n)
  pub product : FitsSigned w128 (n *ℤ n *ℤ z)

pub ratio_fits : (n s : ℤ) → IsTrue (is_ratio_part n) → IsTrue (is_wide_square s) → RatioFits n s
ratio_fits n s t a =
    let size = ratio_size n t in
    let squared_size = product_within n n (2 ^ 20) (2 ^ 20) size size in
    record {
      small = fits_in w64 n (omega (arith, linear, ratio_from n t, ratio_most n t));
      wide = within_fits (2 ^ 20) n size (lit≤ tt);
      s = wide_fits s a;
      squared = within_fits (2 ^ 20 * 2 ^ 20) (n *ℤ n) squared_size (lit≤ tt);
      product = within_fits (2 ^ 20 * 2 ^ 20 * (32 * 10 ^ 16 + 16)) (n *ℤ n *ℤ s) (product_within (n *ℤ n) s (2 ^ 20 * 2 ^ 20) (32 * 10 ^ 16 + 16) squared_size (wide_square_size s a)) (lit≤ tt);
    }

excess_at : (K y x D w : ℤ) → square w ≡ K *ℤ square D → excess (pos 1) y x w ≡ excess K y x D
excess_at K y x D w h = ap (λ (z : ℤ). y -ℤ x -ℤ z) (one_mul (square w) ∙ h)

turned : (K S x : ℤ) → pos 4 *ℤ (K *ℤ S) *ℤ x ≡ pos 4 *ℤ S *ℤ (K *ℤ x)
turned K S x =
    ap (λ (z : ℤ). pos 4 *ℤ z *ℤ x) (mul_comm K S) ∙ ap (λ (z : ℤ). z *ℤ x) (sym (mul_assoc (pos 4) S K)) ∙ mul_assoc (pos 4 *ℤ S) K x

four_at : (K x D w : ℤ) → square w ≡ K *ℤ square D → pos 4 *ℤ square w *ℤ (pos 1 *ℤ x) ≡ pos 4 *ℤ square D *ℤ (K *ℤ x)
four_at K x D w h =
    ap (λ (z : ℤ). pos 4 *ℤ square w *ℤ z) (one_mul x) ∙ ap (λ (z : ℤ). pos 4 *ℤ z *ℤ x) h ∙ turned K (square D) x

-- with the root of the scale times D, the test at whole units is that at the scale
pub at_most_at : (K y x D w : ℤ) → square w ≡ K *ℤ square D → at_most (pos 1) y x w ≡ at_most K y x D
at_most_at K y x D w h =
    ap (λ (z : ℤ). int_le z (pos 0) || int_le (square z) (pos 4 *ℤ square w *ℤ (pos 1 *ℤ x))) (excess_at K y x D w h)
    ∙ ap (λ (z : ℤ). int_le (excess K y x D) (pos 0) || int_le (square (excess K y x D)) z) (four_at K x D w h)

pub at_least_at : (K y x D w : ℤ) → square w ≡ K *ℤ square D → at_least (pos 1) y x w ≡ at_least K y x D
at_least_at K y x D w h =
    ap (λ (z : ℤ). int_le (pos 0) z && int_le (pos 4 *ℤ square w *ℤ (pos 1 *ℤ x)) (square z)) (excess_at K y x D w h)
    ∙ ap (λ (z : ℤ). int_le (pos 0) (excess K y x D) && int_le z (square (excess K y x D))) (four_at K x D w h)
