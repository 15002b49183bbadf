-- The pressures at the ends of an active arc, in the form of the code, and that what it computes fits.
use Rattle.std.proofs.Common.{◌≡◌, ◌*◌, ◌^◌, lit≤, refl, arith, ℤ, pos, ◌*ℤ◌, FitsSigned, w64, IsTrue, ◌&&◌, int_le}
use Rattle.std.specs.Int.{w128}
use borrow.Author.Differences.{fits_in}
use Rattle.integer_laws.proofs.Ring.{linear, one_mul}
use Rattle.integer_laws.proofs.SizeLemmas.{within_fits, product_within}
use Rattle.base_types.specs.Numbers.{is_ratio_part, is_square}
use Rattle.gas_model.specs.Curves.{square, keeps_inner}
use Rattle.gas_model.proofs.LimitFacts.{ratio_from, ratio_most, ratio_size, square_size}

pub inner_at_one : (in_min out_max u v : ℤ) → keeps_inner in_min out_max (pos 1) u v ≡ (int_le (square in_min) u && int_le v (square out_max))
inner_at_one in_min out_max u v = rw (one_mul (square in_min), one_mul (square out_max)) refl

pub record RatioFits (part s : ℤ) : Type 0 where
  pub small : FitsSigned w64 part
  pub squared : FitsSigned w128 (square part)
  pub product : FitsSigned w128 (square part *ℤ s)

pub ratio_fits : (part s : ℤ) → IsTrue (is_ratio_part part) → IsTrue (is_square s) → RatioFits part s
ratio_fits part s t a =
    let size = ratio_size part t in
    let squared_size = product_within part part (2 ^ 20) (2 ^ 20) size size in
    record {
      small = fits_in w64 part (omega (arith, linear, ratio_from part t, ratio_most part t));
      squared = within_fits (2 ^ 20 * 2 ^ 20) (square part) squared_size (lit≤ tt);
      product = within_fits (2 ^ 20 * 2 ^ 20 * 10 ^ 16) (square part *ℤ s) (product_within (square part) s (2 ^ 20 * 2 ^ 20) (10 ^ 16) squared_size (square_size s a)) (lit≤ tt);
    }
