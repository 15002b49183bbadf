-- What the code of the tests of roots computes fits.
use Rattle.std.proofs.Common.{◌≡◌, ◌*◌, ◌+◌, ◌^◌, lit≤, sym, ap, arith, ℤ, pos, negsuc, ◌-ℤ◌, ◌*ℤ◌, ◌≤ℤ◌, FitsSigned, IsTrue}
use Rattle.std.specs.Int.{w128}
use Rattle.integer_laws.specs.Sizes.{IsWithin}
use Rattle.integer_laws.proofs.Ring.{linear, one_mul}
use Rattle.integer_laws.proofs.SizeLemmas.{within_parts, one_part, within_fits, product_within, difference_within}
use Rattle.gas_model.specs.Curves.{square, excess}
use Rattle.element_laws.specs.Sizes.{is_wide_square, is_wide_difference}

pub wide_square_from : (s : ℤ) → IsTrue (is_wide_square s) → negsuc 15 ≤ℤ s
wide_square_from s t = grind (arith, linear)

pub wide_square_most : (s : ℤ) → IsTrue (is_wide_square s) → s ≤ℤ pos (32 * 10 ^ 16 + 16)
wide_square_most s t = grind (arith, linear)

pub wide_square_size : (s : ℤ) → IsTrue (is_wide_square s) → IsWithin (32 * 10 ^ 16 + 16) s
wide_square_size s t = omega (arith, linear, within_parts, one_part s, wide_square_from s t, wide_square_most s t)

pub wide_difference_size : (d : ℤ) → IsTrue (is_wide_difference d) → IsWithin (16 * 10 ^ 8) d
wide_difference_size d t = grind (arith, linear, within_parts, one_part d)

pub record ExcessFits (y x d : ℤ) : Type 0 where
  pub y_fits : FitsSigned w128 y
  pub x_fits : FitsSigned w128 x
  pub d_fits : FitsSigned w128 d
  pub apart : FitsSigned w128 (y -ℤ x)
  pub square : FitsSigned w128 (d *ℤ d)
  pub result : FitsSigned w128 (y -ℤ x -ℤ d *ℤ d)
  pub size : IsWithin (4 * 10 ^ 18) (y -ℤ x -ℤ d *ℤ d)

pub excess_fits : (y x d : ℤ) → IsTrue (is_wide_square y) → IsTrue (is_wide_square x) → IsTrue (is_wide_difference d) → ExcessFits y x d
excess_fits y x d a b e =
    let y_size = wide_square_size y a in
    let x_size = wide_square_size x b in
    let d_size = wide_difference_size d e in
    let apart_size = difference_within y x (32 * 10 ^ 16 + 16) (32 * 10 ^ 16 + 16) y_size x_size in
    let square_size = product_within d d (16 * 10 ^ 8) (16 * 10 ^ 8) d_size d_size in
    let size = difference_within (y -ℤ x) (d *ℤ d) (2 * (32 * 10 ^ 16 + 16)) (256 * 10 ^ 16) apart_size square_size in
    record {
      y_fits = within_fits (32 * 10 ^ 16 + 16) y y_size (lit≤ tt);
      x_fits = within_fits (32 * 10 ^ 16 + 16) x x_size (lit≤ tt);
      d_fits = within_fits (16 * 10 ^ 8) d d_size (lit≤ tt);
      apart = within_fits (2 * (32 * 10 ^ 16 + 16)) (y -ℤ x) apart_size (lit≤ tt);
      square = within_fits (256 * 10 ^ 16) (d *ℤ d) square_size (lit≤ tt);
      result = within_fits (2 * (32 * 10 ^ 16 + 16) + 256 * 10 ^ 16) (y -ℤ x -ℤ d *ℤ d) size (lit≤ tt);
      size = omega (arith, size);
    }

-- the code's form of the excess
pub excess_at_one : (y x d : ℤ) → y -ℤ x -ℤ d *ℤ d ≡ excess (pos 1) y x d
excess_at_one y x d = ap (λ (z : ℤ). y -ℤ x -ℤ z) (sym (one_mul (square d)))

pub record FourSquaresFit (x d : ℤ) : Type 0 where
  pub x_fits : FitsSigned w128 x
  pub d_fits : FitsSigned w128 d
  pub square : FitsSigned w128 (d *ℤ d)
  pub four : FitsSigned w128 (pos 4 *ℤ (d *ℤ d))
  pub result : FitsSigned w128 (pos 4 *ℤ (d *ℤ d) *ℤ x)

pub four_squares_fit : (x d : ℤ) → IsTrue (is_wide_square x) → IsTrue (is_wide_difference d) → FourSquaresFit x d
four_squares_fit x d b e =
    let x_size = wide_square_size x b in
    let d_size = wide_difference_size d e in
    let square_size = product_within d d (16 * 10 ^ 8) (16 * 10 ^ 8) d_size d_size in
    let four_size = product_within (pos 4) (d *ℤ d) 4 (256 * 10 ^ 16) (lit≤ tt) square_size in
    let size = product_within (pos 4 *ℤ (d *ℤ d)) x (1024 * 10 ^ 16) (32 * 10 ^ 16 + 16) four_size x_size in
    record {
      x_fits = within_fits (32 * 10 ^ 16 + 16) x x_size (lit≤ tt);
      d_fits = within_fits (16 * 10 ^ 8) d d_size (lit≤ tt);
      square = within_fits (256 * 10 ^ 16) (d *ℤ d) square_size (lit≤ tt);
      four = within_fits (1024 * 10 ^ 16) (pos 4 *ℤ (d *ℤ d)) four_size (lit≤ tt);
      result = within_fits (1024 * 10 ^ 16 * (32 * 10 ^ 16 + 16)) (pos 4 *ℤ (d *ℤ d) *ℤ x) size (lit≤ tt);
    }

pub four_squares_at_one : (x d : ℤ) → pos 4 *ℤ (d *ℤ d) *ℤ x ≡ pos 4 *ℤ square d *ℤ (pos 1 *ℤ x)
four_squares_at_one x d = ap (λ (z : ℤ). pos 4 *ℤ square d *ℤ z) (sym (one_mul x))

pub excess_square_fits : (t : ℤ) → IsWithin (4 * 10 ^ 18) t → FitsSigned w128 (t *ℤ t)
excess_square_fits t h = within_fits (4 * 10 ^ 18 * (4 * 10 ^ 18)) (t *ℤ t) (product_within t t (4 * 10 ^ 18) (4 * 10 ^ 18) h h) (lit≤ tt)
