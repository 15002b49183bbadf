-- That what the code of the laws of falling pressures computes fits, and is within the limits of the tests of roots.
use Rattle.std.proofs.Common.{◌+◌, ◌^◌, lit≤, arith, ℤ, pos, ◌+ℤ◌, ◌-ℤ◌, ◌≤ℤ◌, FitsSigned, IsTrue}
use Rattle.std.specs.Int.{w128}
use Rattle.integer_laws.proofs.Ring.{linear}
use Rattle.integer_laws.proofs.SizeLemmas.{within_fits, sum_within, difference_within}
use Rattle.base_types.specs.Numbers.{is_difference, is_square}
use Rattle.gas_model.specs.Curves.{at_least_zero}
use Rattle.element_laws.specs.Sizes.{is_wide_square, is_wide_difference}
use Rattle.gas_model.proofs.LimitFacts.{square_from, square_most, square_size}

pub wide_difference : (d : ℤ) → IsTrue (is_difference d) → IsTrue (is_wide_difference d)
wide_difference d t = grind (arith, linear)

pub wide_square : (s : ℤ) → IsTrue (is_square s) → IsTrue (is_wide_square s)
wide_square s t = grind (arith, linear)

zero_or_more : (m z : ℤ) → pos 0 ≤ℤ m → z ≤ℤ m → m ≤ℤ pos (10 ^ 16) → IsTrue (is_wide_square (at_least_zero z))
zero_or_more m z a b h = grind (arith, linear)

pub record FallFits (tol x : ℤ) : Type 0 where
  pub more : FitsSigned w128 (x +ℤ tol)
  pub less : FitsSigned w128 (x -ℤ tol)
  pub least : IsTrue (is_wide_square (at_least_zero (x -ℤ tol)))

pub fall_fits : (tol x : ℤ) → IsTrue (is_square tol) → IsTrue (is_square x) → FallFits tol x
fall_fits tol x t a = record {
  more = within_fits (10 ^ 16 + 10 ^ 16) (x +ℤ tol) (sum_within x tol (10 ^ 16) (10 ^ 16) (square_size x a) (square_size tol t)) (lit≤ tt);
  less = within_fits (10 ^ 16 + 10 ^ 16) (x -ℤ tol) (difference_within x tol (10 ^ 16) (10 ^ 16) (square_size x a) (square_size tol t)) (lit≤ tt);
  least = zero_or_more x (x -ℤ tol) (square_from x a) (omega (arith, linear, square_from tol t)) (square_most x a);
}
