-- What the code computes fits its type, and what its tests say.
use Rattle.std.proofs.Common.{◌≡◌, ◌⊎◌, ◌^◌, inl, inr, ap, subst, arith, ℤ, pos, ◌-ℤ◌, ◌*ℤ◌, ◌≤ℤ◌, FitsSigned, IsTrue, ◌↔◌, int_le}
use Rattle.std.specs.Int.{w128}
use Rattle.integer_laws.proofs.Ring.{linear, mul_le_left, mul_le_right, mul_pos, one_mul, le_test}
use Rattle.interval_core.specs.Enclosures.{Pair, IsSmall, Has}
use Rattle.interval_core.proofs.EnclosureLemmas.{parts, one_part, small_fits, scale_positive}
use Rattle.interval_core.proofs.SquareLemmas.{square_small}

pub back_fits : (z : ℤ) → IsSmall z → FitsSigned w128 (pos 0 -ℤ z)
back_fits z h = omega (arith, linear, parts, one_part (pos 0 -ℤ z), h)

-- the products of a square with two factors
pub record SquareFits (lo hi x : ℤ) : Type 0 where
  pub square : FitsSigned w128 (x *ℤ x)
  pub low : FitsSigned w128 (lo *ℤ (x *ℤ x))
  pub high : FitsSigned w128 (hi *ℤ (x *ℤ x))
  pub low_back : FitsSigned w128 (pos 0 -ℤ lo *ℤ (x *ℤ x))
  pub high_back : FitsSigned w128 (pos 0 -ℤ hi *ℤ (x *ℤ x))

pub squares_fit : (lo hi x : ℤ) → pos 1 ≤ℤ lo → lo ≤ℤ hi → IsSmall (hi *ℤ (x *ℤ x)) → SquareFits lo hi x
squares_fit lo hi x i j s =
    let low = square_small lo hi x i j s in
    let one = square_small (pos 1) hi x (omega (arith, linear)) (omega (arith, linear)) s in
    record {
      square = small_fits (x *ℤ x) (subst IsSmall (one_mul (x *ℤ x)) one);
      low = small_fits (lo *ℤ (x *ℤ x)) low;
      high = small_fits (hi *ℤ (x *ℤ x)) s;
      low_back = back_fits (lo *ℤ (x *ℤ x)) low;
      high_back = back_fits (hi *ℤ (x *ℤ x)) s;
    }

-- the denominator in units of the grid
pub record IsUnit (K den : ℤ) : Type 0 where
  pub fits : FitsSigned w128 (den *ℤ K)
  pub positive : pos 1 ≤ℤ (den *ℤ K)

pub unit_is : (K den : ℤ) → (K ≡ pos 1) ⊎ (K ≡ pos 16) → pos 1 ≤ℤ den → den ≤ℤ pos (2 ^ 38) → IsUnit K den
unit_is K den k i j =
    let up = scale_positive K k in
    let few : K ≤ℤ pos 16 = elim k [ inl e ↦ omega (arith, linear, e) | inr e ↦ omega (arith, linear, e) ] in
    let a = mul_le_left den K (pos 16) (omega (arith, linear)) few in
    let b : (den *ℤ pos 16) ≤ℤ pos (2 ^ 42) = mul_le_right (pos 16) den (pos (2 ^ 38)) (omega (arith, linear)) j in
    let c = mul_pos den K (omega (arith, linear)) (omega (arith, linear)) in
    record { fits = omega (arith, linear, a, b, c); positive = omega (arith, linear, c) }

pub le_of_test : (a b : ℤ) → IsTrue (int_le a b) → a ≤ℤ b
le_of_test a b t = omega (arith, linear, t)

-- the second of the two tests of a fraction
pub contains_is : (K s : ℤ) (a : Pair) (n d : ℤ) → s ≡ K → (a.0 *ℤ d) ≤ℤ (s *ℤ n) → IsTrue (int_le (s *ℤ n) (a.1 *ℤ d)) ↔ Has K a n d
contains_is K s a n d e h =
    let same : s *ℤ n ≡ K *ℤ n = ap (λ (y : ℤ). y *ℤ n) e in
    (λ t. record { above = omega (arith, linear, same, h); below = omega (arith, linear, same, t) }, λ x. le_test (s *ℤ n) (a.1 *ℤ d) (omega (arith, linear, same, x.below)))
