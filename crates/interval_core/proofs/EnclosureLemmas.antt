-- Which ends enclose the results of an operation, and that no others are tighter.
use Rattle.std.proofs.Common.{◌≡◌, ◌⊎◌, ◌+◌, inl, inr, refl, ap, arith, ℤ, pos, negsuc, ◌+ℤ◌, ◌-ℤ◌, ◌*ℤ◌, neg_ℤ, ◌≤ℤ◌, unsigned_abs, FitsSigned}
use Rattle.std.specs.Int.{w128}
use borrow.Author.Differences.{up, down}
use Rattle.integer_laws.proofs.Ring.{linear, mul_add, mul_neg, neg_mul, add_mul, mul_comm, mul_le_left, le_of_mul_left, mul_sub, sub_mul}
use Rattle.interval_core.specs.Enclosures.{Pair, IsPair, IsSmall, Has, EnclosesSums, IsSum, EnclosesDifferences, IsDifference, IsNegative}

pub parts : (z : ℤ) → unsigned_abs z ≡ up z + down z
parts (pos n) = omega arith
parts (negsuc n) = omega arith

pub one_part : (z : ℤ) → (up z ≡ 0) ⊎ (down z ≡ 0)
one_part (pos n) = inr refl
one_part (negsuc n) = inl refl

-- the ends lie in the interval, over the denominator K
pub low_in : (K : ℤ) (a : Pair) → pos 1 ≤ℤ K → IsPair a → Has K a a.0 K
low_in K a k p = record { above = omega (arith, linear, mul_comm a.0 K); below = omega (arith, linear, mul_comm a.1 K, mul_le_left K a.0 a.1 (omega (arith, linear)) p.order) }

pub high_in : (K : ℤ) (a : Pair) → pos 1 ≤ℤ K → IsPair a → Has K a a.1 K
high_in K a k p = record { above = omega (arith, linear, mul_comm a.0 K, mul_le_left K a.0 a.1 (omega (arith, linear)) p.order); below = omega (arith, linear, mul_comm a.1 K) }

-- what such a point says of the ends of an interval that has it
pub low_of : (K : ℤ) (t : Pair) (z : ℤ) → pos 1 ≤ℤ K → Has K t z K → t.0 ≤ℤ z
low_of K t z k h = le_of_mul_left K t.0 z (omega (arith, linear)) (omega (arith, linear, mul_comm t.0 K, h.above))

pub high_of : (K : ℤ) (t : Pair) (z : ℤ) → pos 1 ≤ℤ K → Has K t z K → z ≤ℤ t.1
high_of K t z k h = le_of_mul_left K z t.1 (omega (arith, linear)) (omega (arith, linear, mul_comm t.1 K, h.below))

sums_in : (K : ℤ) (a b r : Pair) → r.0 ≡ a.0 +ℤ b.0 → r.1 ≡ a.1 +ℤ b.1 → EnclosesSums K a b r
sums_in K a b r low high n m d p x y =
    let l = ap (λ (z : ℤ). z *ℤ d) low in
    let h = ap (λ (z : ℤ). z *ℤ d) high in
    record { above = omega (arith, linear, l, add_mul a.0 b.0 d, mul_add K n m); below = omega (arith, linear, h, add_mul a.1 b.1 d, mul_add K n m) }

pub is_sum : (K : ℤ) (a b r : Pair) → pos 1 ≤ℤ K → IsPair a → IsPair b → r.0 ≡ a.0 +ℤ b.0 → r.1 ≡ a.1 +ℤ b.1 → IsPair r → IsSum K a b r
is_sum K a b r k p q low high s = record {
  encloses = sums_in K a b r low high;
  least = λ t e. record {
    low = omega (arith, linear, low, low_of K t (a.0 +ℤ b.0) k (e a.0 b.0 K k (low_in K a k p) (low_in K b k q)));
    high = omega (arith, linear, high, high_of K t (a.1 +ℤ b.1) k (e a.1 b.1 K k (high_in K a k p) (high_in K b k q)));
  };
  pair = s;
}

differences_in : (K : ℤ) (a b r : Pair) → r.0 ≡ a.0 -ℤ b.1 → r.1 ≡ a.1 -ℤ b.0 → EnclosesDifferences K a b r
differences_in K a b r low high n m d p x y =
    let l = ap (λ (z : ℤ). z *ℤ d) low in
    let h = ap (λ (z : ℤ). z *ℤ d) high in
    record { above = omega (arith, linear, l, x.above, y.below, sub_mul a.0 b.1 d, mul_sub K n m); below = omega (arith, linear, h, x.below, y.above, sub_mul a.1 b.0 d, mul_sub K n m) }

pub is_difference : (K : ℤ) (a b r : Pair) → pos 1 ≤ℤ K → IsPair a → IsPair b → r.0 ≡ a.0 -ℤ b.1 → r.1 ≡ a.1 -ℤ b.0 → IsPair r → IsDifference K a b r
is_difference K a b r k p q low high s = record {
  encloses = differences_in K a b r low high;
  least = λ t e. record {
    low = omega (arith, linear, low, low_of K t (a.0 -ℤ b.1) k (e a.0 b.1 K k (low_in K a k p) (high_in K b k q)));
    high = omega (arith, linear, high, high_of K t (a.1 -ℤ b.0) k (e a.1 b.0 K k (high_in K a k p) (low_in K b k q)));
  };
  pair = s;
}

pub is_negative : (K : ℤ) (a r : Pair) → pos 1 ≤ℤ K → IsPair a → r.0 ≡ neg_ℤ a.1 → r.1 ≡ neg_ℤ a.0 → IsPair r → IsNegative K a r
is_negative K a r k p low high s = record {
  encloses = λ n d i x.
      let l = ap (λ (z : ℤ). z *ℤ d) low in
      let h = ap (λ (z : ℤ). z *ℤ d) high in
      record { above = omega (arith, linear, l, neg_mul a.1 d, mul_neg K n, x.below); below = omega (arith, linear, h, neg_mul a.0 d, mul_neg K n, x.above) };
  least = λ t e. record {
    low = omega (arith, linear, low, low_of K t (neg_ℤ a.1) k (e a.1 K k (high_in K a k p)));
    high = omega (arith, linear, high, high_of K t (neg_ℤ a.0) k (e a.0 K k (low_in K a k p)));
  };
  pair = s;
}

-- ---- sizes
pub small_fits : (z : ℤ) → IsSmall z → FitsSigned w128 z
small_fits z h = omega (arith, linear, parts z)

pub sum_fits : (a b : ℤ) → IsSmall a → IsSmall b → FitsSigned w128 (a +ℤ b)
sum_fits a b p q = omega (arith, linear, parts, one_part (a +ℤ b))

pub difference_fits : (a b : ℤ) → IsSmall a → IsSmall b → FitsSigned w128 (a -ℤ b)
difference_fits a b p q = omega (arith, linear, parts, one_part (a -ℤ b))

pub negative_small : (a : ℤ) → IsSmall a → IsSmall (neg_ℤ a)
negative_small a p = omega (arith, linear, parts)

pub scale_positive : (K : ℤ) → (K ≡ pos 1) ⊎ (K ≡ pos 16) → pos 1 ≤ℤ K
scale_positive K (inl e) = omega (arith, linear)
scale_positive K (inr e) = omega (arith, linear)

-- ---- the code: ends a and b, and their sums as the code computes them
pub record SumFits (a b : Pair) : Type 0 where
  pub a_low : FitsSigned w128 a.0
  pub a_high : FitsSigned w128 a.1
  pub b_low : FitsSigned w128 b.0
  pub b_high : FitsSigned w128 b.1
  pub low : FitsSigned w128 (a.0 +ℤ b.0)
  pub high : FitsSigned w128 (a.1 +ℤ b.1)

pub sums_fit : (a b : Pair) → IsPair a → IsPair b → SumFits a b
sums_fit a b p q = record {
  a_low = small_fits a.0 p.low;
  a_high = small_fits a.1 p.high;
  b_low = small_fits b.0 q.low;
  b_high = small_fits b.1 q.high;
  low = sum_fits a.0 b.0 p.low q.low;
  high = sum_fits a.1 b.1 p.high q.high;
}

pub pair_of_sum : (a b : Pair) → IsPair a → IsPair b → IsSmall (a.0 +ℤ b.0) → IsSmall (a.1 +ℤ b.1) → IsPair (a.0 +ℤ b.0, a.1 +ℤ b.1)
pair_of_sum a b p q l h = record { order = omega (arith, linear, p.order, q.order); low = l; high = h }

pub record DifferenceFits (a b : Pair) : Type 0 where
  pub a_low : FitsSigned w128 a.0
  pub a_high : FitsSigned w128 a.1
  pub b_low : FitsSigned w128 b.0
  pub b_high : FitsSigned w128 b.1
  pub low : FitsSigned w128 (a.0 -ℤ b.1)
  pub high : FitsSigned w128 (a.1 -ℤ b.0)

pub differences_fit : (a b : Pair) → IsPair a → IsPair b → DifferenceFits a b
differences_fit a b p q = record {
  a_low = small_fits a.0 p.low;
  a_high = small_fits a.1 p.high;
  b_low = small_fits b.0 q.low;
  b_high = small_fits b.1 q.high;
  low = difference_fits a.0 b.1 p.low q.high;
  high = difference_fits a.1 b.0 p.high q.low;
}

pub pair_of_difference : (a b : Pair) → IsPair a → IsPair b → IsSmall (a.0 -ℤ b.1) → IsSmall (a.1 -ℤ b.0) → IsPair (a.0 -ℤ b.1, a.1 -ℤ b.0)
pair_of_difference a b p q l h = record { order = omega (arith, linear, p.order, q.order); low = l; high = h }

pub pair_of_negative : (a : Pair) → IsPair a → IsPair (pos 0 -ℤ a.1, pos 0 -ℤ a.0)
pair_of_negative a p = record { order = omega (arith, linear, p.order); low = omega (arith, linear, parts, p.high, one_part (pos 0 -ℤ a.1)); high = omega (arith, linear, parts, p.low, one_part (pos 0 -ℤ a.0)) }
