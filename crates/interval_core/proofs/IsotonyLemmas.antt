-- Smaller operands give a smaller or equal result.
use Rattle.std.proofs.Common.{arith, ℤ}
use Rattle.integer_laws.proofs.Ring.{linear, mul_le_right}
use Rattle.interval_core.specs.Enclosures.{Pair, IsInside, IsDenominator, Has}
use Rattle.interval_core.specs.Isotony.{AreIsotone}
use Rattle.interval_core.proofs.EnclosureLemmas.{low_in, high_in, low_of, high_of}

-- what lies in an interval lies in a larger one
in_larger : (K : ℤ) (a b : Pair) → IsInside a b → (n d : ℤ) → IsDenominator d → Has K a n d → Has K b n d
in_larger K a b s n d i h = record {
  above = let m = mul_le_right d b.0 a.0 (omega (arith, linear)) s.low in omega (arith, linear, m, h.above);
  below = let m = mul_le_right d a.1 b.1 (omega (arith, linear)) s.high in omega (arith, linear, m, h.below);
}

pub are_isotone : AreIsotone
are_isotone K k a a' r r' s = record {
  sum = λ b b' t x y. x.least r' (λ n m d i p q. y.encloses n m d i (in_larger K a a' s n d i p) (in_larger K b b' t m d i q));
  difference = λ b b' t x y. x.least r' (λ n m d i p q. y.encloses n m d i (in_larger K a a' s n d i p) (in_larger K b b' t m d i q));
  negative = λ x y. x.least r' (λ n d i p. y.encloses n d i (in_larger K a a' s n d i p));
  product = λ b b' t x y. x.least r' (λ n m d i p q. y.encloses n m d i (in_larger K a a' s n d i p) (in_larger K b b' t m d i q));
  meet = λ b b' t x y.
      let has : (n d : ℤ) → IsDenominator d → Has K r n d → Has K r' n d = λ n d i h. let w = (x.common n d i).0 h in (y.common n d i).1 (in_larger K a a' s n d i w.0, in_larger K b b' t n d i w.1) in
      record { low = low_of K r' r.0 k (has r.0 K k (low_in K r k x.pair)); high = high_of K r' r.1 k (has r.1 K k (high_in K r k x.pair)) };
  signed_square = λ lo hi lo' hi' den f x y. x.least r' (λ n m d i p q. y.encloses n m d i (in_larger K a a' s n d i p) (in_larger den (lo, hi) (lo', hi') f m d i q));
}
