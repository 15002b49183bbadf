-- What two intervals have in common.
use Rattle.std.proofs.Common.{◌≡◌, inl, inr, arith, ℤ, pos, ◌*ℤ◌, ◌≤ℤ◌, ◌<ℤ◌}
use Rattle.std.specs.Int.{int_min, int_max}
use Rattle.integer_laws.proofs.Ring.{linear, mul_le_right, mul_lt_right}
use Rattle.interval_core.specs.Enclosures.{Pair, IsPair, IsDenominator, Has, HaveCommon, IsMeet}
use Rattle.interval_core.proofs.EnclosureLemmas.{low_in}
use Rattle.interval_core.proofs.ProductLemmas.{IsLeastOfTwo, IsGreatestOfTwo, least_of_two, greatest_of_two}

-- the greater lower end and the lesser upper end
pub record Ends (a b r : Pair) : Type 0 where
  pub first : IsPair a
  pub second : IsPair b
  pub low : IsGreatestOfTwo r.0 a.0 b.0
  pub high : IsLeastOfTwo r.1 a.1 b.1

pub ends_of : (a b r : Pair) → IsPair a → IsPair b → r.0 ≡ int_max a.0 b.0 → r.1 ≡ int_min a.1 b.1 → Ends a b r
ends_of a b r p q e f = record { first = p; second = q; low = rw e (greatest_of_two a.0 b.0); high = rw f (least_of_two a.1 b.1) }

low_product : (d x y r z : ℤ) → IsGreatestOfTwo r x y → (x *ℤ d) ≤ℤ z → (y *ℤ d) ≤ℤ z → (r *ℤ d) ≤ℤ z
low_product d x y r z g p q = elim g.reached [ inl e ↦ rw e p | inr e ↦ rw e q ]

high_product : (d x y r z : ℤ) → IsLeastOfTwo r x y → z ≤ℤ (x *ℤ d) → z ≤ℤ (y *ℤ d) → z ≤ℤ (r *ℤ d)
high_product d x y r z g p q = elim g.reached [ inl e ↦ rw e p | inr e ↦ rw e q ]

both : (K : ℤ) (a b r : Pair) → Ends a b r → (n d : ℤ) → IsDenominator d → Has K r n d → Has K a n d × Has K b n d
both K a b r w n d i h =
    let p : pos 0 ≤ℤ d = omega (arith, linear) in
    let al = mul_le_right d a.0 r.0 p w.low.first in
    let bl = mul_le_right d b.0 r.0 p w.low.second in
    let ah = mul_le_right d r.1 a.1 p w.high.first in
    let bh = mul_le_right d r.1 b.1 p w.high.second in
    (record { above = omega (arith, linear, al, h.above); below = omega (arith, linear, ah, h.below) }, record { above = omega (arith, linear, bl, h.above); below = omega (arith, linear, bh, h.below) })

met : (K : ℤ) (a b r : Pair) → Ends a b r → (n d : ℤ) → Has K a n d × Has K b n d → Has K r n d
met K a b r w n d h = record { above = low_product d a.0 b.0 r.0 (K *ℤ n) w.low h.0.above h.1.above; below = high_product d a.1 b.1 r.1 (K *ℤ n) w.high h.0.below h.1.below }

pub ends_pair : (a b r : Pair) → Ends a b r → r.0 ≤ℤ r.1 → IsPair r
ends_pair a b r w h = record {
  order = h;
  low = elim w.low.reached [ inl e ↦ rw e w.first.low | inr e ↦ rw e w.second.low ];
  high = elim w.high.reached [ inl e ↦ rw e w.first.high | inr e ↦ rw e w.second.high ];
}

pub is_meet : (K : ℤ) (a b r : Pair) → Ends a b r → r.0 ≤ℤ r.1 → IsMeet K a b r
is_meet K a b r w h = record { common = λ n d i. (both K a b r w n d i, met K a b r w n d); pair = ends_pair a b r w h }

pub is_common : (K : ℤ) (a b r : Pair) → pos 1 ≤ℤ K → Ends a b r → r.0 ≤ℤ r.1 → HaveCommon K a b
is_common K a b r k w h =
    let p = both K a b r w r.0 K k (low_in K r k (ends_pair a b r w h)) in
    record { num = r.0; den = K; positive = k; first = p.0; second = p.1 }

pub no_common : (K : ℤ) (a b r : Pair) → Ends a b r → r.1 <ℤ r.0 → HaveCommon K a b → ⊥
no_common K a b r w h c =
    let p = met K a b r w c.num c.den (c.first, c.second) in
    let m = mul_lt_right c.den r.1 r.0 (omega (arith, linear, c.positive)) h in
    omega (arith, linear, m, p.above, p.below)
