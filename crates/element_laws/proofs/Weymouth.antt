-- The interval form of the resistance law is the Weymouth law for some resistance of the interval.
use Rattle.std.proofs.Common.{◌≡◌, inl, inr, refl, sym, ap, ◌∙◌, arith, zero, suc, ℤ, pos, negsuc, ◌-ℤ◌, ◌*ℤ◌, neg_ℤ, ◌≤ℤ◌, ◌<ℤ◌, IsTrue}
use Rattle.integer_laws.proofs.Ring.{linear, mul_comm, mul_assoc, mul_neg, neg_mul, mul_pos, mul_le_right, le_of_mul_left, square_nonneg, mul_zero, zero_mul, one_mul, le_or_lt}
use Rattle.integer_laws.proofs.SignedSquares.{signed_forward, signed_back}
use Rattle.gas_model.specs.declared.law_forms.PipeLaw.{PipeLaw}
use Rattle.gas_model.specs.Curves.{square, drop_low, drop_high, meets_resistance}
use Rattle.element_laws.specs.Weymouth.{IsResistance, HasResistance, MetHasResistance, ResistanceMeets}
use Rattle.gas_model.proofs.CurveFacts.{curve_forward, curve_back}

-- both sides of the interval
pub record Interval (law : PipeLaw) (d q u v : ℤ) : Type 0 where
  pub low : drop_low law.drag q ≤ℤ (law.drag.den *ℤ d *ℤ (u -ℤ v))
  pub high : (law.drag.den *ℤ d *ℤ (u -ℤ v)) ≤ℤ drop_high law.drag q

interval_says : (law : PipeLaw) (d q u v : ℤ) → IsTrue (meets_resistance law d q u v) → Interval law d q u v
interval_says law d q u v t =
    let a : drop_low law.drag q ≤ℤ (law.drag.den *ℤ d *ℤ (u -ℤ v)) = grind (arith, linear) in
    let b : (law.drag.den *ℤ d *ℤ (u -ℤ v)) ≤ℤ drop_high law.drag q = grind (arith, linear) in
    record { low = a; high = b }

interval_from : (law : PipeLaw) (d q u v : ℤ) → Interval law d q u v → IsTrue (meets_resistance law d q u v)
interval_from law d q u v i = grind (arith, linear, i.low, i.high)

-- ---- from a resistance to the interval
-- the law times m
scaled : (den d w m n s : ℤ) → w *ℤ m *ℤ d ≡ n *ℤ s → m *ℤ (den *ℤ d *ℤ w) ≡ n *ℤ den *ℤ s
scaled den d w m n s e = let f = ap (λ (x : ℤ). den *ℤ x) e in grind (arith, mul_assoc, mul_comm)

moved : (m f s : ℤ) → m *ℤ (f *ℤ s) ≡ f *ℤ m *ℤ s
moved m f s = grind (arith, mul_assoc, mul_comm)

forward : (law : PipeLaw) (d q u v n m : ℤ) → pos 0 ≤ℤ q → IsResistance law d q u v n m → Interval law d q u v
forward law d q u v n m h r =
    let s = scaled law.drag.den d (u -ℤ v) m n (square q) (r.drop ∙ ap (λ (x : ℤ). n *ℤ x) (signed_forward q h)) in
    let a = mul_le_right (square q) (law.drag.lo *ℤ m) (n *ℤ law.drag.den) (square_nonneg q) r.least in
    let b = mul_le_right (square q) (n *ℤ law.drag.den) (law.drag.hi *ℤ m) (square_nonneg q) r.most in
    record {
      low = le_of_mul_left m (drop_low law.drag q) (law.drag.den *ℤ d *ℤ (u -ℤ v)) (omega (arith, linear, r.positive)) (rw (curve_forward law.drag.lo law.drag.hi q h, s) (omega (arith, linear, a, moved m law.drag.lo (square q))));
      high = le_of_mul_left m (law.drag.den *ℤ d *ℤ (u -ℤ v)) (drop_high law.drag q) (omega (arith, linear, r.positive)) (rw (curve_forward law.drag.hi law.drag.lo q h, s) (omega (arith, linear, b, moved m law.drag.hi (square q))));
    }

back : (law : PipeLaw) (d q u v n m : ℤ) → q <ℤ pos 0 → IsResistance law d q u v n m → Interval law d q u v
back law d q u v n m h r =
    let s = scaled law.drag.den d (u -ℤ v) m n (neg_ℤ (square q)) (r.drop ∙ ap (λ (x : ℤ). n *ℤ x) (signed_back q (omega (arith, linear, h)))) in
    let a = mul_le_right (square q) (law.drag.lo *ℤ m) (n *ℤ law.drag.den) (square_nonneg q) r.least in
    let b = mul_le_right (square q) (n *ℤ law.drag.den) (law.drag.hi *ℤ m) (square_nonneg q) r.most in
    let turned = mul_neg (n *ℤ law.drag.den) (square q) in
    record {
      low = le_of_mul_left m (drop_low law.drag q) (law.drag.den *ℤ d *ℤ (u -ℤ v)) (omega (arith, linear, r.positive)) (rw (curve_back law.drag.lo law.drag.hi q h, s) (omega (arith, linear, b, moved m law.drag.hi (square q), mul_neg m (law.drag.hi *ℤ square q), turned)));
      high = le_of_mul_left m (law.drag.den *ℤ d *ℤ (u -ℤ v)) (drop_high law.drag q) (omega (arith, linear, r.positive)) (rw (curve_back law.drag.hi law.drag.lo q h, s) (omega (arith, linear, a, moved m law.drag.lo (square q), mul_neg m (law.drag.lo *ℤ square q), turned)));
    }

pub resistance_meets : ResistanceMeets
resistance_meets law d q u v (n, m, r) =
    interval_from law d q u v (elim (le_or_lt (pos 0) q) [ inl h ↦ forward law d q u v n m h r | inr h ↦ back law d q u v n m h r ])

-- ---- from the interval to a resistance
turned : (den d w : ℤ) → w *ℤ d *ℤ den ≡ den *ℤ d *ℤ w
turned den d w = grind (arith, mul_assoc, mul_comm)

swapped : (w s d : ℤ) → w *ℤ s *ℤ d ≡ w *ℤ d *ℤ s
swapped w s d = grind (arith, mul_assoc, mul_comm)

turned_twice : (a b : ℤ) → a *ℤ b ≡ neg_ℤ a *ℤ neg_ℤ b
turned_twice a b = omega (arith, linear, neg_mul a (neg_ℤ b), mul_neg a b)

-- without flow both squares are the same, so any resistance does
resistance_at : (law : PipeLaw) (d q u v : ℤ) → law.drag.lo ≤ℤ law.drag.hi → pos 1 ≤ℤ law.drag.den → pos 1 ≤ℤ d → Interval law d q u v → HasResistance law d q u v
resistance_at law d (pos zero) u v ordered p r i =
    let k : pos 0 <ℤ (law.drag.den *ℤ d) = mul_pos law.drag.den d (omega (arith, linear)) (omega (arith, linear)) in
    let flat : law.drag.den *ℤ d *ℤ (u -ℤ v) ≡ pos 0 = omega (arith, linear, i.low, i.high, mul_zero law.drag.lo, mul_zero law.drag.hi) in
    let a : (u -ℤ v) ≤ℤ pos 0 = le_of_mul_left (law.drag.den *ℤ d) (u -ℤ v) (pos 0) k (omega (arith, linear, flat, mul_zero (law.drag.den *ℤ d))) in
    let b : pos 0 ≤ℤ (u -ℤ v) = le_of_mul_left (law.drag.den *ℤ d) (pos 0) (u -ℤ v) k (omega (arith, linear, flat, mul_zero (law.drag.den *ℤ d))) in
    let same : u -ℤ v ≡ pos 0 = omega (arith, linear, a, b) in (
      law.drag.lo,
      law.drag.den,
      record {
        positive = p;
        least = omega (arith, linear);
        most = mul_le_right law.drag.den law.drag.lo law.drag.hi (omega (arith, linear)) ordered;
        drop = rw same (simp (zero_mul, mul_zero) refl);
      },
    )
resistance_at law d (pos (suc k)) u v ordered p r i =
    let q = pos (suc k) in
    let forward : pos 0 ≤ℤ q = omega (arith, linear) in (
      (u -ℤ v) *ℤ d,
      square q,
      record {
        positive = omega (arith, linear, mul_pos q q (omega (arith, linear)) (omega (arith, linear)));
        least = omega (arith, linear, i.low, curve_forward law.drag.lo law.drag.hi q forward, turned law.drag.den d (u -ℤ v));
        most = omega (arith, linear, i.high, curve_forward law.drag.hi law.drag.lo q forward, turned law.drag.den d (u -ℤ v));
        drop = swapped (u -ℤ v) (square q) d ∙ ap (λ (x : ℤ). (u -ℤ v) *ℤ d *ℤ x) (sym (signed_forward q forward));
      },
    )
resistance_at law d (negsuc k) u v ordered p r i =
    let q = negsuc k in
    let back : q <ℤ pos 0 = omega (arith, linear) in (
      neg_ℤ ((u -ℤ v) *ℤ d),
      square q,
      record {
        positive = omega (arith, linear, mul_pos (neg_ℤ q) (neg_ℤ q) (omega (arith, linear)) (omega (arith, linear)));
        least = omega (arith, linear, i.high, curve_back law.drag.hi law.drag.lo q back, turned law.drag.den d (u -ℤ v), neg_mul ((u -ℤ v) *ℤ d) law.drag.den);
        most = omega (arith, linear, i.low, curve_back law.drag.lo law.drag.hi q back, turned law.drag.den d (u -ℤ v), neg_mul ((u -ℤ v) *ℤ d) law.drag.den);
        drop = swapped (u -ℤ v) (square q) d ∙ turned_twice ((u -ℤ v) *ℤ d) (square q) ∙ ap (λ (x : ℤ). neg_ℤ ((u -ℤ v) *ℤ d) *ℤ x) (sym (signed_back q (omega (arith, linear, back))));
      },
    )

pub met_has_resistance : MetHasResistance
met_has_resistance law d q u v ordered p r t = resistance_at law d q u v ordered p r (interval_says law d q u v t)
