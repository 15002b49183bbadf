-- Signed squares in order, and the ends of their products with a range of factors.
use Rattle.std.proofs.Common.{◌≡◌, zero, suc, inl, inr, refl, sym, ap, ◌∙◌, subst, arith, ℤ, pos, negsuc, ◌+ℤ◌, ◌*ℤ◌, ◌≤ℤ◌, ◌<ℤ◌, neg_ℤ}
use Rattle.std.proofs.lemmas.Int.{ints}
use Rattle.integer_laws.proofs.Ring.{linear, add_mul, mul_comm, mul_assoc, mul_left_comm, mul_le_left, mul_le_right, le_of_mul_left, le_or_lt, mul_mul_comm, square_nonneg, square_le, mul_neg, neg_mul, mul_nonneg, mul_pos, mul_zero, one_mul}
use Rattle.integer_laws.specs.Products.{signed_square}
use Rattle.integer_laws.proofs.SignedSquares.{signed_forward, signed_back}
use Rattle.gas_units.specs.Rounds.{IsFloor, IsCeiling}
use Rattle.interval_core.specs.Enclosures.{Pair, IsPair, IsSmall, Has, IsInside}
use Rattle.interval_core.specs.Squares.{IsFactorRange, HaveSmallSquares, EnclosesSignedSquares, IsSignedSquare, IsLowest, IsHighest}
use Rattle.interval_core.proofs.EnclosureLemmas.{parts, one_part}
use Rattle.interval_core.proofs.ProductLemmas.{floor_small, ceiling_small}

-- ---- signed squares
turned : (a : ℤ) → neg_ℤ a *ℤ neg_ℤ a ≡ a *ℤ a
turned a = omega (arith, linear, neg_mul a (neg_ℤ a), mul_neg a a)

signed_up : (z : ℤ) → pos 0 ≤ℤ z → pos 0 ≤ℤ signed_square z
signed_up z h = omega (arith, linear, signed_forward z h, square_nonneg z)

signed_down : (z : ℤ) → z ≤ℤ pos 0 → signed_square z ≤ℤ pos 0
signed_down z h = omega (arith, linear, signed_back z h, square_nonneg z)

pub ascends : (a b : ℤ) → a ≤ℤ b → signed_square a ≤ℤ signed_square b
ascends a b h =
    elim (le_or_lt (pos 0) a) [
      | inl up ↦ let high : pos 0 ≤ℤ b = omega (arith, linear) in omega (arith, linear, signed_forward a up, signed_forward b high, square_le a b up h)
      | inr back ↦
          let low : a ≤ℤ pos 0 = omega (arith, linear) in
          elim (le_or_lt (pos 0) b) [
            | inl up ↦ omega (arith, linear, signed_down a low, signed_up b up)
            | inr more ↦
                let under : b ≤ℤ pos 0 = omega (arith, linear) in
                let m = square_le (neg_ℤ b) (neg_ℤ a) (omega (arith, linear)) (omega (arith, linear)) in
                omega (arith, linear, signed_back a low, signed_back b under, m, turned a, turned b)
          ]
    ]

pub scaled : (k z : ℤ) → pos 0 ≤ℤ k → signed_square (k *ℤ z) ≡ (k *ℤ k) *ℤ signed_square z
scaled k z h =
    elim (le_or_lt (pos 0) z) [
      | inl up ↦ signed_forward (k *ℤ z) (mul_nonneg k z h up) ∙ mul_mul_comm k z k z ∙ ap (λ (x : ℤ). (k *ℤ k) *ℤ x) (sym (signed_forward z up))
      | inr back ↦
          let low : z ≤ℤ pos 0 = omega (arith, linear) in
          let m = mul_le_left k z (pos 0) h low in
          signed_back (k *ℤ z) (omega (arith, linear, m, mul_zero k)) ∙ ap neg_ℤ (mul_mul_comm k z k z) ∙ sym (mul_neg (k *ℤ k) (z *ℤ z)) ∙ ap (λ (x : ℤ). (k *ℤ k) *ℤ x) (sym (signed_back z low))
    ]

-- a factor that isn't positive turns the order
turns : (k a b : ℤ) → k ≤ℤ pos 0 → a ≤ℤ b → (b *ℤ k) ≤ℤ (a *ℤ k)
turns k a b h p = let m = mul_le_right (neg_ℤ k) a b (omega (arith, linear)) p in omega (arith, linear, mul_neg a k, mul_neg b k)

-- ---- over the denominator d
cube : (k s d : ℤ) → (k *ℤ s) *ℤ ((d *ℤ d) *ℤ d) ≡ (k *ℤ d) *ℤ ((d *ℤ d) *ℤ s)
cube k s d = ap (λ (x : ℤ). (k *ℤ s) *ℤ x) (mul_comm (d *ℤ d) d) ∙ mul_mul_comm k s d (d *ℤ d) ∙ ap (λ (x : ℤ). (k *ℤ d) *ℤ x) (mul_comm s (d *ℤ d))

at_denominator : (c k x d : ℤ) → pos 1 ≤ℤ d → c ≡ k *ℤ signed_square x → c *ℤ ((d *ℤ d) *ℤ d) ≡ (k *ℤ d) *ℤ signed_square (d *ℤ x)
at_denominator c k x d i e = ap (λ (y : ℤ). y *ℤ ((d *ℤ d) *ℤ d)) e ∙ cube k (signed_square x) d ∙ ap (λ (y : ℤ). (k *ℤ d) *ℤ y) (sym (scaled d x (omega (arith, linear))))

cube_positive : (d : ℤ) → pos 1 ≤ℤ d → pos 0 <ℤ ((d *ℤ d) *ℤ d)
cube_positive d i = let p : pos 0 <ℤ d = omega (arith, linear) in mul_pos (d *ℤ d) d (mul_pos d d p p) p

factor_up : (lo hi den m d : ℤ) → pos 1 ≤ℤ d → pos 1 ≤ℤ lo → Has den (lo, hi) m d → pos 0 ≤ℤ (den *ℤ m)
factor_up lo hi den m d i j f = let p = mul_nonneg lo d (omega (arith, linear)) (omega (arith, linear)) in omega (arith, linear, p, f.above)

low_holds : (K den lo hi x n m d c : ℤ) → pos 1 ≤ℤ d → pos 1 ≤ℤ lo → (x *ℤ d) ≤ℤ (K *ℤ n) → Has den (lo, hi) m d → IsLowest lo hi x c → (c *ℤ ((d *ℤ d) *ℤ d)) ≤ℤ ((den *ℤ m) *ℤ signed_square (K *ℤ n))
low_holds K den lo hi x n m d c i j p f w =
    let rise = mul_le_left (den *ℤ m) (signed_square (d *ℤ x)) (signed_square (K *ℤ n)) (factor_up lo hi den m d i j f) (ascends (d *ℤ x) (K *ℤ n) (omega (arith, linear, mul_comm d x))) in
    elim (le_or_lt (pos 0) x) [
      | inl up ↦
          let first = mul_le_right (signed_square (d *ℤ x)) (lo *ℤ d) (den *ℤ m) (signed_up (d *ℤ x) (mul_nonneg d x (omega (arith, linear)) up)) f.above in
          omega (arith, linear, at_denominator c lo x d i (w.forward up), first, rise)
      | inr back ↦
          let under = mul_le_left d x (pos 0) (omega (arith, linear)) (omega (arith, linear)) in
          let first = turns (signed_square (d *ℤ x)) (den *ℤ m) (hi *ℤ d) (signed_down (d *ℤ x) (omega (arith, linear, under, mul_zero d))) f.below in
          omega (arith, linear, at_denominator c hi x d i (w.backward back), first, rise)
    ]

high_holds : (K den lo hi x n m d c : ℤ) → pos 1 ≤ℤ d → pos 1 ≤ℤ lo → (K *ℤ n) ≤ℤ (x *ℤ d) → Has den (lo, hi) m d → IsHighest lo hi x c → ((den *ℤ m) *ℤ signed_square (K *ℤ n)) ≤ℤ (c *ℤ ((d *ℤ d) *ℤ d))
high_holds K den lo hi x n m d c i j p f w =
    let rise = mul_le_left (den *ℤ m) (signed_square (K *ℤ n)) (signed_square (d *ℤ x)) (factor_up lo hi den m d i j f) (ascends (K *ℤ n) (d *ℤ x) (omega (arith, linear, mul_comm d x))) in
    elim (le_or_lt (pos 0) x) [
      | inl up ↦
          let last = mul_le_right (signed_square (d *ℤ x)) (den *ℤ m) (hi *ℤ d) (signed_up (d *ℤ x) (mul_nonneg d x (omega (arith, linear)) up)) f.below in
          omega (arith, linear, at_denominator c hi x d i (w.forward up), last, rise)
      | inr back ↦
          let under = mul_le_left d x (pos 0) (omega (arith, linear)) (omega (arith, linear)) in
          let last = turns (signed_square (d *ℤ x)) (lo *ℤ d) (den *ℤ m) (signed_down (d *ℤ x) (omega (arith, linear, under, mul_zero d))) f.above in
          omega (arith, linear, at_denominator c lo x d i (w.backward back), last, rise)
    ]

-- ---- the ends enclose
regroup : (K den m n : ℤ) → pos 1 ≤ℤ K → (den *ℤ m) *ℤ signed_square (K *ℤ n) ≡ (den *ℤ K) *ℤ (K *ℤ (m *ℤ signed_square n))
regroup K den m n k =
    let s = signed_square n in
    ap (λ (y : ℤ). (den *ℤ m) *ℤ y) (scaled K n (omega (arith, linear)) ∙ mul_assoc K K s) ∙ mul_mul_comm den m K (K *ℤ s) ∙ ap (λ (y : ℤ). (den *ℤ K) *ℤ y) (mul_left_comm m K s)

low_encloses : (K den lo hi x n m d c l : ℤ) → pos 1 ≤ℤ K → pos 1 ≤ℤ den → pos 1 ≤ℤ d → pos 1 ≤ℤ lo → (x *ℤ d) ≤ℤ (K *ℤ n) → Has den (lo, hi) m d → IsLowest lo hi x c → (l *ℤ (den *ℤ K)) ≤ℤ c → (l *ℤ ((d *ℤ d) *ℤ d)) ≤ℤ (K *ℤ (m *ℤ signed_square n))
low_encloses K den lo hi x n m d c l k e i j p f w g =
    let z : ℤ = (d *ℤ d) *ℤ d in
    let a = mul_le_right z (l *ℤ (den *ℤ K)) c (let q = cube_positive d i in omega (arith, linear)) g in
    let b = low_holds K den lo hi x n m d c i j p f w in
    let t : (l *ℤ (den *ℤ K)) *ℤ z ≡ (den *ℤ K) *ℤ (l *ℤ z) = ap (λ (y : ℤ). y *ℤ z) (mul_comm l (den *ℤ K)) ∙ mul_assoc (den *ℤ K) l z in
    le_of_mul_left (den *ℤ K) (l *ℤ z) (K *ℤ (m *ℤ signed_square n)) (mul_pos den K (omega (arith, linear)) (omega (arith, linear))) (omega (arith, linear, a, b, t, regroup K den m n k))

high_encloses : (K den lo hi x n m d c l : ℤ) → pos 1 ≤ℤ K → pos 1 ≤ℤ den → pos 1 ≤ℤ d → pos 1 ≤ℤ lo → (K *ℤ n) ≤ℤ (x *ℤ d) → Has den (lo, hi) m d → IsHighest lo hi x c → c ≤ℤ (l *ℤ (den *ℤ K)) → (K *ℤ (m *ℤ signed_square n)) ≤ℤ (l *ℤ ((d *ℤ d) *ℤ d))
high_encloses K den lo hi x n m d c l k e i j p f w g =
    let z : ℤ = (d *ℤ d) *ℤ d in
    let a = mul_le_right z c (l *ℤ (den *ℤ K)) (let q = cube_positive d i in omega (arith, linear)) g in
    let b = high_holds K den lo hi x n m d c i j p f w in
    let t : (l *ℤ (den *ℤ K)) *ℤ z ≡ (den *ℤ K) *ℤ (l *ℤ z) = ap (λ (y : ℤ). y *ℤ z) (mul_comm l (den *ℤ K)) ∙ mul_assoc (den *ℤ K) l z in
    le_of_mul_left (den *ℤ K) (K *ℤ (m *ℤ signed_square n)) (l *ℤ z) (mul_pos den K (omega (arith, linear)) (omega (arith, linear))) (omega (arith, linear, a, b, t, regroup K den m n k))

-- ---- the ends are reached, over the denominator S * u
point_in : (S : ℤ) (p : Pair) (x u d : ℤ) → pos 0 ≤ℤ S → pos 0 ≤ℤ u → p.0 ≤ℤ x → x ≤ℤ p.1 → d ≡ S *ℤ u → Has S p (x *ℤ u) d
point_in S p x u d s v a b e = record {
  above = omega (arith, linear, ap (λ (y : ℤ). p.0 *ℤ y) e, mul_left_comm p.0 S u, mul_le_left S (p.0 *ℤ u) (x *ℤ u) s (mul_le_right u p.0 x v a));
  below = omega (arith, linear, ap (λ (y : ℤ). p.1 *ℤ y) e, mul_left_comm p.1 S u, mul_le_left S (x *ℤ u) (p.1 *ℤ u) s (mul_le_right u x p.1 v b));
}

value_there : (K den k x : ℤ) → pos 1 ≤ℤ den → K *ℤ ((k *ℤ K) *ℤ signed_square (x *ℤ den)) ≡ ((K *ℤ den) *ℤ (K *ℤ den)) *ℤ (k *ℤ signed_square x)
value_there K den k x e =
    let s = signed_square x in
    let q : ℤ = den *ℤ den in
    let square : signed_square (x *ℤ den) ≡ q *ℤ s = ap signed_square (mul_comm x den) ∙ scaled den x (omega (arith, linear)) in
    let inner : (k *ℤ K) *ℤ (q *ℤ s) ≡ K *ℤ (q *ℤ (k *ℤ s)) = ap (λ (y : ℤ). y *ℤ (q *ℤ s)) (mul_comm k K) ∙ mul_assoc K k (q *ℤ s) ∙ ap (λ (y : ℤ). K *ℤ y) (mul_left_comm k q s) in
    ap (λ (y : ℤ). K *ℤ ((k *ℤ K) *ℤ y)) square ∙ ap (λ (y : ℤ). K *ℤ y) inner ∙ sym (mul_assoc K K (q *ℤ (k *ℤ s))) ∙ sym (mul_assoc (K *ℤ K) q (k *ℤ s)) ∙ ap (λ (y : ℤ). y *ℤ (k *ℤ s)) (sym (mul_mul_comm K den K den))

low_reached : (K den k x c l : ℤ) (t : Pair) → pos 1 ≤ℤ K → pos 1 ≤ℤ den → c ≡ k *ℤ signed_square x → IsFloor c (den *ℤ K) l → Has K t ((k *ℤ K) *ℤ signed_square (x *ℤ den)) (((K *ℤ den) *ℤ (K *ℤ den)) *ℤ (K *ℤ den)) → t.0 ≤ℤ l
low_reached K den k x c l t p e w f h =
    let u : ℤ = K *ℤ den in
    let up : pos 0 <ℤ u = mul_pos K den (omega (arith, linear)) (omega (arith, linear)) in
    let a = le_of_mul_left (u *ℤ u) (t.0 *ℤ u) c (mul_pos u u up up) (omega (arith, linear, h.above, value_there K den k x e, mul_left_comm t.0 (u *ℤ u) u, ap (λ (y : ℤ). (u *ℤ u) *ℤ y) w)) in
    let turn : l *ℤ (den *ℤ K) ≡ l *ℤ u = ap (λ (y : ℤ). l *ℤ y) (mul_comm den K) in
    elim (le_or_lt t.0 l) [
      | inl fine ↦ fine
      | inr more ↦
          let s = mul_le_right u (l +ℤ pos 1) t.0 (omega (arith, linear)) (omega (arith, linear)) in
          absurd (omega (arith, linear, s, a, f.greatest, turn, mul_comm den K, add_mul l (pos 1) u, one_mul u))
    ]

high_reached : (K den k x c l : ℤ) (t : Pair) → pos 1 ≤ℤ K → pos 1 ≤ℤ den → c ≡ k *ℤ signed_square x → IsCeiling c (den *ℤ K) l → Has K t ((k *ℤ K) *ℤ signed_square (x *ℤ den)) (((K *ℤ den) *ℤ (K *ℤ den)) *ℤ (K *ℤ den)) → l ≤ℤ t.1
high_reached K den k x c l t p e w f h =
    let u : ℤ = K *ℤ den in
    let up : pos 0 <ℤ u = mul_pos K den (omega (arith, linear)) (omega (arith, linear)) in
    let a = le_of_mul_left (u *ℤ u) c (t.1 *ℤ u) (mul_pos u u up up) (omega (arith, linear, h.below, value_there K den k x e, mul_left_comm t.1 (u *ℤ u) u, ap (λ (y : ℤ). (u *ℤ u) *ℤ y) w)) in
    let turn : l *ℤ (den *ℤ K) ≡ l *ℤ u = ap (λ (y : ℤ). l *ℤ y) (mul_comm den K) in
    elim (le_or_lt l t.1) [
      | inl fine ↦ fine
      | inr more ↦
          let s = mul_le_right u (t.1 +ℤ pos 1) l (omega (arith, linear)) (omega (arith, linear)) in
          absurd (omega (arith, linear, s, a, f.least, turn, mul_comm den K, add_mul t.1 (pos 1) u, one_mul u))
    ]

-- ---- sizes
pub square_small : (lo hi x : ℤ) → pos 1 ≤ℤ lo → lo ≤ℤ hi → IsSmall (hi *ℤ (x *ℤ x)) → IsSmall (lo *ℤ (x *ℤ x))
square_small lo hi x i j s =
    let n = square_nonneg x in
    let a = mul_le_right (x *ℤ x) lo hi n j in
    let b = mul_nonneg lo (x *ℤ x) (omega (arith, linear)) n in
    omega (arith, linear, a, b, parts, one_part (lo *ℤ (x *ℤ x)), one_part (hi *ℤ (x *ℤ x)))

factor_small : (k x c : ℤ) → c ≡ k *ℤ signed_square x → IsSmall (k *ℤ (x *ℤ x)) → IsSmall c
factor_small k x c e s =
    elim (le_or_lt (pos 0) x) [
      | inl up ↦ subst IsSmall (sym (e ∙ ap (λ (y : ℤ). k *ℤ y) (signed_forward x up))) s
      | inr back ↦
          let t : c ≡ neg_ℤ (k *ℤ (x *ℤ x)) = e ∙ ap (λ (y : ℤ). k *ℤ y) (signed_back x (omega (arith, linear))) ∙ mul_neg k (x *ℤ x) in
          omega (arith, linear, t, parts, one_part c, one_part (k *ℤ (x *ℤ x)))
    ]

lowest_small : (lo hi x c : ℤ) → pos 1 ≤ℤ lo → lo ≤ℤ hi → IsSmall (hi *ℤ (x *ℤ x)) → IsLowest lo hi x c → IsSmall c
lowest_small lo hi x c i j s w =
    elim (le_or_lt (pos 0) x) [
      | inl up ↦ factor_small lo x c (w.forward up) (square_small lo hi x i j s)
      | inr back ↦ factor_small hi x c (w.backward back) s
    ]

highest_small : (lo hi x c : ℤ) → pos 1 ≤ℤ lo → lo ≤ℤ hi → IsSmall (hi *ℤ (x *ℤ x)) → IsHighest lo hi x c → IsSmall c
highest_small lo hi x c i j s w =
    elim (le_or_lt (pos 0) x) [
      | inl up ↦ factor_small hi x c (w.forward up) s
      | inr back ↦ factor_small lo x c (w.backward back) (square_small lo hi x i j s)
    ]

-- ---- the whole
pub record Ends (K lo hi den : ℤ) (a r : Pair) (least greatest : ℤ) : Type 0 where
  pub scale : pos 1 ≤ℤ K
  pub operand : IsPair a
  pub range : IsFactorRange lo hi den
  pub small : HaveSmallSquares hi a
  pub lowest : IsLowest lo hi a.0 least
  pub highest : IsHighest lo hi a.1 greatest
  pub floor : IsFloor least (den *ℤ K) r.0
  pub ceiling : IsCeiling greatest (den *ℤ K) r.1

all_enclosed : (K lo hi den : ℤ) (a r : Pair) (c e : ℤ) → Ends K lo hi den a r c e → EnclosesSignedSquares K lo hi den a r
all_enclosed K lo hi den a r c e w n m d i x f = record {
  above = low_encloses K den lo hi a.0 n m d c r.0 w.scale w.range.den_positive i w.range.positive x.above f w.lowest w.floor.at_most;
  below = high_encloses K den lo hi a.1 n m d e r.1 w.scale w.range.den_positive i w.range.positive x.below f w.highest w.ceiling.at_least;
}

-- what an enclosing interval has at an end x of the operand and a factor k
shown : (K lo hi den : ℤ) (a r : Pair) (c e : ℤ) → Ends K lo hi den a r c e → (t : Pair) → EnclosesSignedSquares K lo hi den a t → (k x : ℤ) → lo ≤ℤ k → k ≤ℤ hi → a.0 ≤ℤ x → x ≤ℤ a.1 → Has K t ((k *ℤ K) *ℤ signed_square (x *ℤ den)) (((K *ℤ den) *ℤ (K *ℤ den)) *ℤ (K *ℤ den))
shown K lo hi den a r c e w t h k x p q y z =
    let s : pos 0 ≤ℤ K = omega (arith, linear, w.scale) in
    let u : pos 0 ≤ℤ den = omega (arith, linear, w.range.den_positive) in
    let i = mul_pos K den (omega (arith, linear, w.scale)) (omega (arith, linear, w.range.den_positive)) in
    h (x *ℤ den) (k *ℤ K) (K *ℤ den) (omega (arith, linear)) (point_in K a x den (K *ℤ den) s u y z refl) (point_in den (lo, hi) k K (K *ℤ den) u s p q (mul_comm K den))

least_enclosed : (K lo hi den : ℤ) (a r : Pair) (c e : ℤ) → Ends K lo hi den a r c e → (t : Pair) → EnclosesSignedSquares K lo hi den a t → IsInside r t
least_enclosed K lo hi den a r c e w t h = record {
  low = elim (le_or_lt (pos 0) a.0) [
    | inl up ↦ low_reached K den lo a.0 c r.0 t w.scale w.range.den_positive (w.lowest.forward up) w.floor (shown K lo hi den a r c e w t h lo a.0 (omega (arith, linear)) w.range.order (omega (arith, linear)) w.operand.order)
    | inr back ↦ low_reached K den hi a.0 c r.0 t w.scale w.range.den_positive (w.lowest.backward back) w.floor (shown K lo hi den a r c e w t h hi a.0 w.range.order (omega (arith, linear)) (omega (arith, linear)) w.operand.order)
  ];
  high = elim (le_or_lt (pos 0) a.1) [
    | inl up ↦ high_reached K den hi a.1 e r.1 t w.scale w.range.den_positive (w.highest.forward up) w.ceiling (shown K lo hi den a r c e w t h hi a.1 w.range.order (omega (arith, linear)) w.operand.order (omega (arith, linear)))
    | inr back ↦ high_reached K den lo a.1 e r.1 t w.scale w.range.den_positive (w.highest.backward back) w.ceiling (shown K lo hi den a r c e w t h lo a.1 (omega (arith, linear)) w.range.order w.operand.order (omega (arith, linear)))
  ];
}

pub ends_pair : (K lo hi den : ℤ) (a r : Pair) (c e : ℤ) → Ends K lo hi den a r c e → IsPair r
ends_pair K lo hi den a r c e w =
    let there = shown K lo hi den a r c e w r (all_enclosed K lo hi den a r c e w) lo a.0 (omega (arith, linear)) w.range.order (omega (arith, linear)) w.operand.order in
    let u = mul_pos K den (omega (arith, linear, w.scale)) (omega (arith, linear, w.range.den_positive)) in
    let unit = mul_pos den K (omega (arith, linear, w.range.den_positive)) (omega (arith, linear, w.scale)) in
    let z : ℤ = ((K *ℤ den) *ℤ (K *ℤ den)) *ℤ (K *ℤ den) in
    record {
      order = le_of_mul_left z r.0 r.1 (cube_positive (K *ℤ den) (omega (arith, linear))) (omega (arith, linear, there.above, there.below, mul_comm z r.0, mul_comm z r.1));
      low = floor_small (den *ℤ K) c r.0 (omega (arith, linear)) w.floor (lowest_small lo hi a.0 c w.range.positive w.range.order w.small.low w.lowest);
      high = ceiling_small (den *ℤ K) e r.1 (omega (arith, linear)) w.ceiling (highest_small lo hi a.1 e w.range.positive w.range.order w.small.high w.highest);
    }

pub is_signed_square : (K lo hi den : ℤ) (a r : Pair) (c e : ℤ) → Ends K lo hi den a r c e → IsSignedSquare K lo hi den a r
is_signed_square K lo hi den a r c e w = record { encloses = all_enclosed K lo hi den a r c e w; least = least_enclosed K lo hi den a r c e w; pair = ends_pair K lo hi den a r c e w }

-- ---- the code of one end
pub lowest_forward : (lo hi x m : ℤ) → pos 0 ≤ℤ x → m ≡ lo *ℤ (x *ℤ x) → IsLowest lo hi x m
lowest_forward lo hi x m h e = record { forward = λ up. e ∙ ap (λ (y : ℤ). lo *ℤ y) (sym (signed_forward x up)); backward = λ back. absurd (omega (arith, linear)) }

pub lowest_backward : (lo hi x m : ℤ) → x <ℤ pos 0 → m ≡ neg_ℤ (hi *ℤ (x *ℤ x)) → IsLowest lo hi x m
lowest_backward lo hi x m h e = record { forward = λ up. absurd (omega (arith, linear)); backward = λ back. e ∙ sym (mul_neg hi (x *ℤ x)) ∙ ap (λ (y : ℤ). hi *ℤ y) (sym (signed_back x (omega (arith, linear)))) }

pub highest_forward : (lo hi x m : ℤ) → pos 0 ≤ℤ x → m ≡ hi *ℤ (x *ℤ x) → IsHighest lo hi x m
highest_forward lo hi x m h e = record { forward = λ up. e ∙ ap (λ (y : ℤ). hi *ℤ y) (sym (signed_forward x up)); backward = λ back. absurd (omega (arith, linear)) }

pub highest_backward : (lo hi x m : ℤ) → x <ℤ pos 0 → m ≡ neg_ℤ (lo *ℤ (x *ℤ x)) → IsHighest lo hi x m
highest_backward lo hi x m h e = record { forward = λ up. absurd (omega (arith, linear)); backward = λ back. e ∙ sym (mul_neg lo (x *ℤ x)) ∙ ap (λ (y : ℤ). lo *ℤ y) (sym (signed_back x (omega (arith, linear)))) }
