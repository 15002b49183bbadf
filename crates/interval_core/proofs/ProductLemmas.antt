-- The ends of a product.
use Rattle.std.proofs.Common.{◌≡◌, ◌⊎◌, ⊎_elim, inl, inr, sym, ◌∙◌, subst, arith, ℤ, pos, ◌+ℤ◌, ◌-ℤ◌, ◌*ℤ◌, ◌≤ℤ◌, neg_ℤ}
use Rattle.integer_laws.proofs.Ring.{linear, add_mul, mul_comm, mul_assoc, mul_le_left, mul_le_right, le_of_mul_left, le_or_lt, square_nonneg, neg_mul, one_mul, mul_one, sub_mul}
use Rattle.std.specs.Int.{int_min, int_max}
use Rattle.gas_units.specs.Rounds.{IsFloor, IsCeiling}
use Rattle.interval_core.specs.Enclosures.{Pair, IsPair, IsSmall, Has, IsProduct, IsLeastOf, IsGreatestOf}
use Rattle.interval_core.proofs.EnclosureLemmas.{low_in, high_in, parts, one_part}

-- a negative factor turns the order
mul_le_back : (k a b : ℤ) → k ≤ℤ pos 0 → a ≤ℤ b → (k *ℤ b) ≤ℤ (k *ℤ a)
mul_le_back k a b h p = let m = mul_le_left (neg_ℤ k) a b (omega (arith, linear)) p in omega (arith, linear, neg_mul k a, neg_mul k b)

-- x lies between a and b: its product with y is at least the lesser of theirs
between_low : (m a b x y : ℤ) → m ≤ℤ (a *ℤ y) → m ≤ℤ (b *ℤ y) → a ≤ℤ x → x ≤ℤ b → m ≤ℤ (x *ℤ y)
between_low m a b x y p q ax xb =
    elim (le_or_lt (pos 0) y) [
      | inl up ↦ omega (arith, linear, mul_le_right y a x up ax)
      | inr back ↦ omega (arith, linear, mul_le_back y x b (omega (arith, linear)) xb, mul_comm x y, mul_comm b y)
    ]

between_high : (m a b x y : ℤ) → (a *ℤ y) ≤ℤ m → (b *ℤ y) ≤ℤ m → a ≤ℤ x → x ≤ℤ b → (x *ℤ y) ≤ℤ m
between_high m a b x y p q ax xb =
    elim (le_or_lt (pos 0) y) [
      | inl up ↦ omega (arith, linear, mul_le_right y x b up xb)
      | inr back ↦ omega (arith, linear, mul_le_back y a x (omega (arith, linear)) ax, mul_comm x y, mul_comm a y)
    ]

-- a product within ends is at least the least corner, and at most the greatest
corner_low : (m a b c e x y : ℤ) → m ≤ℤ (a *ℤ c) → m ≤ℤ (a *ℤ e) → m ≤ℤ (b *ℤ c) → m ≤ℤ (b *ℤ e) → a ≤ℤ x → x ≤ℤ b → c ≤ℤ y → y ≤ℤ e → m ≤ℤ (x *ℤ y)
corner_low m a b c e x y p q r s ax xb cy ye =
    let at_a = between_low m c e y a (omega (arith, linear, mul_comm a c)) (omega (arith, linear, mul_comm a e)) cy ye in
    let at_b = between_low m c e y b (omega (arith, linear, mul_comm b c)) (omega (arith, linear, mul_comm b e)) cy ye in
    between_low m a b x y (omega (arith, linear, mul_comm a y)) (omega (arith, linear, mul_comm b y)) ax xb

corner_high : (m a b c e x y : ℤ) → (a *ℤ c) ≤ℤ m → (a *ℤ e) ≤ℤ m → (b *ℤ c) ≤ℤ m → (b *ℤ e) ≤ℤ m → a ≤ℤ x → x ≤ℤ b → c ≤ℤ y → y ≤ℤ e → (x *ℤ y) ≤ℤ m
corner_high m a b c e x y p q r s ax xb cy ye =
    let at_a = between_high m c e y a (omega (arith, linear, mul_comm a c)) (omega (arith, linear, mul_comm a e)) cy ye in
    let at_b = between_high m c e y b (omega (arith, linear, mul_comm b c)) (omega (arith, linear, mul_comm b e)) cy ye in
    between_high m a b x y (omega (arith, linear, mul_comm a y)) (omega (arith, linear, mul_comm b y)) ax xb

-- a corner, over the denominator d
scaled_low : (d m a b : ℤ) → m ≤ℤ (a *ℤ b) → ((d *ℤ d) *ℤ m) ≤ℤ ((a *ℤ d) *ℤ (b *ℤ d))
scaled_low d m a b h =
    let n = mul_le_left (d *ℤ d) m (a *ℤ b) (square_nonneg d) h in
    let e : (d *ℤ d) *ℤ (a *ℤ b) ≡ (a *ℤ d) *ℤ (b *ℤ d) = grind (arith, mul_assoc, mul_comm) in
    omega (arith, linear, n, e)

scaled_high : (d m a b : ℤ) → (a *ℤ b) ≤ℤ m → ((a *ℤ d) *ℤ (b *ℤ d)) ≤ℤ ((d *ℤ d) *ℤ m)
scaled_high d m a b h =
    let n = mul_le_left (d *ℤ d) (a *ℤ b) m (square_nonneg d) h in
    let e : (d *ℤ d) *ℤ (a *ℤ b) ≡ (a *ℤ d) *ℤ (b *ℤ d) = grind (arith, mul_assoc, mul_comm) in
    omega (arith, linear, n, e)

low_end : (K l m n s d : ℤ) → pos 1 ≤ℤ K → (l *ℤ K) ≤ℤ m → ((d *ℤ d) *ℤ m) ≤ℤ ((K *ℤ n) *ℤ (K *ℤ s)) → (l *ℤ (d *ℤ d)) ≤ℤ (K *ℤ (n *ℤ s))
low_end K l m n s d k f c =
    let g = mul_le_left (d *ℤ d) (l *ℤ K) m (square_nonneg d) f in
    let e : (d *ℤ d) *ℤ (l *ℤ K) ≡ K *ℤ (l *ℤ (d *ℤ d)) = grind (arith, mul_assoc, mul_comm) in
    let h : (K *ℤ n) *ℤ (K *ℤ s) ≡ K *ℤ (K *ℤ (n *ℤ s)) = grind (arith, mul_assoc, mul_comm) in
    le_of_mul_left K (l *ℤ (d *ℤ d)) (K *ℤ (n *ℤ s)) (omega (arith, linear)) (omega (arith, linear, g, c, e, h))

high_end : (K l m n s d : ℤ) → pos 1 ≤ℤ K → m ≤ℤ (l *ℤ K) → ((K *ℤ n) *ℤ (K *ℤ s)) ≤ℤ ((d *ℤ d) *ℤ m) → (K *ℤ (n *ℤ s)) ≤ℤ (l *ℤ (d *ℤ d))
high_end K l m n s d k f c =
    let g = mul_le_left (d *ℤ d) m (l *ℤ K) (square_nonneg d) f in
    let e : (d *ℤ d) *ℤ (l *ℤ K) ≡ K *ℤ (l *ℤ (d *ℤ d)) = grind (arith, mul_assoc, mul_comm) in
    let h : (K *ℤ n) *ℤ (K *ℤ s) ≡ K *ℤ (K *ℤ (n *ℤ s)) = grind (arith, mul_assoc, mul_comm) in
    le_of_mul_left K (K *ℤ (n *ℤ s)) (l *ℤ (d *ℤ d)) (omega (arith, linear)) (omega (arith, linear, g, c, e, h))

-- an end that is reached at the corner z = x y is no tighter than t allows
low_reached : (K : ℤ) (t : Pair) (l m x y : ℤ) → pos 1 ≤ℤ K → IsFloor m K l → m ≡ x *ℤ y → Has K t (x *ℤ y) (K *ℤ K) → t.0 ≤ℤ l
low_reached K t l m x y k f e h =
    let c : K *ℤ (t.0 *ℤ K) ≡ t.0 *ℤ (K *ℤ K) = grind (arith, mul_assoc, mul_comm) in
    let a = le_of_mul_left K (t.0 *ℤ K) (x *ℤ y) (omega (arith, linear)) (omega (arith, linear, c, h.above)) in
    elim (le_or_lt t.0 l) [
      | inl fine ↦ fine
      | inr more ↦
          let s = mul_le_right K (l +ℤ pos 1) t.0 (omega (arith, linear)) (omega (arith, linear)) in
          absurd (omega (arith, linear, s, a, f.greatest, e, add_mul l (pos 1) K, one_mul K))
    ]

high_reached : (K : ℤ) (t : Pair) (l m x y : ℤ) → pos 1 ≤ℤ K → IsCeiling m K l → m ≡ x *ℤ y → Has K t (x *ℤ y) (K *ℤ K) → l ≤ℤ t.1
high_reached K t l m x y k f e h =
    let c : K *ℤ (t.1 *ℤ K) ≡ t.1 *ℤ (K *ℤ K) = grind (arith, mul_assoc, mul_comm) in
    let a = le_of_mul_left K (x *ℤ y) (t.1 *ℤ K) (omega (arith, linear)) (omega (arith, linear, c, h.below)) in
    elim (le_or_lt l t.1) [
      | inl fine ↦ fine
      | inr more ↦
          let s = mul_le_right K (t.1 +ℤ pos 1) l (omega (arith, linear)) (omega (arith, linear)) in
          absurd (omega (arith, linear, s, a, f.least, e, add_mul t.1 (pos 1) K, one_mul K))
    ]

pub is_product : (K : ℤ) (a b : Pair) (r : Pair) (m M : ℤ) → pos 1 ≤ℤ K → IsPair a → IsPair b → IsLeastOf m (a.0 *ℤ b.0) (a.0 *ℤ b.1) (a.1 *ℤ b.0) (a.1 *ℤ b.1) → IsGreatestOf M (a.0 *ℤ b.0) (a.0 *ℤ b.1) (a.1 *ℤ b.0) (a.1 *ℤ b.1) → IsFloor m K r.0 → IsCeiling M K r.1 → IsPair r → IsProduct K a b r
is_product K a b r m M k p q low high floor ceiling s = record {
  encloses = λ n o d i x y. record {
    above = low_end K r.0 m n o d k floor.at_most (corner_low ((d *ℤ d) *ℤ m) (a.0 *ℤ d) (a.1 *ℤ d) (b.0 *ℤ d) (b.1 *ℤ d) (K *ℤ n) (K *ℤ o) (scaled_low d m a.0 b.0 low.first) (scaled_low d m a.0 b.1 low.second) (scaled_low d m a.1 b.0 low.third) (scaled_low d m a.1 b.1 low.fourth) x.above x.below y.above y.below);
    below = high_end K r.1 M n o d k ceiling.at_least (corner_high ((d *ℤ d) *ℤ M) (a.0 *ℤ d) (a.1 *ℤ d) (b.0 *ℤ d) (b.1 *ℤ d) (K *ℤ n) (K *ℤ o) (scaled_high d M a.0 b.0 high.first) (scaled_high d M a.0 b.1 high.second) (scaled_high d M a.1 b.0 high.third) (scaled_high d M a.1 b.1 high.fourth) x.above x.below y.above y.below);
  };
  least = λ t e.
      let ll = e a.0 b.0 K k (low_in K a k p) (low_in K b k q) in
      let lh = e a.0 b.1 K k (low_in K a k p) (high_in K b k q) in
      let hl = e a.1 b.0 K k (high_in K a k p) (low_in K b k q) in
      let hh = e a.1 b.1 K k (high_in K a k p) (high_in K b k q) in
      record {
        low = ⊎_elim (λ w. low_reached K t r.0 m a.0 b.0 k floor w ll) (⊎_elim (λ w. low_reached K t r.0 m a.0 b.1 k floor w lh) (⊎_elim (λ w. low_reached K t r.0 m a.1 b.0 k floor w hl) (λ w. low_reached K t r.0 m a.1 b.1 k floor w hh))) low.reached;
        high = ⊎_elim (λ w. high_reached K t r.1 M a.0 b.0 k ceiling w ll) (⊎_elim (λ w. high_reached K t r.1 M a.0 b.1 k ceiling w lh) (⊎_elim (λ w. high_reached K t r.1 M a.1 b.0 k ceiling w hl) (λ w. high_reached K t r.1 M a.1 b.1 k ceiling w hh))) high.reached;
      };
  pair = s;
}

-- ---- the least and the greatest of four
pub record IsLeastOfTwo (m x y : ℤ) : Type 0 where
  pub first : m ≤ℤ x
  pub second : m ≤ℤ y
  pub reached : (m ≡ x) ⊎ (m ≡ y)

pub record IsGreatestOfTwo (m x y : ℤ) : Type 0 where
  pub first : x ≤ℤ m
  pub second : y ≤ℤ m
  pub reached : (m ≡ x) ⊎ (m ≡ y)

pub least_of_two : (x y : ℤ) → IsLeastOfTwo (int_min x y) x y
least_of_two x y = grind (arith, linear)

pub greatest_of_two : (x y : ℤ) → IsGreatestOfTwo (int_max x y) x y
greatest_of_two x y = grind (arith, linear)

pub least_of_four : (w x y z a b m : ℤ) → a ≡ int_min w x → b ≡ int_min y z → m ≡ int_min a b → IsLeastOf m w x y z
least_of_four w x y z a b m e f g =
    let p : IsLeastOfTwo a w x = rw e (least_of_two w x) in
    let q : IsLeastOfTwo b y z = rw f (least_of_two y z) in
    let r : IsLeastOfTwo m a b = rw g (least_of_two a b) in
    record {
      first = omega (arith, linear, p.first, r.first);
      second = omega (arith, linear, p.second, r.first);
      third = omega (arith, linear, q.first, r.second);
      fourth = omega (arith, linear, q.second, r.second);
      reached = ⊎_elim (λ u. ⊎_elim (λ v. inl (u ∙ v)) (λ v. inr (inl (u ∙ v))) p.reached) (λ u. ⊎_elim (λ v. inr (inr (inl (u ∙ v)))) (λ v. inr (inr (inr (u ∙ v)))) q.reached) r.reached;
    }

pub greatest_of_four : (w x y z a b m : ℤ) → a ≡ int_max w x → b ≡ int_max y z → m ≡ int_max a b → IsGreatestOf m w x y z
greatest_of_four w x y z a b m e f g =
    let p : IsGreatestOfTwo a w x = rw e (greatest_of_two w x) in
    let q : IsGreatestOfTwo b y z = rw f (greatest_of_two y z) in
    let r : IsGreatestOfTwo m a b = rw g (greatest_of_two a b) in
    record {
      first = omega (arith, linear, p.first, r.first);
      second = omega (arith, linear, p.second, r.first);
      third = omega (arith, linear, q.first, r.second);
      fourth = omega (arith, linear, q.second, r.second);
      reached = ⊎_elim (λ u. ⊎_elim (λ v. inl (u ∙ v)) (λ v. inr (inl (u ∙ v))) p.reached) (λ u. ⊎_elim (λ v. inr (inr (inl (u ∙ v)))) (λ v. inr (inr (inr (u ∙ v)))) q.reached) r.reached;
    }

-- ---- sizes
pub floor_small : (K m l : ℤ) → pos 1 ≤ℤ K → IsFloor m K l → IsSmall m → IsSmall l
floor_small K m l k f s =
    elim (le_or_lt (pos 0) l) [
      | inl up ↦ let a = mul_le_left l (pos 1) K up k in omega (arith, linear, a, f.at_most, mul_one l, parts, one_part l, one_part m)
      | inr back ↦
          let a = mul_le_back (l +ℤ pos 1) (pos 1) K (omega (arith, linear)) k in
          omega (arith, linear, a, f.greatest, mul_one (l +ℤ pos 1), add_mul l (pos 1) K, one_mul K, parts, one_part l, one_part m)
    ]

pub ceiling_small : (K m l : ℤ) → pos 1 ≤ℤ K → IsCeiling m K l → IsSmall m → IsSmall l
ceiling_small K m l k f s =
    elim (le_or_lt l (pos 0)) [
      | inl back ↦ let a = mul_le_back l (pos 1) K back k in omega (arith, linear, a, f.at_least, mul_one l, parts, one_part l, one_part m)
      | inr up ↦
          let a = mul_le_left (l -ℤ pos 1) (pos 1) K (omega (arith, linear)) k in
          omega (arith, linear, a, f.least, mul_one (l -ℤ pos 1), sub_mul l (pos 1) K, one_mul K, parts, one_part l, one_part m)
    ]

reached_small : (m w x y z : ℤ) → (m ≡ w) ⊎ ((m ≡ x) ⊎ ((m ≡ y) ⊎ (m ≡ z))) → IsSmall w → IsSmall x → IsSmall y → IsSmall z → IsSmall m
reached_small m w x y z r a b c d = ⊎_elim (λ e. subst IsSmall (sym e) a) (⊎_elim (λ e. subst IsSmall (sym e) b) (⊎_elim (λ e. subst IsSmall (sym e) c) (λ e. subst IsSmall (sym e) d))) r

pub product_pair : (K m M l h w x y z : ℤ) → pos 1 ≤ℤ K → IsLeastOf m w x y z → IsGreatestOf M w x y z → IsSmall w → IsSmall x → IsSmall y → IsSmall z → IsFloor m K l → IsCeiling M K h → IsPair (l, h)
product_pair K m M l h w x y z k low high a b c d floor ceiling = record {
  order = le_of_mul_left K l h (omega (arith, linear)) (omega (arith, linear, mul_comm l K, mul_comm h K, floor.at_most, ceiling.at_least, low.first, high.first));
  low = floor_small K m l k floor (reached_small m w x y z low.reached a b c d);
  high = ceiling_small K M h k ceiling (reached_small M w x y z high.reached a b c d);
}
