-- How the formulas of the laws scale, and how they grow.
use Rattle.std.proofs.Common.{◌≡◌, ◌⊎◌, inl, inr, sym, ap, ◌∙◌, arith, ℤ, pos, ◌-ℤ◌, ◌*ℤ◌, neg_ℤ, ◌≤ℤ◌, ◌<ℤ◌, Bool, true, false, cond, int_le, IsTrue}
use Rattle.integer_laws.proofs.Ring.{linear, mul_add, mul_neg, mul_assoc, mul_comm, mul_left_comm, mul_sub, mul_nonneg, mul_le_left, mul_lt_left, le_or_lt, square_nonneg, square_le, square_lt, mul_mul_comm, neg_mul, mul_pos, mul_zero, le_scale, le_of_square}
use Rattle.gas_model.specs.Curves.{square, curve, excess, at_most, at_least}
use Rattle.gas_model.proofs.CurveFacts.{curve_forward, curve_back}

-- ---- squares
pub square_scale : (k a : ℤ) → square (k *ℤ a) ≡ square k *ℤ square a
square_scale k a = mul_mul_comm k a k a

pub square_neg : (a : ℤ) → square (neg_ℤ a) ≡ square a
square_neg a = simp (mul_neg, neg_mul) (omega (arith, linear))

pub square_pos : (k : ℤ) → pos 0 <ℤ k → pos 0 <ℤ square k
square_pos k h = mul_pos k k h h

-- ---- curves
-- a greater flow has a greater drop
pub curve_lt : (f g a b : ℤ) → pos 1 ≤ℤ f → pos 1 ≤ℤ g → a <ℤ b → curve f g a <ℤ curve f g b
curve_lt f g a b p r h =
    elim (le_or_lt (pos 0) a) [
      | inl forward ↦
          let s : square a <ℤ square b = square_lt a b forward h in
          omega (arith, linear, curve_forward f g a forward, curve_forward f g b (omega (arith, linear)), mul_lt_left f (square a) (square b) (omega (arith, linear)) s)
      | inr back ↦ elim (le_or_lt (pos 0) b) [
        | inl forward ↦
            let s : pos 0 <ℤ square (neg_ℤ a) = mul_pos (neg_ℤ a) (neg_ℤ a) (omega (arith, linear)) (omega (arith, linear)) in
            let t : pos 0 <ℤ (g *ℤ square a) = mul_pos g (square a) (omega (arith, linear)) (omega (arith, linear, square_neg a)) in
            omega (arith, linear, curve_back f g a back, curve_forward f g b forward, mul_nonneg f (square b) (omega (arith, linear)) (square_nonneg b))
        | inr both ↦
            let s : square (neg_ℤ b) <ℤ square (neg_ℤ a) = square_lt (neg_ℤ b) (neg_ℤ a) (omega (arith, linear)) (omega (arith, linear)) in
            let t : (g *ℤ square b) <ℤ (g *ℤ square a) = mul_lt_left g (square b) (square a) (omega (arith, linear)) (omega (arith, linear, square_neg a, square_neg b)) in
            omega (arith, linear, curve_back f g a back, curve_back f g b both)
      ]
    ]

pub curve_le : (f g a b : ℤ) → pos 1 ≤ℤ f → pos 1 ≤ℤ g → a ≤ℤ b → curve f g a ≤ℤ curve f g b
curve_le f g a b p r h =
    elim (le_or_lt b a) [
      | inl same ↦ let e : a ≡ b = omega (arith, linear) in let m = ap (curve f g) e in omega (arith, linear, m)
      | inr less ↦ let m = curve_lt f g a b p r less in omega (arith, linear)
    ]

pub le_of_curve : (f g a b : ℤ) → pos 1 ≤ℤ f → pos 1 ≤ℤ g → curve f g a ≤ℤ curve f g b → a ≤ℤ b
le_of_curve f g a b p r h =
    elim (le_or_lt a b) [
      | inl y ↦ y
      | inr n ↦ let m = curve_lt f g b a p r n in absurd (omega (arith, linear))
    ]

-- a curve at k times the flow
pub curve_scale : (f g k q : ℤ) → pos 0 <ℤ k → curve f g (k *ℤ q) ≡ square k *ℤ curve f g q
curve_scale f g k q h =
    elim (le_or_lt (pos 0) q) [
      | inl forward ↦
          curve_forward f g (k *ℤ q) (mul_nonneg k q (omega (arith, linear)) forward) ∙ ap (λ (x : ℤ). f *ℤ x) (square_scale k q) ∙ mul_left_comm f (square k) (square q) ∙ sym (ap (λ (x : ℤ). square k *ℤ x) (curve_forward f g q forward))
      | inr back ↦
          let n : (k *ℤ q) <ℤ (k *ℤ pos 0) = mul_lt_left k q (pos 0) h back in
          let e : g *ℤ square (k *ℤ q) ≡ square k *ℤ (g *ℤ square q) = ap (λ (x : ℤ). g *ℤ x) (square_scale k q) ∙ mul_left_comm g (square k) (square q) in
          curve_back f g (k *ℤ q) (omega (arith, linear, mul_zero k)) ∙ ap neg_ℤ e ∙ sym (mul_neg (square k) (g *ℤ square q)) ∙ sym (ap (λ (x : ℤ). square k *ℤ x) (curve_back f g q back))
    ]

-- the drop along a resistance, in which each number counts k times
pub gap_scale : (den k m a b : ℤ) → den *ℤ (k *ℤ m) *ℤ (k *ℤ a -ℤ k *ℤ b) ≡ square k *ℤ (den *ℤ m *ℤ (a -ℤ b))
gap_scale den k m a b = rw (← mul_sub k a b) (grind (arith, mul_assoc, mul_comm))

-- ---- roots that differ by D
pub at_least_says : (d y x D : ℤ) → IsTrue (at_least d y x D) → (pos 0 ≤ℤ excess d y x D) × ((pos 4 *ℤ square D *ℤ (d *ℤ x)) ≤ℤ square (excess d y x D))
at_least_says d y x D h = grind (arith, linear)

pub at_most_says : (d y x D : ℤ) → IsTrue (at_most d y x D) → (excess d y x D ≤ℤ pos 0) ⊎ (square (excess d y x D) ≤ℤ (pos 4 *ℤ square D *ℤ (d *ℤ x)))
at_most_says d y x D h = grind (arith, linear)

pub at_least_from : (d y x D : ℤ) → pos 0 ≤ℤ excess d y x D → (pos 4 *ℤ square D *ℤ (d *ℤ x)) ≤ℤ square (excess d y x D) → IsTrue (at_least d y x D)
at_least_from d y x D p q = grind (arith, linear)

pub at_most_from : (d y x D : ℤ) → (excess d y x D ≤ℤ pos 0) ⊎ (square (excess d y x D) ≤ℤ (pos 4 *ℤ square D *ℤ (d *ℤ x))) → IsTrue (at_most d y x D)
at_most_from d y x D h = grind (arith, linear)

pub excess_scale : (k d y x D : ℤ) → excess (k *ℤ d) (k *ℤ y) (k *ℤ x) D ≡ k *ℤ excess d y x D
excess_scale k d y x D = simp (mul_add, mul_neg) (omega (arith, linear, mul_assoc k d (square D)))

pub bound_scale : (k c d x : ℤ) → c *ℤ ((k *ℤ d) *ℤ (k *ℤ x)) ≡ square k *ℤ (c *ℤ (d *ℤ x))
bound_scale k c d x = ap (λ (z : ℤ). c *ℤ z) (mul_mul_comm k d k x) ∙ mul_left_comm c (square k) (d *ℤ x)

pub sign_scale : (k a : ℤ) → pos 0 <ℤ k → int_le (pos 0) (k *ℤ a) ≡ int_le (pos 0) a
sign_scale k a h = ap (λ (z : ℤ). int_le z (k *ℤ a)) (sym (mul_zero k)) ∙ le_scale k (pos 0) a h

pub sign_scale_back : (k a : ℤ) → pos 0 <ℤ k → int_le (k *ℤ a) (pos 0) ≡ int_le a (pos 0)
sign_scale_back k a h = ap (λ (z : ℤ). int_le (k *ℤ a) z) (sym (mul_zero k)) ∙ le_scale k a (pos 0) h

pub at_least_scale : (k d y x D : ℤ) → pos 0 <ℤ k → at_least (k *ℤ d) (k *ℤ y) (k *ℤ x) D ≡ at_least d y x D
at_least_scale k d y x D h =
    let t = excess d y x D in
    let c = pos 4 *ℤ square D in
    rw (excess_scale k d y x D, bound_scale k c d x, square_scale k t, sign_scale k t h, le_scale (square k) (c *ℤ (d *ℤ x)) (square t) (square_pos k h))

pub at_most_scale : (k d y x D : ℤ) → pos 0 <ℤ k → at_most (k *ℤ d) (k *ℤ y) (k *ℤ x) D ≡ at_most d y x D
at_most_scale k d y x D h =
    let t = excess d y x D in
    let c = pos 4 *ℤ square D in
    rw (excess_scale k d y x D, bound_scale k c d x, square_scale k t, sign_scale_back k t h, le_scale (square k) (square t) (c *ℤ (d *ℤ x)) (square_pos k h))

pub four_squares : (D : ℤ) → pos 0 ≤ℤ (pos 4 *ℤ square D)
four_squares D = mul_nonneg (pos 4) (square D) (omega (arith, linear)) (square_nonneg D)

pub bound_le : (d x z D : ℤ) → pos 0 ≤ℤ d → x ≤ℤ z → (pos 4 *ℤ square D *ℤ (d *ℤ x)) ≤ℤ (pos 4 *ℤ square D *ℤ (d *ℤ z))
bound_le d x z D p h = mul_le_left (pos 4 *ℤ square D) (d *ℤ x) (d *ℤ z) (four_squares D) (mul_le_left d x z p h)

-- y may grow and x may shrink
pub at_least_grow : (d y x D y' x' : ℤ) → pos 0 ≤ℤ d → IsTrue (at_least d y x D) → y ≤ℤ y' → x' ≤ℤ x → IsTrue (at_least d y' x' D)
at_least_grow d y x D y' x' p h grows shrinks =
    let says = at_least_says d y x D h in
    let more : excess d y x D ≤ℤ excess d y' x' D = omega (arith, linear) in
    let squares = square_le (excess d y x D) (excess d y' x' D) says.0 more in
    let bounds = bound_le d x' x D p shrinks in
    at_least_from d y' x' D (omega (arith, linear, says.0)) (omega (arith, linear, says.1))

-- y may shrink and x may grow
pub at_most_grow : (d y x D y' x' : ℤ) → pos 0 ≤ℤ d → IsTrue (at_most d y x D) → y' ≤ℤ y → x ≤ℤ x' → IsTrue (at_most d y' x' D)
at_most_grow d y x D y' x' p h shrinks grows =
    let less : excess d y' x' D ≤ℤ excess d y x D = omega (arith, linear) in
    let bounds = bound_le d x x' D p grows in
    at_most_from d y' x' D (elim (le_or_lt (excess d y' x' D) (pos 0)) [
      | inl negative ↦ inl negative
      | inr positive ↦ elim (at_most_says d y x D h) [
        | inl negative ↦ inl (omega (arith, linear))
        | inr small ↦ let squares = square_le (excess d y' x' D) (excess d y x D) (omega (arith, linear)) less in inr (omega (arith, linear))
      ]
    ])

-- the root of y is at most that of x plus D, and the root of z at least that
pub at_most-at_least : (d y z x D : ℤ) → IsTrue (at_most d y x D) → IsTrue (at_least d z x D) → y ≤ℤ z
at_most-at_least d y z x D h k =
    let says = at_least_says d z x D k in
    elim (at_most_says d y x D h) [
      | inl negative ↦ omega (arith, linear, says.0)
      | inr small ↦ let m = le_of_square (excess d y x D) (excess d z x D) says.0 (omega (arith, linear, says.1)) in omega (arith, linear)
    ]

-- the root of y is at least that of c plus D, and at most that of x plus D
pub at_least-at_most : (d y c x D : ℤ) → pos 0 ≤ℤ d → IsTrue (at_least d y c D) → IsTrue (at_most d y x D) → c ≤ℤ x
at_least-at_most d y c x D p h k =
    let says = at_least_says d y c D h in
    elim (le_or_lt c x) [
      | inl fine ↦ fine
      | inr less ↦
          let grows : excess d y c D <ℤ excess d y x D = omega (arith, linear) in
          let squares = square_lt (excess d y c D) (excess d y x D) says.0 grows in
          let bounds = bound_le d x c D p (omega (arith, linear)) in
          absurd (elim (at_most_says d y x D k) [
            | inl negative ↦ omega (arith, linear, says.0)
            | inr small ↦ omega (arith, linear, says.1)
          ])
    ]

-- a root that is at least another plus D isn't below it
pub at_least-le : (d y x D : ℤ) → pos 0 ≤ℤ d → IsTrue (at_least d y x D) → x ≤ℤ y
at_least-le d y x D p h =
    let says = at_least_says d y x D h in
    omega (arith, linear, says.0, mul_nonneg d (square D) p (square_nonneg D))

-- a root that isn't above another is at most that plus D
pub at_most-below : (d y x D : ℤ) → pos 0 ≤ℤ d → y ≤ℤ x → IsTrue (at_most d y x D)
at_most-below d y x D p h = at_most_from d y x D (inl (omega (arith, linear, mul_nonneg d (square D) p (square_nonneg D))))
