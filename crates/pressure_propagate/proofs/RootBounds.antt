-- The roots that code takes give the greatest and the least squares.
use Rattle.std.proofs.Common.{◌≡◌, ◌↔◌, ◌⊎◌, inl, inr, ℕ, zero, suc, ◌+◌, ◌*◌, ◌^◌, ◌≤◌, lit≤, refl, sym, ap, ◌∙◌, subst, arith, ℤ, pos, negsuc, ◌+ℤ◌, ◌-ℤ◌, ◌*ℤ◌, ◌≤ℤ◌, ◌<ℤ◌, int_le, unsigned_abs, to_z, Bool, true, false, cond, IsTrue, FitsSigned}
use Rattle.std.specs.Int.{w128, int_max}
use Rattle.std.proofs.lemmas.Int.{to_z_pos}
use Rattle.integer_laws.proofs.Ring.{linear, le_or_lt, mul_le_left, mul_lt_left, mul_nonneg, mul_zero, one_mul, square_nonneg, square_le, le_of_square}
use Rattle.integer_laws.specs.Sizes.{IsWithin}
use Rattle.integer_laws.proofs.SizeLemmas.{within_fits, within_parts, one_part, product_within, sum_within, difference_within}
use Rattle.gas_model.specs.Curves.{square, excess, at_least_zero, at_most, at_least}
use Rattle.gas_model.specs.BoxLimits.{IsScale}
use Rattle.base_types.specs.Numbers.{is_difference}
use Rattle.element_laws.specs.Sizes.{is_wide_square, is_wide_difference}
use Rattle.element_laws.proofs.RootFits.{wide_square_size, wide_difference_size}
use Rattle.tree_rules.specs.TightestRoots.{under_root}
use Rattle.tree_rules.proofs.CurveLaws.{square_scale, at_least_says, at_most_says, at_least_from, at_most_from}
use Rattle.tree_rules.proofs.RootLaws.{greatest_at_most, least_at_least, greatest_at_least, no_at_least, least_at_most, each_at_most}
use Rattle.gas_units.specs.Rounds.{IsRootDown, IsRootUp}

-- ---- the number under the root
under_sign : (e x : ℤ) → pos 0 ≤ℤ x → pos 0 ≤ℤ under_root e x
under_sign e x h = mul_nonneg (pos 4 *ℤ square e) x (mul_nonneg (pos 4) (square e) (omega (arith, linear)) (square_nonneg e)) h

under_same : (e x : ℤ) → pos 0 ≤ℤ x → at_least_zero (under_root e x) ≡ under_root e x
under_same e x h = let s = under_sign e x h in grind (arith, linear)

under_none : (e x : ℤ) → x <ℤ pos 0 → at_least_zero (under_root e x) ≡ pos 0
under_none e x h =
    let m = mul_le_left (pos 4 *ℤ square e) x (pos 0) (mul_nonneg (pos 4) (square e) (omega (arith, linear)) (square_nonneg e)) (omega (arith, linear)) in
    let s : under_root e x ≤ℤ pos 0 = omega (arith, linear, m, mul_zero (pos 4 *ℤ square e)) in
    grind (arith, linear)

-- the code's form of it
pub under_is : (e x : ℤ) → int_le (pos 0) (pos 4 *ℤ (e *ℤ e) *ℤ x) ≡ true → pos (unsigned_abs (pos 4 *ℤ (e *ℤ e) *ℤ x)) ≡ at_least_zero (under_root e x)
under_is e x h = size_is (pos 4 *ℤ (e *ℤ e) *ℤ x) h
  where
    size_is : (z : ℤ) → int_le (pos 0) z ≡ true → pos (unsigned_abs z) ≡ at_least_zero z
    size_is z h =
        let p : pos 0 ≤ℤ z = omega (arith, linear, h) in
        let s : pos (unsigned_abs z) ≡ z = omega (arith, linear, p, within_parts, one_part z) in
        s ∙ ap (λ (t : Bool). cond t z (pos 0)) (sym h)

pub under_is_none : (e x : ℤ) → int_le (pos 0) (pos 4 *ℤ (e *ℤ e) *ℤ x) ≡ false → pos 0 ≡ at_least_zero (under_root e x)
under_is_none e x h = ap (λ (t : Bool). cond t (under_root e x) (pos 0)) (sym h)

-- ---- a square below 0
no_bound : (K x D : ℤ) → pos 1 ≤ℤ K → x <ℤ pos 0 → (pos 4 *ℤ square D *ℤ (K *ℤ x)) ≤ℤ pos 0
no_bound K x D k h =
    let a = mul_lt_left K x (pos 0) (omega (arith, linear)) h in
    let m = mul_le_left (pos 4 *ℤ square D) (K *ℤ x) (pos 0) (mul_nonneg (pos 4) (square D) (omega (arith, linear)) (square_nonneg D)) (omega (arith, linear, a, mul_zero K)) in
    omega (arith, linear, m, mul_zero (pos 4 *ℤ square D))

most_below : (K x D C : ℤ) → pos 1 ≤ℤ K → x <ℤ pos 0 → IsTrue (at_most K C x D) ↔ (C ≤ℤ (x +ℤ K *ℤ square D))
most_below K x D C k h = (
  λ t. elim (at_most_says K C x D t) [
    | inl little ↦ omega (arith, linear, little)
    | inr much ↦ elim (le_or_lt (excess K C x D) (pos 0)) [
      | inl little ↦ omega (arith, linear, little)
      | inr more ↦ let s = square_le (pos 1) (excess K C x D) (omega (arith, linear)) (omega (arith, linear, more)) in absurd (omega (arith, linear, s, much, no_bound K x D k h))
    ]
  ],
  λ l. at_most_from K C x D (inl (omega (arith, linear))),
)

least_below : (K x D C : ℤ) → pos 1 ≤ℤ K → x <ℤ pos 0 → IsTrue (at_least K C x D) ↔ ((x +ℤ K *ℤ square D) ≤ℤ C)
least_below K x D C k h = (
  λ t. let s = at_least_says K C x D t in omega (arith, linear, s.0),
  λ l. at_least_from K C x D (omega (arith, linear)) (omega (arith, linear, no_bound K x D k h, square_nonneg (excess K C x D))),
)

-- the difference times the root of the scale
pub record IsRooted (K D e : ℤ) : Type 0 where
  pub r : ℤ
  pub root : K ≡ r *ℤ r
  pub is : e ≡ r *ℤ D
  pub squared : square e ≡ K *ℤ square D
  pub scale : pos 1 ≤ℤ K

same_root : (a b : ℤ) → pos 0 ≤ℤ a → pos 0 ≤ℤ b → a *ℤ a ≡ b *ℤ b → a ≡ b
same_root a b p q h = omega (arith, linear, le_of_square a b q (omega (arith, linear, h)), le_of_square b a p (omega (arith, linear, h)))

difference_from : (d : ℤ) → IsTrue (is_difference d) → pos 0 ≤ℤ d
difference_from d t = grind (arith, linear)

wide_from : (d : ℤ) → IsTrue (is_wide_difference d) → pos 0 ≤ℤ d
wide_from d t = grind (arith, linear)

-- the scale is the square of 1 or of 4
pub rooted : (K D e : ℤ) → IsScale K → IsTrue (is_difference D) → IsTrue (is_wide_difference e) → square e ≡ K *ℤ square D → IsRooted K D e
rooted K D e (inl k) d w s =
    let one : K *ℤ square D ≡ square D = ap (λ (z : ℤ). z *ℤ square D) k ∙ one_mul (square D) in
    let same : e ≡ D = same_root e D (wide_from e w) (difference_from D d) (s ∙ one) in
    record { r = pos 1; root = k; is = same ∙ sym (one_mul D); squared = s; scale = omega (arith, linear, k) }
rooted K D e (inr k) d w s =
    let four : K *ℤ square D ≡ square (pos 4 *ℤ D) = ap (λ (z : ℤ). z *ℤ square D) k ∙ sym (square_scale (pos 4) D) in
    let same : e ≡ pos 4 *ℤ D = same_root e (pos 4 *ℤ D) (wide_from e w) (mul_nonneg (pos 4) D (omega (arith, linear)) (difference_from D d)) (s ∙ four) in
    record { r = pos 4; root = k; is = same; squared = s; scale = omega (arith, linear, k) }

-- ---- what the code computes fits
pub root_is : (m : ℕ) → m ≤ 2 ^ 64 → to_z w128 m ≡ pos m
root_is m l = to_z_pos w128 m (omega (arith, l))

pub record SumFits (x e : ℤ) (m : ℕ) : Type 0 where
  pub root : FitsSigned w128 (pos m)
  pub given : FitsSigned w128 x
  pub root_of : FitsSigned w128 e
  pub square : FitsSigned w128 (e *ℤ e)
  pub both : FitsSigned w128 (x +ℤ e *ℤ e)
  pub sum : FitsSigned w128 (x +ℤ e *ℤ e +ℤ pos m)
  pub rest : FitsSigned w128 (x +ℤ e *ℤ e -ℤ pos m)

pub sum_fits : (x e : ℤ) (m : ℕ) → IsTrue (is_wide_square x) → IsTrue (is_wide_difference e) → m ≤ 2 ^ 64 → SumFits x e m
sum_fits x e m a b l =
    let xs = wide_square_size x a in
    let es = wide_difference_size e b in
    let ss = product_within e e (16 * 10 ^ 8) (16 * 10 ^ 8) es es in
    let both = sum_within x (e *ℤ e) (32 * 10 ^ 16 + 16) (256 * 10 ^ 16) xs ss in
    let ms : IsWithin (2 ^ 64) (pos m) = omega (arith, l) in
    record {
      root = within_fits (2 ^ 64) (pos m) ms (lit≤ tt);
      given = within_fits (32 * 10 ^ 16 + 16) x xs (lit≤ tt);
      root_of = within_fits (16 * 10 ^ 8) e es (lit≤ tt);
      square = within_fits (256 * 10 ^ 16) (e *ℤ e) ss (lit≤ tt);
      both = within_fits (32 * 10 ^ 16 + 16 + 256 * 10 ^ 16) (x +ℤ e *ℤ e) both (lit≤ tt);
      sum = within_fits (32 * 10 ^ 16 + 16 + 256 * 10 ^ 16 + 2 ^ 64) (x +ℤ e *ℤ e +ℤ pos m) (sum_within (x +ℤ e *ℤ e) (pos m) (32 * 10 ^ 16 + 16 + 256 * 10 ^ 16) (2 ^ 64) both ms) (lit≤ tt);
      rest = within_fits (32 * 10 ^ 16 + 16 + 256 * 10 ^ 16 + 2 ^ 64) (x +ℤ e *ℤ e -ℤ pos m) (difference_within (x +ℤ e *ℤ e) (pos m) (32 * 10 ^ 16 + 16 + 256 * 10 ^ 16) (2 ^ 64) both ms) (lit≤ tt);
    }

root_zero : (r : ℕ) → r * r ≤ 0 → r ≡ 0
root_zero zero h = refl
root_zero (suc k) h = absurd (omega arith)

none_under : (n : ℕ) (e x : ℤ) → x <ℤ pos 0 → pos n ≡ at_least_zero (under_root e x) → n ≡ 0
none_under n e x h is = let z : pos n ≡ pos 0 = is ∙ under_none e x h in omega (arith, linear, z)

-- ---- the four formulas
pub most_is : (K D e x : ℤ) (n m : ℕ) (C : ℤ) → IsRooted K D e → pos n ≡ at_least_zero (under_root e x) → IsRootDown n m → IsTrue (at_most K C x D) ↔ (C ≤ℤ (x +ℤ e *ℤ e +ℤ pos m))
most_is K D e x n m C r is root =
    elim (le_or_lt (pos 0) x) [
      | inl fine ↦
          let u : pos n ≡ under_root (r.r *ℤ D) x = is ∙ under_same e x fine ∙ ap (λ (z : ℤ). under_root z x) r.is in
          let f = greatest_at_most K r.r x D C n m r.root fine u root in
          let s : square e ≡ square (r.r *ℤ D) = ap square r.is in
          (λ t. omega (arith, linear, f.0 t, s), λ l. f.1 (omega (arith, linear, l, s)))
      | inr below ↦
          let z : n ≡ 0 = none_under n e x below is in
          let y : m ≡ 0 = root_zero m (omega (arith, root.at_most, z)) in
          let f = most_below K x D C r.scale below in
          (λ t. omega (arith, linear, f.0 t, r.squared, y), λ l. f.1 (omega (arith, linear, l, r.squared, y)))
    ]

pub least_is : (K D e x : ℤ) (n m : ℕ) (C : ℤ) → IsRooted K D e → pos n ≡ at_least_zero (under_root e x) → IsRootUp n m → IsTrue (at_least K C x D) ↔ ((x +ℤ e *ℤ e +ℤ pos m) ≤ℤ C)
least_is K D e x n m C r is root =
    elim (le_or_lt (pos 0) x) [
      | inl fine ↦
          let u : pos n ≡ under_root (r.r *ℤ D) x = is ∙ under_same e x fine ∙ ap (λ (z : ℤ). under_root z x) r.is in
          let f = least_at_least K r.r x D C n m r.root fine u root in
          let s : square e ≡ square (r.r *ℤ D) = ap square r.is in
          (λ t. omega (arith, linear, f.0 t, s), λ l. f.1 (omega (arith, linear, l, s)))
      | inr below ↦
          let z : n ≡ 0 = none_under n e x below is in
          let y : m ≡ 0 = (let k : m ≤ 0 = root.least 0 (omega (arith, z)) in omega arith) in
          let f = least_below K x D C r.scale below in
          (λ t. omega (arith, linear, f.0 t, r.squared, y), λ l. f.1 (omega (arith, linear, l, r.squared, y)))
    ]

from_square : (e y : ℤ) → (e *ℤ e) ≤ℤ y → pos 0 ≤ℤ y
from_square e y h = omega (arith, linear, square_nonneg e)

pub reach_is : (K D e y : ℤ) (n m : ℕ) (C : ℤ) → IsRooted K D e → (e *ℤ e) ≤ℤ y → pos n ≡ at_least_zero (under_root e y) → IsRootUp n m → pos 0 ≤ℤ C → IsTrue (at_least K y C D) ↔ (C ≤ℤ (y +ℤ e *ℤ e -ℤ pos m))
reach_is K D e y n m C r h is root p =
    let u : pos n ≡ under_root (r.r *ℤ D) y = is ∙ under_same e y (from_square e y h) ∙ ap (λ (z : ℤ). under_root z y) r.is in
    let s : square e ≡ square (r.r *ℤ D) = ap square r.is in
    let f = greatest_at_least K r.r y D C n m r.root (omega (arith, linear, h, s)) u root p in
    (λ t. omega (arith, linear, f.0.0 t, s), λ l. f.0.1 (omega (arith, linear, l, s)))

pub no_reach : (K D e y : ℤ) (C : ℤ) → IsRooted K D e → y <ℤ (e *ℤ e) → pos 0 ≤ℤ C → IsTrue (at_least K y C D) ↔ (C ≤ℤ negsuc 0)
no_reach K D e y C r h p =
    let s : square e ≡ square (r.r *ℤ D) = ap square r.is in
    (λ t. absurd (no_at_least K r.r y D C r.root (omega (arith, linear, h, s)) p t), λ l. absurd (omega (arith, linear)))

pub apart_is : (K D e y : ℤ) (n m : ℕ) (C : ℤ) → IsRooted K D e → (e *ℤ e) ≤ℤ y → pos n ≡ at_least_zero (under_root e y) → IsRootDown n m → pos 0 ≤ℤ C → (IsTrue (at_most K y C D) ↔ ((y +ℤ e *ℤ e -ℤ pos m) ≤ℤ C)) × (pos 0 ≤ℤ (y +ℤ e *ℤ e -ℤ pos m))
apart_is K D e y n m C r h is root p =
    let u : pos n ≡ under_root (r.r *ℤ D) y = is ∙ under_same e y (from_square e y h) ∙ ap (λ (z : ℤ). under_root z y) r.is in
    let s : square e ≡ square (r.r *ℤ D) = ap square r.is in
    let f = least_at_most K r.r y D C n m r.root (omega (arith, linear, h, s)) u root p in
    ((λ t. omega (arith, linear, f.0.0 t, s), λ l. f.0.1 (omega (arith, linear, l, s))), omega (arith, linear, f.1, s))

pub all_apart : (K D e y : ℤ) (C : ℤ) → IsRooted K D e → y <ℤ (e *ℤ e) → pos 0 ≤ℤ C → IsTrue (at_most K y C D) ↔ (pos 0 ≤ℤ C)
all_apart K D e y C r h p =
    let s : square e ≡ square (r.r *ℤ D) = ap square r.is in
    (λ t. p, λ l. each_at_most K r.r y D C r.root (omega (arith, linear, h, s)) p)

-- ---- bounds as tests
pub up_to : (t : Bool) (bound C : ℤ) → IsTrue t ↔ (C ≤ℤ bound) → IsTrue t ↔ IsTrue (int_le C bound)
up_to t bound C h = (λ x. let l = h.0 x in omega (arith, linear, l), λ x. h.1 (omega (arith, linear, x)))

pub from_on : (t : Bool) (bound C : ℤ) → IsTrue t ↔ (bound ≤ℤ C) → IsTrue t ↔ IsTrue (int_le bound C)
from_on t bound C h = (λ x. let l = h.0 x in omega (arith, linear, l), λ x. h.1 (omega (arith, linear, x)))

pub from_zero_on : (t : Bool) (bound most C : ℤ) → most ≡ int_max bound (pos 0) → pos 0 ≤ℤ C → IsTrue t ↔ (bound ≤ℤ C) → IsTrue t ↔ IsTrue (int_le most C)
from_zero_on t bound most C e p h =
    let m : (int_max bound (pos 0) ≤ℤ C) ↔ (bound ≤ℤ C) = (λ l. grind (arith, linear), λ l. grind (arith, linear)) in (
      λ x. let l = m.1 (h.0 x) in omega (arith, linear, l, e),
      λ x. h.1 (m.0 (omega (arith, linear, x, e))),
    )
