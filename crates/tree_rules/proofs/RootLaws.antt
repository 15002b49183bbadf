-- One root gives the greatest or the least square that is at most, or at least, another plus D.
use Rattle.std.proofs.Common.{◌≡◌, ◌⊎◌, inl, inr, ℕ, refl, sym, ap, ◌∙◌, subst, arith, ℤ, pos, negsuc, ◌+ℤ◌, ◌-ℤ◌, ◌*ℤ◌, ◌≤ℤ◌, IsTrue}
use Rattle.std.proofs.lemmas.Int.{ints}
use Rattle.integer_laws.proofs.Ring.{linear, mul_add, add_mul, mul_neg, mul_assoc, mul_comm, mul_le_left, le_or_lt, square_nonneg, square_le, square_lt, le_of_square, mul_zero}
use Rattle.gas_model.specs.Curves.{square, excess, at_most, at_least}
use Rattle.gas_units.specs.Rounds.{IsRootDown, IsRootUp}
use Rattle.tree_rules.specs.TightestRoots.{under_root, GreatestAtMost, LeastAtLeast, GreatestAtLeast, NoAtLeast, LeastAtMost, EachAtMost}
use Rattle.tree_rules.proofs.CurveLaws.{square_scale, at_least_says, at_most_says, at_least_from, at_most_from}

-- ---- the tests at the scale K, in numbers with r * D for D
-- how far y exceeds x + e^2
abbrev pub above : (y x e : ℤ) → ℤ
above y x e = y -ℤ x -ℤ square e

root_square : (K r D : ℤ) → K ≡ r *ℤ r → K *ℤ square D ≡ square (r *ℤ D)
root_square K r D e = ap (λ (z : ℤ). z *ℤ square D) e ∙ sym (square_scale r D)

scaled_bound : (K r x D : ℤ) → K ≡ r *ℤ r → pos 4 *ℤ square D *ℤ (K *ℤ x) ≡ under_root (r *ℤ D) x
scaled_bound K r x D e =
    let turned : pos 4 *ℤ square D *ℤ (K *ℤ x) ≡ pos 4 *ℤ (K *ℤ square D) *ℤ x = grind (arith, mul_assoc, mul_comm) in
    turned ∙ ap (λ (z : ℤ). pos 4 *ℤ z *ℤ x) (root_square K r D e)

scaled_above : (K r y x D : ℤ) → K ≡ r *ℤ r → excess K y x D ≡ above y x (r *ℤ D)
scaled_above K r y x D e = ap (λ (z : ℤ). y -ℤ x -ℤ z) (root_square K r D e)

most_says : (K r y x D : ℤ) → K ≡ r *ℤ r → IsTrue (at_most K y x D) → (above y x (r *ℤ D) ≤ℤ pos 0) ⊎ (square (above y x (r *ℤ D)) ≤ℤ under_root (r *ℤ D) x)
most_says K r y x D e h = rw (← scaled_above K r y x D e, ← scaled_bound K r x D e) (at_most_says K y x D h)

most_from : (K r y x D : ℤ) → K ≡ r *ℤ r → (above y x (r *ℤ D) ≤ℤ pos 0) ⊎ (square (above y x (r *ℤ D)) ≤ℤ under_root (r *ℤ D) x) → IsTrue (at_most K y x D)
most_from K r y x D e h = at_most_from K y x D (rw (scaled_above K r y x D e, scaled_bound K r x D e) h)

least_says : (K r y x D : ℤ) → K ≡ r *ℤ r → IsTrue (at_least K y x D) → (pos 0 ≤ℤ above y x (r *ℤ D)) × (under_root (r *ℤ D) x ≤ℤ square (above y x (r *ℤ D)))
least_says K r y x D e h = rw (← scaled_above K r y x D e, ← scaled_bound K r x D e) (at_least_says K y x D h)

least_from : (K r y x D : ℤ) → K ≡ r *ℤ r → pos 0 ≤ℤ above y x (r *ℤ D) → under_root (r *ℤ D) x ≤ℤ square (above y x (r *ℤ D)) → IsTrue (at_least K y x D)
least_from K r y x D e p q = at_least_from K y x D (rw (scaled_above K r y x D e) p) (rw (scaled_above K r y x D e, scaled_bound K r x D e) q)

-- ---- roots among all whole numbers
-- m is the greatest number whose square is at most n
record RootDown (n m : ℤ) : Type 0 where
  natural : pos 0 ≤ℤ m
  at_most : square m ≤ℤ n
  greatest : (s : ℤ) → square s ≤ℤ n → s ≤ℤ m

-- m is the least natural number whose square is at least n
record RootUp (n m : ℤ) : Type 0 where
  natural : pos 0 ≤ℤ m
  at_least : n ≤ℤ square m
  least : (s : ℤ) → pos 0 ≤ℤ s → n ≤ℤ square s → m ≤ℤ s

down_is : (n r : ℕ) → IsRootDown n r → RootDown (pos n) (pos r)
down_is n r h = record {
  natural = omega (arith, linear);
  at_most = omega (arith, linear, h.at_most);
  greatest = λ s l. greatest n r h s l;
}
  where
    greatest : (n r : ℕ) → IsRootDown n r → (s : ℤ) → square s ≤ℤ pos n → s ≤ℤ pos r
    greatest n r h (pos k) l = omega (arith, linear, h.greatest k (omega (arith, linear, l)))
    greatest n r h (negsuc k) l = omega (arith, linear)

up_is : (n r : ℕ) → IsRootUp n r → RootUp (pos n) (pos r)
up_is n r h = record {
  natural = omega (arith, linear);
  at_least = omega (arith, linear, h.at_least);
  least = λ s p l. least n r h s p l;
}
  where
    least : (n r : ℕ) → IsRootUp n r → (s : ℤ) → pos 0 ≤ℤ s → pos n ≤ℤ square s → pos r ≤ℤ s
    least n r h (pos k) p l = omega (arith, linear, h.least k (omega (arith, linear, l)))
    least n r h (negsuc k) p l = absurd (omega (arith, linear))

down_of : (n m : ℕ) (z : ℤ) → pos n ≡ z → IsRootDown n m → RootDown z (pos m)
down_of n m z e h = subst (λ (x : ℤ). RootDown x (pos m)) e (down_is n m h)

up_of : (n m : ℕ) (z : ℤ) → pos n ≡ z → IsRootUp n m → RootUp z (pos m)
up_of n m z e h = subst (λ (x : ℤ). RootUp x (pos m)) e (up_is n m h)

-- ---- a number against a root
-- t is at most the root of n where it isn't positive, or its square is at most n
under_down : (n m t : ℤ) → RootDown n m → (t ≤ℤ pos 0) ⊎ (square t ≤ℤ n) → t ≤ℤ m
under_down n m t h (inl p) = omega (arith, linear, h.natural)
under_down n m t h (inr p) = h.greatest t p

down_over : (n m t : ℤ) → RootDown n m → t ≤ℤ m → (t ≤ℤ pos 0) ⊎ (square t ≤ℤ n)
down_over n m t h p = elim (le_or_lt t (pos 0)) [ inl none ↦ inl none | inr some ↦ let s = square_le t m (omega (arith, linear)) p in inr (omega (arith, linear, h.at_most)) ]

up_over : (n m t : ℤ) → RootUp n m → m ≤ℤ t → n ≤ℤ square t
up_over n m t h p = let s = square_le m t h.natural p in omega (arith, linear, h.at_least)

-- ---- the square y turned about e^2
-- four times a number
four_is : (z : ℤ) → pos 4 *ℤ z ≡ z +ℤ z +ℤ z +ℤ z
four_is z = omega (arith, ints)

under_is : (e x : ℤ) → under_root e x ≡ square e *ℤ x +ℤ square e *ℤ x +ℤ square e *ℤ x +ℤ square e *ℤ x
under_is e x = mul_assoc (pos 4) (square e) x ∙ four_is (square e *ℤ x)

-- with E for e^2: (y + E - C)^2 + 4 E C = (y - C - E)^2 + 4 E y
abbrev pub turned : (y C e : ℤ) → ℤ
turned y C e = y +ℤ square e -ℤ C

twice_square : (t E : ℤ) → square (t +ℤ E +ℤ E) ≡ square t +ℤ (E *ℤ t +ℤ E *ℤ t +ℤ E *ℤ t +ℤ E *ℤ t) +ℤ (E *ℤ E +ℤ E *ℤ E +ℤ E *ℤ E +ℤ E *ℤ E)
twice_square t E = simp (mul_add, add_mul) (omega (arith, linear, mul_comm t E))

turned_square : (y C e : ℤ) → square (turned y C e) +ℤ under_root e C ≡ square (above y C e) +ℤ under_root e y
turned_square y C e =
    let E = square e in
    let t = above y C e in
    let w : turned y C e ≡ t +ℤ E +ℤ E = omega (arith, linear) in
    let s : square (turned y C e) ≡ square (t +ℤ E +ℤ E) = ap square w in
    let spread : E *ℤ t ≡ E *ℤ y -ℤ E *ℤ C -ℤ E *ℤ E = simp (mul_add, mul_neg) refl in
    omega (arith, linear, s, twice_square t E, spread, under_is e C, under_is e y)

-- where y is at least e^2, so is its bound
under_self : (y e : ℤ) → square e ≤ℤ y → square (square e +ℤ square e) ≤ℤ under_root e y
under_self y e h =
    let E = square e in
    let m = mul_le_left E E y (square_nonneg e) h in
    let s : square (E +ℤ E) ≡ E *ℤ E +ℤ E *ℤ E +ℤ E *ℤ E +ℤ E *ℤ E = simp (mul_add, add_mul) (omega (arith, linear)) in
    omega (arith, linear, s, m, under_is e y)

-- the square of y + e^2 is at least the bound
under_sum : (y e : ℤ) → under_root e y ≤ℤ square (y +ℤ square e)
under_sum y e =
    let t = turned_square y (pos 0) e in
    let same : turned y (pos 0) e ≡ y +ℤ square e = omega (arith, linear) in
    let none : under_root e (pos 0) ≡ pos 0 = mul_zero (pos 4 *ℤ square e) in
    omega (arith, linear, t, ap square same, none, square_nonneg (above y (pos 0) e))

-- ---- the formulas
pub greatest_at_most : GreatestAtMost
greatest_at_most K r x D C n k e p u root =
    let m = pos k in
    let h = down_of n k (under_root (r *ℤ D) x) u root in (
      λ t. let s = under_down (under_root (r *ℤ D) x) m (above C x (r *ℤ D)) h (most_says K r C x D e t) in omega (arith, linear),
      λ l. most_from K r C x D e (down_over (under_root (r *ℤ D) x) m (above C x (r *ℤ D)) h (omega (arith, linear))),
    )

pub least_at_least : LeastAtLeast
least_at_least K r x D C n k e p u root =
    let m = pos k in
    let h = up_of n k (under_root (r *ℤ D) x) u root in (
      λ t. let s = least_says K r C x D e t in let l = h.least (above C x (r *ℤ D)) s.0 s.1 in omega (arith, linear),
      λ l. least_from K r C x D e (omega (arith, linear, h.natural)) (up_over (under_root (r *ℤ D) x) m (above C x (r *ℤ D)) h (omega (arith, linear))),
    )

-- the root of the bound is at most y + e^2
root_up_sum : (y e m : ℤ) → square e ≤ℤ y → RootUp (under_root e y) m → m ≤ℤ (y +ℤ square e)
root_up_sum y e m h k = k.least (y +ℤ square e) (omega (arith, linear, square_nonneg e)) (under_sum y e)

root_down_sum : (y e m : ℤ) → square e ≤ℤ y → RootDown (under_root e y) m → m ≤ℤ (y +ℤ square e)
root_down_sum y e m h k = le_of_square m (y +ℤ square e) (omega (arith, linear, square_nonneg e)) (omega (arith, linear, k.at_most, under_sum y e))

at_least_down : (y C e m : ℤ) → square e ≤ℤ y → RootUp (under_root e y) m → pos 0 ≤ℤ above y C e → under_root e C ≤ℤ square (above y C e) → m ≤ℤ turned y C e
at_least_down y C e m h k p q = k.least (turned y C e) (omega (arith, linear, square_nonneg e)) (omega (arith, linear, turned_square y C e))

-- a square that turns to at least the root lies below y by e^2
not_over : (y C e m : ℤ) → square e ≤ℤ y → RootUp (under_root e y) m → m ≤ℤ turned y C e → pos 0 ≤ℤ above y C e
not_over y C e m h k l =
    elim (le_or_lt (pos 0) (above y C e)) [
      | inl fine ↦ fine
      | inr less ↦
          let w = up_over (under_root e y) m (turned y C e) k l in
          let s = square_lt (turned y C e) (square e +ℤ square e) (omega (arith, linear, k.natural)) (omega (arith, linear)) in
          absurd (omega (arith, linear, under_self y e h))
    ]

pub greatest_at_least : GreatestAtLeast
greatest_at_least K r y D C n j same h u root p =
    let e = r *ℤ D in
    let m = pos j in
    let k = up_of n j (under_root e y) u root in (
      (
        λ t. let s = least_says K r y C D same t in let l = at_least_down y C e m h k s.0 s.1 in omega (arith, linear),
        λ l. let w : m ≤ℤ turned y C e = omega (arith, linear) in
            least_from K r y C D same (not_over y C e m h k w) (omega (arith, linear, up_over (under_root e y) m (turned y C e) k w, turned_square y C e)),
      ),
      omega (arith, linear, root_up_sum y e m h k),
    )

pub no_at_least : NoAtLeast
no_at_least K r y D C same h p t = let s = least_says K r y C D same t in omega (arith, linear, s.0)

at_most_up : (y C e m : ℤ) → square e ≤ℤ y → RootDown (under_root e y) m → (above y C e ≤ℤ pos 0) ⊎ (square (above y C e) ≤ℤ under_root e C) → turned y C e ≤ℤ m
at_most_up y C e m h k (inl p) = omega (arith, linear, k.greatest (square e +ℤ square e) (under_self y e h))
at_most_up y C e m h k (inr p) = k.greatest (turned y C e) (omega (arith, linear, turned_square y C e))

at_most_down : (y C e m : ℤ) → RootDown (under_root e y) m → turned y C e ≤ℤ m → (above y C e ≤ℤ pos 0) ⊎ (square (above y C e) ≤ℤ under_root e C)
at_most_down y C e m k l =
    elim (le_or_lt (above y C e) (pos 0)) [
      | inl fine ↦ inl fine
      | inr more ↦
          let s = square_le (turned y C e) m (omega (arith, linear, square_nonneg e)) l in
          inr (omega (arith, linear, k.at_most, turned_square y C e))
    ]

pub least_at_most : LeastAtMost
least_at_most K r y D C n j same h u root p =
    let e = r *ℤ D in
    let m = pos j in
    let k = down_of n j (under_root e y) u root in (
      (
        λ t. let l = at_most_up y C e m h k (most_says K r y C D same t) in omega (arith, linear),
        λ l. most_from K r y C D same (at_most_down y C e m k (omega (arith, linear))),
      ),
      omega (arith, linear, root_down_sum y e m h k),
    )

pub each_at_most : EachAtMost
each_at_most K r y D C same h p = most_from K r y C D same (inl (omega (arith, linear)))
