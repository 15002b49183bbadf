-- Whole numbers as an ordered ring: products, order, squares, and positive factors that cancel.
use Rattle.std.proofs.Common.{◌≡◌, ℕ, zero, suc, ◌+◌, ◌*◌, ◌<◌, ◌≤◌, ◌⊎◌, inl, inr, sym, ap, ◌∙◌, arith, ℤ, pos, negsuc, ◌+ℤ◌, ◌-ℤ◌, ◌*ℤ◌, neg_ℤ, ◌≤ℤ◌, ◌<ℤ◌, true, false, int_le, int_lt}
use Rattle.std.proofs.lemmas.Int.{ints}
use borrow.Author.Differences.{up, down, product_is, sum_is_lem, neg_is, same_in, same_out, fits_out, lt_T, le_T, lt_out, le_out, lt_in, le_in, below_in, at_most_in, lt-true, lt-false, le-true, le-false, Apart-out, fits_in, back_is, true_is_le, false_is_le, true_is_lt, false_is_lt}

-- tests, from the facts that they test
pub le_true : (a b : ℤ) → up a + down b ≤ up b + down a → int_le a b ≡ true
le_true a b h = sym (true_is_le a b h)

pub le_false : (a b : ℤ) → up b + down a < up a + down b → int_le a b ≡ false
le_false a b h = sym (false_is_le a b h)

pub lt_true : (a b : ℤ) → up a + down b < up b + down a → int_lt a b ≡ true
lt_true a b h = sym (true_is_lt a b h)

pub lt_false : (a b : ℤ) → up b + down a ≤ up a + down b → int_lt a b ≡ false
lt_false a b h = sym (false_is_lt a b h)

-- linear arithmetic over ℤ, where a product is an unknown
pub ruleset linear = (le_true, le_false, lt_true, lt_false, fits_out, same_out, Apart-out, lt_T, le_T, lt-true, lt-false, le-true, le-false, lt_out, le_out, fits_in, same_in, lt_in, le_in, below_in, at_most_in, sum_is_lem, neg_is, back_is)

times : (k : ℕ) {a b : ℕ} → a ≡ b → k * a ≡ k * b
times k e = ap (λ (x : ℕ). k * x) e

pub mul_comm : (a b : ℤ) → a *ℤ b ≡ b *ℤ a
mul_comm a b = omega (arith, ints)

pub mul_add : (a b c : ℤ) → a *ℤ (b +ℤ c) ≡ a *ℤ b +ℤ a *ℤ c
mul_add a b c = omega (arith, ints, times (up a) (sum_is_lem b c), times (down a) (sum_is_lem b c))

pub mul_neg : (a b : ℤ) → a *ℤ neg_ℤ b ≡ neg_ℤ (a *ℤ b)
mul_neg a b = omega (arith, ints, times (up a) (neg_is b).0, times (down a) (neg_is b).0, times (up a) (neg_is b).1, times (down a) (neg_is b).1)

pub mul_assoc : (a b c : ℤ) → (a *ℤ b) *ℤ c ≡ a *ℤ (b *ℤ c)
mul_assoc a b c = omega (arith, ints, times (up a) (product_is b c).0, times (down a) (product_is b c).0, times (up a) (product_is b c).1, times (down a) (product_is b c).1, times (up c) (product_is a b).0, times (down c) (product_is a b).0, times (up c) (product_is a b).1, times (down c) (product_is a b).1)

pub add_mul : (a b c : ℤ) → (a +ℤ b) *ℤ c ≡ a *ℤ c +ℤ b *ℤ c
add_mul a b c = omega (arith, linear, mul_comm (a +ℤ b) c, mul_add c a b, mul_comm a c, mul_comm b c)

pub mul_sub : (a b c : ℤ) → a *ℤ (b -ℤ c) ≡ a *ℤ b -ℤ a *ℤ c
mul_sub a b c = omega (arith, linear, mul_add a b (neg_ℤ c), mul_neg a c)

pub sub_mul : (a b c : ℤ) → (a -ℤ b) *ℤ c ≡ a *ℤ c -ℤ b *ℤ c
sub_mul a b c = omega (arith, linear, mul_comm (a -ℤ b) c, mul_sub c a b, mul_comm a c, mul_comm b c)

pub neg_mul : (a b : ℤ) → neg_ℤ a *ℤ b ≡ neg_ℤ (a *ℤ b)
neg_mul a b = omega (arith, linear, mul_comm (neg_ℤ a) b, mul_neg b a, mul_comm a b)

-- the same factor on the left of both
pub mul_left_comm : (a b c : ℤ) → a *ℤ (b *ℤ c) ≡ b *ℤ (a *ℤ c)
mul_left_comm a b c = sym (mul_assoc a b c) ∙ ap (λ (x : ℤ). x *ℤ c) (mul_comm a b) ∙ mul_assoc b a c

-- ---- order
pub mul_nonneg : (a b : ℤ) → pos 0 ≤ℤ a → pos 0 ≤ℤ b → pos 0 ≤ℤ (a *ℤ b)
mul_nonneg (pos a) (pos b) p q = omega (arith, ints)
mul_nonneg (pos a) (negsuc b) p q = absurd (omega (arith, ints))
mul_nonneg (negsuc a) b p q = absurd (omega (arith, ints))

pub mul_pos : (a b : ℤ) → pos 0 <ℤ a → pos 0 <ℤ b → pos 0 <ℤ (a *ℤ b)
mul_pos (pos (suc a)) (pos (suc b)) p q = omega (arith, ints)
mul_pos (pos zero) b p q = absurd (omega (arith, ints))
mul_pos (pos (suc a)) (pos zero) p q = absurd (omega (arith, ints))
mul_pos (pos (suc a)) (negsuc b) p q = absurd (omega (arith, ints))
mul_pos (negsuc a) b p q = absurd (omega (arith, ints))

pub mul_le_left : (k a b : ℤ) → pos 0 ≤ℤ k → a ≤ℤ b → (k *ℤ a) ≤ℤ (k *ℤ b)
mul_le_left k a b p h = let n : pos 0 ≤ℤ (k *ℤ (b -ℤ a)) = mul_nonneg k (b -ℤ a) p (omega (arith, linear)) in omega (arith, linear, mul_sub k b a)

pub mul_lt_left : (k a b : ℤ) → pos 0 <ℤ k → a <ℤ b → (k *ℤ a) <ℤ (k *ℤ b)
mul_lt_left k a b p h = let n : pos 0 <ℤ (k *ℤ (b -ℤ a)) = mul_pos k (b -ℤ a) p (omega (arith, linear)) in omega (arith, linear, mul_sub k b a)

pub le_or_lt : (a b : ℤ) → (a ≤ℤ b) ⊎ (b <ℤ a)
le_or_lt a b = grind (arith, linear)

-- a positive factor is taken away
pub le_of_mul_left : (k a b : ℤ) → pos 0 <ℤ k → (k *ℤ a) ≤ℤ (k *ℤ b) → a ≤ℤ b
le_of_mul_left k a b p h = elim (le_or_lt a b) [ inl y ↦ y | inr n ↦ let m : (k *ℤ b) <ℤ (k *ℤ a) = mul_lt_left k b a p n in absurd (omega (arith, linear)) ]

pub lt_of_mul_left : (k a b : ℤ) → pos 0 ≤ℤ k → (k *ℤ a) <ℤ (k *ℤ b) → a <ℤ b
lt_of_mul_left k a b p h = elim (le_or_lt b a) [ inr y ↦ y | inl n ↦ let m : (k *ℤ b) ≤ℤ (k *ℤ a) = mul_le_left k b a p n in absurd (omega (arith, linear)) ]

pub mul_le_right : (k a b : ℤ) → pos 0 ≤ℤ k → a ≤ℤ b → (a *ℤ k) ≤ℤ (b *ℤ k)
mul_le_right k a b p h = let m : (k *ℤ a) ≤ℤ (k *ℤ b) = mul_le_left k a b p h in omega (arith, linear, mul_comm a k, mul_comm b k)

pub mul_lt_right : (k a b : ℤ) → pos 0 <ℤ k → a <ℤ b → (a *ℤ k) <ℤ (b *ℤ k)
mul_lt_right k a b p h = let m : (k *ℤ a) <ℤ (k *ℤ b) = mul_lt_left k a b p h in omega (arith, linear, mul_comm a k, mul_comm b k)

-- squares
pub square_nonneg : (a : ℤ) → pos 0 ≤ℤ (a *ℤ a)
square_nonneg (pos n) = omega (arith, ints)
square_nonneg (negsuc n) = omega (arith, ints)

pub square_le : (a b : ℤ) → pos 0 ≤ℤ a → a ≤ℤ b → (a *ℤ a) ≤ℤ (b *ℤ b)
square_le a b p h = let m : (a *ℤ a) ≤ℤ (a *ℤ b) = mul_le_left a a b p h in let n : (a *ℤ b) ≤ℤ (b *ℤ b) = mul_le_right b a b (omega (arith, linear)) h in omega (arith, linear)

pub square_lt : (a b : ℤ) → pos 0 ≤ℤ a → a <ℤ b → (a *ℤ a) <ℤ (b *ℤ b)
square_lt a b p h = let m : (a *ℤ a) ≤ℤ (a *ℤ b) = mul_le_left a a b p (omega (arith, linear)) in let n : (a *ℤ b) <ℤ (b *ℤ b) = mul_lt_right b a b (omega (arith, linear)) h in omega (arith, linear)

pub le_of_square : (a b : ℤ) → pos 0 ≤ℤ b → (a *ℤ a) ≤ℤ (b *ℤ b) → a ≤ℤ b
le_of_square a b p h = elim (le_or_lt a b) [ inl y ↦ y | inr n ↦ let m : (b *ℤ b) <ℤ (a *ℤ a) = square_lt b a p n in absurd (omega (arith, linear)) ]

-- (k * a) * (m * b) = (k * m) * (a * b)
pub mul_mul_comm : (k a m b : ℤ) → (k *ℤ a) *ℤ (m *ℤ b) ≡ (k *ℤ m) *ℤ (a *ℤ b)
mul_mul_comm k a m b = mul_assoc k a (m *ℤ b) ∙ ap (λ (x : ℤ). k *ℤ x) (mul_left_comm a m b) ∙ sym (mul_assoc k m (a *ℤ b))

pub one_mul : (a : ℤ) → pos 1 *ℤ a ≡ a
one_mul a = omega (arith, ints)

pub zero_mul : (a : ℤ) → pos 0 *ℤ a ≡ pos 0
zero_mul a = omega (arith, ints)

pub mul_zero : (a : ℤ) → a *ℤ pos 0 ≡ pos 0
mul_zero a = mul_comm a (pos 0) ∙ zero_mul a

pub le_test : (a b : ℤ) → a ≤ℤ b → int_le a b ≡ true
le_test a b h = omega (arith, linear)

pub not_le_test : (a b : ℤ) → b <ℤ a → int_le a b ≡ false
not_le_test a b h = omega (arith, linear)

-- a test of two multiples
pub le_scale : (k a b : ℤ) → pos 0 <ℤ k → int_le (k *ℤ a) (k *ℤ b) ≡ int_le a b
le_scale k a b h =
    elim (le_or_lt a b) [
      | inl y ↦ let m = mul_le_left k a b (omega (arith, linear)) y in le_test (k *ℤ a) (k *ℤ b) m ∙ sym (le_test a b y)
      | inr n ↦ let m = mul_lt_left k b a h n in not_le_test (k *ℤ a) (k *ℤ b) m ∙ sym (not_le_test a b n)
    ]

pub mul_one : (a : ℤ) → a *ℤ pos 1 ≡ a
mul_one a = mul_comm a (pos 1) ∙ one_mul a
