-- Rounding of decimals to the grid.
use Rattle.std.proofs.Common.{◌≡◌, ℕ, ◌+◌, ◌*◌, ◌/◌, ◌%◌, ◌^◌, ◌<◌, ◌≤◌, Bool, true, false, not, ◌&&◌, cond, refl, sym, ap, subst, ◌∙◌, ◌⊎◌, inl, inr, arith, ℤ, pos, negsuc, neg_ℤ, ◌+ℤ◌, ◌*ℤ◌, ◌≤ℤ◌, ◌<ℤ◌, mul-le-mul_left}
use Rattle.std.specs.Prelude.{◌==◌}
use Rattle.std.specs.Int.{int_div_euclid, int_rem_euclid}
use Rattle.std.proofs.lemmas.Int.{ints}
use Rattle.std.proofs.lemmas.Bool.{eqb-true, eqb-false}
use Rattle.integer_laws.proofs.Ring.{linear, add_mul, neg_mul, one_mul, lt_of_mul_left, mul_comm, mul_one, le_or_lt}
use Rattle.gas_units.specs.Rounds.{IsFloor, IsCeiling}
use Rattle.gas_units.specs.declared.grid.Side.{Side}
use Rattle.gas_units.specs.declared.grid.Side.TheVariants.{Down, Up}
use Rattle.gas_units.specs.declared.grid.Size.{Size}
use Rattle.gas_units.specs.Decimals.{signed}
use Rattle.gas_units.specs.declared.decimal.Decimal.{Decimal}
use Rattle.gas_units.specs.declared.grid.Unit.{Unit}
use Rattle.gas_units.specs.declared.grid.Unit.TheVariants.{Bar, Barg, Pa, KiloCube, Cube}
use Rattle.gas_units.specs.Grid.{IsSize, Rounds, signed_size, is_away, up_part, down_part, place, den, num, unit_offset, IsPast, IsGrid, IsWithin, IsFar, grid_value, GridValueRounds}
use Rattle.gas_units.proofs.Sizes.{pow_most}
use Rattle.gas_units.proofs.Quotients.{euclid_divides, floor_is}

pub divided : (n d : ℕ) → 0 < d → n / d < 10 ^ 38 → IsSize n d (record { whole = n / d; is_exact = (n % d) == 0 })
divided n d some small = record {
  at_most = omega arith;
  greatest = omega arith;
  exact = λ e. let k : n % d ≡ 0 = eqb-true _ _ e in omega arith;
  rest = λ e. let k = eqb-false (n % d) 0 e in omega arith;
  small = small;
}

-- a quotient by at least 10
pub quotient_small : (n d : ℕ) → 10 ≤ d → n < 2 ^ 128 → n / d < 10 ^ 38
quotient_small n d ge lt =
    let m : (n / d) * 10 ≤ (n / d) * d = mul-le-mul_left (n / d) ge in
    omega (arith, m)

floor_of : (N D W O : ℤ) → (W *ℤ D) ≤ℤ N → N <ℤ (W *ℤ D +ℤ D) → IsFloor (N +ℤ O *ℤ D) D (W +ℤ O)
floor_of N D W O p q = record { at_most = omega (arith, linear, add_mul W O D); greatest = omega (arith, linear, add_mul W O D) }

ceiling_of : (N D W O : ℤ) → N ≤ℤ (W *ℤ D) → (W *ℤ D) <ℤ (N +ℤ D) → IsCeiling (N +ℤ O *ℤ D) D (W +ℤ O)
ceiling_of N D W O p q = record { at_least = omega (arith, linear, add_mul W O D); least = omega (arith, linear, add_mul W O D) }

pos_mul : (a b : ℕ) → pos a *ℤ pos b ≡ pos (a * b)
pos_mul a b = omega (arith, ints)

next_mul : (w d : ℕ) → (w + 1) * d ≡ w * d + d
next_mul w d = omega arith

neg_pos_mul : (a b : ℕ) → neg_ℤ (pos a) *ℤ pos b ≡ neg_ℤ (pos (a * b))
neg_pos_mul a b = neg_mul (pos a) (pos b) ∙ ap neg_ℤ (pos_mul a b)

module _ (n d o : ℕ) (s : Size) (h : IsSize n d s) where
  some : 0 < d
  some = omega (arith, h.at_most, h.greatest)

  down : IsFloor (pos n +ℤ pos o *ℤ pos d) (pos d) (pos s.whole +ℤ pos o)
  down = floor_of (pos n) (pos d) (pos s.whole) (pos o) (omega (arith, linear, pos_mul s.whole d, h.at_most)) (omega (arith, linear, pos_mul s.whole d, h.greatest))

  up_exact : s.is_exact ≡ true → IsCeiling (pos n +ℤ pos o *ℤ pos d) (pos d) (pos s.whole +ℤ pos o)
  up_exact e = let k = h.exact e in let t = some in ceiling_of (pos n) (pos d) (pos s.whole) (pos o) (omega (arith, linear, pos_mul s.whole d, k)) (omega (arith, linear, pos_mul s.whole d, k, t))

  up_rest : s.is_exact ≡ false → IsCeiling (pos n +ℤ pos o *ℤ pos d) (pos d) (pos (s.whole + 1) +ℤ pos o)
  up_rest e = let k = h.rest e in let g = h.greatest in
      ceiling_of (pos n) (pos d) (pos (s.whole + 1)) (pos o) (omega (arith, linear, pos_mul (s.whole + 1) d, next_mul s.whole d, g)) (omega (arith, linear, pos_mul (s.whole + 1) d, next_mul s.whole d, k))

  neg_up : IsCeiling (neg_ℤ (pos n) +ℤ pos o *ℤ pos d) (pos d) (neg_ℤ (pos s.whole) +ℤ pos o)
  neg_up = let a = h.at_most in let g = h.greatest in
      ceiling_of (neg_ℤ (pos n)) (pos d) (neg_ℤ (pos s.whole)) (pos o) (omega (arith, linear, neg_pos_mul s.whole d, a)) (omega (arith, linear, neg_pos_mul s.whole d, g))

  neg_exact : s.is_exact ≡ true → IsFloor (neg_ℤ (pos n) +ℤ pos o *ℤ pos d) (pos d) (neg_ℤ (pos s.whole) +ℤ pos o)
  neg_exact e = let k = h.exact e in let t = some in
      floor_of (neg_ℤ (pos n)) (pos d) (neg_ℤ (pos s.whole)) (pos o) (omega (arith, linear, neg_pos_mul s.whole d, k)) (omega (arith, linear, neg_pos_mul s.whole d, k, t))

  neg_rest : s.is_exact ≡ false → IsFloor (neg_ℤ (pos n) +ℤ pos o *ℤ pos d) (pos d) (neg_ℤ (pos (s.whole + 1)) +ℤ pos o)
  neg_rest e = let k = h.rest e in let g = h.greatest in
      floor_of (neg_ℤ (pos n)) (pos d) (neg_ℤ (pos (s.whole + 1))) (pos o) (omega (arith, linear, neg_pos_mul (s.whole + 1) d, next_mul s.whole d, g)) (omega (arith, linear, neg_pos_mul (s.whole + 1) d, next_mul s.whole d, k))

  pub rounded : (negative : Bool) (side : Side) → Rounds side (signed negative n +ℤ pos (o * d)) d (signed_size negative side s +ℤ pos o)
  rounded negative side = rw (← pos_mul o d) (by negative side s.is_exact refl)
    where
      by : (v : Bool) (t : Side) (e : Bool) → s.is_exact ≡ e → Rounds t (signed v n +ℤ pos o *ℤ pos d) d (signed v (cond (not e && is_away v t) (s.whole + 1) s.whole) +ℤ pos o)
      by false Down true e = down
      by false Down false e = down
      by false Up true e = up_exact e
      by false Up false e = up_rest e
      by true Down true e = neg_exact e
      by true Down false e = neg_rest e
      by true Up true e = neg_up
      by true Up false e = neg_up

-- one value only
pub one_floor : (n d p q : ℤ) → pos 0 <ℤ d → IsFloor n d p → IsFloor n d q → p ≡ q
one_floor n d p q some f g =
    let a : (d *ℤ p) <ℤ (d *ℤ (q +ℤ pos 1)) = omega (arith, linear, f.at_most, g.greatest, mul_comm d p, mul_comm d (q +ℤ pos 1), add_mul q (pos 1) d, one_mul d) in
    let b : (d *ℤ q) <ℤ (d *ℤ (p +ℤ pos 1)) = omega (arith, linear, g.at_most, f.greatest, mul_comm d q, mul_comm d (p +ℤ pos 1), add_mul p (pos 1) d, one_mul d) in
    let lo : pos 0 ≤ℤ d = omega (arith, linear, some) in
    omega (arith, linear, lt_of_mul_left d p (q +ℤ pos 1) lo a, lt_of_mul_left d q (p +ℤ pos 1) lo b)

pub one_ceiling : (n d p q : ℤ) → pos 0 <ℤ d → IsCeiling n d p → IsCeiling n d q → p ≡ q
one_ceiling n d p q some f g =
    let a : (d *ℤ p) <ℤ (d *ℤ (q +ℤ pos 1)) = omega (arith, linear, f.least, g.at_least, mul_comm d p, mul_comm d (q +ℤ pos 1), add_mul q (pos 1) d, one_mul d) in
    let b : (d *ℤ q) <ℤ (d *ℤ (p +ℤ pos 1)) = omega (arith, linear, g.least, f.at_least, mul_comm d q, mul_comm d (p +ℤ pos 1), add_mul p (pos 1) d, one_mul d) in
    let lo : pos 0 ≤ℤ d = omega (arith, linear, some) in
    omega (arith, linear, lt_of_mul_left d p (q +ℤ pos 1) lo a, lt_of_mul_left d q (p +ℤ pos 1) lo b)

pub one_rounding : (side : Side) (n : ℤ) (d : ℕ) (p q : ℤ) → 0 < d → Rounds side n d p → Rounds side n d q → p ≡ q
one_rounding Down n d p q some f g = one_floor n (pos d) p q (omega (arith, linear, some)) f g
one_rounding Up n d p q some f g = one_ceiling n (pos d) p q (omega (arith, linear, some)) f g

-- ---- sizes of whole places
pub past_by_place : (n k : ℕ) → 0 < n → 18 < k → 10 ^ 19 ≤ n * 10 ^ k
past_by_place n k some far =
    let p : 10 ^ 19 ≤ 10 ^ k = pow_most 19 k (omega arith) in
    let m : 10 ^ k * 1 ≤ 10 ^ k * n = mul-le-mul_left (10 ^ k) some in
    omega (arith, p, m)

pub past_by_digits : (n k : ℕ) → 10 ^ 19 ≤ n → 10 ^ 19 ≤ n * 10 ^ k
past_by_digits n k far =
    let p : 10 ^ 0 ≤ 10 ^ k = pow_most 0 k (omega arith) in
    let m : n * 1 ≤ n * 10 ^ k = mul-le-mul_left n p in
    omega (arith, far, m)

pub exact_size : (n k : ℕ) → n ≤ 10 ^ 19 → k ≤ 18 → IsSize (n * 10 ^ k) 1 (record { whole = n * 10 ^ k; is_exact = true })
exact_size n k few near =
    let p : 10 ^ k ≤ 10 ^ 18 = pow_most k 18 near in
    let m : n * 10 ^ k ≤ n * 10 ^ 18 = mul-le-mul_left n p in
    record { at_most = omega arith; greatest = omega arith; exact = λ e. omega arith; rest = λ e. absurd cc; small = omega (arith, m) }

-- ---- places below and above the line
pub below_line : (p : ℤ) (n : ℕ) (s : Size) → p ≤ℤ negsuc 0 → IsSize n (10 ^ down_part p) s → IsSize (n * 10 ^ up_part p) (10 ^ down_part p) s
below_line (pos k) n s le h = absurd (omega (arith, linear, le))
below_line (negsuc k) n s le h = let e : n * 1 ≡ n = omega arith in rw e h

pub above_line : (p : ℤ) (n : ℕ) (s : Size) → pos 0 ≤ℤ p → IsSize (n * 10 ^ up_part p) 1 s → IsSize (n * 10 ^ up_part p) (10 ^ down_part p) s
above_line (pos k) n s le h = h
above_line (negsuc k) n s le h = absurd (omega (arith, linear, le))

pub none_down : (p : ℤ) → pos 0 ≤ℤ p → down_part p ≡ 0
none_down (pos k) le = refl
none_down (negsuc k) le = absurd (omega (arith, linear, le))

pub den_some : (p : ℤ) → 0 < 10 ^ down_part p
den_some p = let h : 10 ^ 0 ≤ 10 ^ down_part p = pow_most 0 (down_part p) (omega arith) in omega (arith, h)

-- a size past the grid rounds to no value of it
past_one : (negative : Bool) (side : Side) (n o : ℕ) (q : ℤ) → 10 ^ 19 ≤ n → o ≤ 101325 → Rounds side (signed negative n +ℤ pos (o * 1)) 1 q → IsWithin q → ⊥
past_one true Down n o q far few g w = omega (arith, linear, far, few, g.at_most, g.greatest, w.0, w.1, mul_one q)
past_one true Up n o q far few g w = omega (arith, linear, far, few, g.at_least, g.least, w.0, w.1, mul_one q)
past_one false Down n o q far few g w = omega (arith, linear, far, few, g.at_most, g.greatest, w.0, w.1, mul_one q)
past_one false Up n o q far few g w = omega (arith, linear, far, few, g.at_least, g.least, w.0, w.1, mul_one q)

offset_few : (u : Unit) → unit_offset u ≤ 101325
offset_few Bar = omega arith
offset_few Barg = omega arith
offset_few Pa = omega arith
offset_few KiloCube = omega arith
offset_few Cube = omega arith

pub past_out : (v : Decimal) (u : Unit) (side : Side) (q : ℤ) → IsPast v u → IsGrid side v u q → IsWithin q → ⊥
past_out v u side q p g w =
    past_one v.negative side (v.digits * 10 ^ up_part (place v u)) (unit_offset u) q p.0 (offset_few u)
    (subst (λ (k : ℕ). Rounds side (signed v.negative (v.digits * 10 ^ up_part (place v u)) +ℤ pos (unit_offset u * 10 ^ k)) (10 ^ k) q) p.1 g) w

pub grid_is : (v : Decimal) (u : Unit) (side : Side) (s : Size) → IsSize (v.digits * 10 ^ up_part (place v u)) (den v u) s → IsGrid side v u (signed_size v.negative side s +ℤ pos (unit_offset u))
grid_is v u side s h = rounded (v.digits * 10 ^ up_part (place v u)) (den v u) (unit_offset u) s h v.negative side

pub only_grid : (v : Decimal) (u : Unit) (side : Side) (p q : ℤ) → IsGrid side v u p → IsGrid side v u q → p ≡ q
only_grid v u side p q f g = one_rounding side (num v u) (den v u) p q (den_some (place v u)) f g

-- ---- the whole value as a quotient
quotient_down : (n d : ℤ) → pos 1 ≤ℤ d → IsFloor n d (int_div_euclid n d)
quotient_down n d some = floor_is n d (int_div_euclid n d) (int_rem_euclid n d) (euclid_divides n d some)

turned : (n d q : ℤ) → IsFloor (neg_ℤ n) d q → IsCeiling n d (neg_ℤ q)
turned n d q f = record { at_least = omega (arith, linear, f.at_most, neg_mul q d); least = omega (arith, linear, f.greatest, neg_mul q d) }

pub value_is_grid : (side : Side) (v : Decimal) (u : Unit) → IsGrid side v u (grid_value side v u)
unfolding grid_value
value_is_grid Down v u = quotient_down (num v u) (pos (den v u)) (let h = den_some (place v u) in omega (arith, linear, h))
value_is_grid Up v u = turned (num v u) (pos (den v u)) _ (quotient_down (neg_ℤ (num v u)) (pos (den v u)) (let h = den_some (place v u) in omega (arith, linear, h)))

pub grid_is_value : (side : Side) (v : Decimal) (u : Unit) (q : ℤ) → IsGrid side v u q → q ≡ grid_value side v u
grid_is_value side v u q g = only_grid v u side q (grid_value side v u) g (value_is_grid side v u)

pub grid_value_rounds : GridValueRounds
grid_value_rounds side v u q = (grid_is_value side v u q, λ e. subst (IsGrid side v u) (sym e) (value_is_grid side v u))

-- ---- values past the limits
far_one : (negative : Bool) (side : Side) (n o : ℕ) (q : ℤ) → 10 ^ 19 ≤ n → o ≤ 101325 → Rounds side (signed negative n +ℤ pos (o * 1)) 1 q → IsFar negative q
far_one true Down n o q far few g = omega (arith, linear, far, few, g.at_most, g.greatest, mul_one q)
far_one true Up n o q far few g = omega (arith, linear, far, few, g.at_least, g.least, mul_one q)
far_one false Down n o q far few g = omega (arith, linear, far, few, g.at_most, g.greatest, mul_one q)
far_one false Up n o q far few g = omega (arith, linear, far, few, g.at_least, g.least, mul_one q)

pub past_is_far : (v : Decimal) (u : Unit) (side : Side) → IsPast v u → IsFar v.negative (grid_value side v u)
past_is_far v u side p =
    far_one v.negative side (v.digits * 10 ^ up_part (place v u)) (unit_offset u) (grid_value side v u) p.0 (offset_few u)
    (subst (λ (k : ℕ). Rounds side (signed v.negative (v.digits * 10 ^ up_part (place v u)) +ℤ pos (unit_offset u * 10 ^ k)) (10 ^ k) (grid_value side v u)) p.1 (value_is_grid side v u))

far_size : (negative : Bool) (n o : ℕ) → o ≤ 101325 → (IsWithin (signed negative n +ℤ pos o) → ⊥) → IsFar negative (signed negative n +ℤ pos o)
far_size true n o few out = by (le_or_lt (negsuc 999999999999999999) (neg_ℤ (pos n) +ℤ pos o))
  where
    by : ((negsuc 999999999999999999 ≤ℤ (neg_ℤ (pos n) +ℤ pos o)) ⊎ ((neg_ℤ (pos n) +ℤ pos o) <ℤ negsuc 999999999999999999)) → (neg_ℤ (pos n) +ℤ pos o) <ℤ negsuc 999999999999999999
    by (inl h) = absurd (out (h, omega (arith, linear, few)))
    by (inr h) = h
far_size false n o few out = by (le_or_lt (pos n +ℤ pos o) (pos 1000000000000000000))
  where
    by : (((pos n +ℤ pos o) ≤ℤ pos 1000000000000000000) ⊎ (pos 1000000000000000000 <ℤ (pos n +ℤ pos o))) → pos 1000000000000000000 <ℤ (pos n +ℤ pos o)
    by (inl h) = absurd (out (omega (arith, linear), h))
    by (inr h) = h

-- a size, rounded and with its offset, that isn't within the limits
pub size_is_far : (v : Decimal) (u : Unit) (side : Side) (s : Size) (z : ℤ) → IsSize (v.digits * 10 ^ up_part (place v u)) (den v u) s → z ≡ signed_size v.negative side s +ℤ pos (unit_offset u)
    → (IsWithin z → ⊥) → IsFar v.negative (grid_value side v u)
size_is_far v u side s z h e out =
    subst (IsFar v.negative) (grid_is_value side v u _ (grid_is v u side s h))
    (far_size v.negative (cond (not s.is_exact && is_away v.negative side) (s.whole + 1) s.whole) (unit_offset u) (offset_few u) (λ w. out (subst IsWithin (sym e) w)))
