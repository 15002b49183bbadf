-- The least flow of a drop, by a root.
use Rattle.std.proofs.Common.{◌≡◌, ◌⊎◌, ℕ, zero, suc, ◌+◌, ◌*◌, ◌<◌, ◌≤◌, ◌^◌, inl, inr, sym, IsTrue, int_le, ◌&&◌, ◌∙◌, arith, lit≤, ℤ, pos, negsuc, ◌+ℤ◌, ◌-ℤ◌, ◌*ℤ◌, neg_ℤ, ◌≤ℤ◌, ◌<ℤ◌, FitsSigned, unsigned_abs}
use Rattle.std.specs.Int.{w128}
use Rattle.std.proofs.lemmas.Bool.{cases_lt}
use Rattle.integer_laws.specs.Sizes.{IsWithin}
use Rattle.integer_laws.proofs.Ring.{linear, mul_le_left, le_or_lt, mul_comm, mul_add, mul_one, mul_zero, square_nonneg, mul_nonneg, le_of_mul_left, le_test, not_le_test}
use Rattle.integer_laws.proofs.SizeLemmas.{within_parts, one_part, within_fits, product_within, difference_within}
use Rattle.gas_model.specs.declared.rows.Drag.{Drag}
use Rattle.gas_model.specs.BoxLimits.{IsScale}
use Rattle.gas_model.specs.Limits.{is_drag_within}
use Rattle.gas_model.proofs.LimitFacts.{scale_size}
use Rattle.element_laws.specs.Sizes.{is_wide_square}
use Rattle.element_laws.proofs.DropFits.{drag_parts, part_size}
use Rattle.element_laws.proofs.RootFits.{wide_square_size}
use Rattle.gas_model.specs.Curves.{square, drop_low, drop_high}
use Rattle.tree_rules.proofs.UnitSound.{IsDrag}
use Rattle.gas_model.proofs.CurveFacts.{curve_forward, curve_back}
use Rattle.tree_rules.proofs.CurveLaws.{curve_le}
use Rattle.gas_units.specs.Rounds.{IsFloor, IsCeiling, IsRootDown, IsRootUp}
use Rattle.flow_propagate.specs.Drops.{IsLeastFlow, IsGreatestFlow}

-- C is a flow whose least drop is at least the gap, and there is none below
pub record Least (law : Drag) (gap C : ℤ) : Type 0 where
  pub allowed : gap ≤ℤ drop_low law C
  pub least : (z : ℤ) → gap ≤ℤ drop_low law z → C ≤ℤ z

-- a positive gap: root up of the quotient rounded up
least_forward : (law : Drag) (gap : ℤ) (n root : ℕ) → IsDrag law → pos 0 <ℤ gap → IsCeiling gap law.lo (pos n) → IsRootUp n root → Least law gap (pos root)
least_forward law gap n root i g q r =
    let a = mul_le_left law.lo (pos n) (square (pos root)) (omega (arith, linear, i.lo)) (omega (arith, linear, r.at_least)) in
    record {
      allowed = omega (arith, linear, curve_forward law.lo law.hi (pos root) (omega (arith, linear)), a, q.at_least, mul_comm (pos n) law.lo);
      least = λ z h. forward_least law gap n root z i g q r h;
    }
  where
    forward_least : (law : Drag) (gap : ℤ) (n root : ℕ) (z : ℤ) → IsDrag law → pos 0 <ℤ gap → IsCeiling gap law.lo (pos n) → IsRootUp n root → gap ≤ℤ drop_low law z → pos root ≤ℤ z
    forward_least law gap n root (negsuc m) i g q r h =
        let s = mul_nonneg law.hi (square (negsuc m)) (omega (arith, linear, i.hi)) (square_nonneg (negsuc m)) in
        absurd (omega (arith, linear, s, curve_back law.lo law.hi (negsuc m) (omega (arith, linear))))
    forward_least law gap n root (pos m) i g q r h =
        elim (cases_lt (m * m) n) [
          | inl less ↦
              let s = mul_le_left law.lo (pos (m * m) +ℤ pos 1) (pos n) (omega (arith, linear, i.lo)) (omega (arith, linear)) in
              absurd (omega (arith, linear, s, mul_add law.lo (pos (m * m)) (pos 1), mul_one law.lo, curve_forward law.lo law.hi (pos m) (omega (arith, linear)), q.least, mul_comm (pos n) law.lo))
          | inr more ↦ omega (arith, linear, r.least m more)
        ]

-- else: root down of the quotient rounded down, backward
least_back : (law : Drag) (gap : ℤ) (n root : ℕ) → IsDrag law → gap ≤ℤ pos 0 → IsFloor (neg_ℤ gap) law.hi (pos n) → IsRootDown n root → Least law gap (neg_ℤ (pos root))
least_back law gap n root i g q r = record {
  allowed = back_allowed law gap n root i g q r;
  least = λ z h. back_least law gap n root z i g q r h;
}
  where
    back_allowed : (law : Drag) (gap : ℤ) (n root : ℕ) → IsDrag law → gap ≤ℤ pos 0 → IsFloor (neg_ℤ gap) law.hi (pos n) → IsRootDown n root → gap ≤ℤ drop_low law (neg_ℤ (pos root))
    back_allowed law gap n zero i g q r = omega (arith, linear, curve_forward law.lo law.hi (pos 0) (omega (arith, linear)), mul_zero law.lo)
    back_allowed law gap n (suc k) i g q r =
        let a = mul_le_left law.hi (pos (suc k * suc k)) (pos n) (omega (arith, linear, i.hi)) (omega (arith, linear, r.at_most)) in
        omega (arith, linear, a, curve_back law.lo law.hi (negsuc k) (omega (arith, linear)), q.at_most, mul_comm (pos n) law.hi)

    back_least : (law : Drag) (gap : ℤ) (n root : ℕ) (z : ℤ) → IsDrag law → gap ≤ℤ pos 0 → IsFloor (neg_ℤ gap) law.hi (pos n) → IsRootDown n root → gap ≤ℤ drop_low law z → neg_ℤ (pos root) ≤ℤ z
    back_least law gap n root (pos m) i g q r h = omega (arith, linear)
    back_least law gap n root (negsuc m) i g q r h =
        elim (cases_lt n (suc m * suc m)) [
          | inl less ↦
              let s = mul_le_left law.hi (pos n +ℤ pos 1) (pos (suc m * suc m)) (omega (arith, linear, i.hi)) (omega (arith, linear)) in
              absurd (omega (arith, linear, s, mul_add law.hi (pos n) (pos 1), mul_one law.hi, curve_back law.lo law.hi (negsuc m) (omega (arith, linear)), q.greatest, mul_comm (pos n) law.hi))
          | inr more ↦ omega (arith, linear, r.greatest (suc m) more)
        ]

-- the quotients are not negative
pub ceiling_nonneg : (gap d q : ℤ) → pos 0 <ℤ gap → pos 1 ≤ℤ d → IsCeiling gap d q → pos 0 ≤ℤ q
ceiling_nonneg gap d q g h c = le_of_mul_left d (pos 0) q (omega (arith, linear)) (omega (arith, linear, mul_zero d, mul_comm q d, c.at_least))

pub floor_nonneg : (gap d q : ℤ) → pos 0 ≤ℤ gap → pos 1 ≤ℤ d → IsFloor gap d q → pos 0 ≤ℤ q
floor_nonneg gap d q g h f =
    elim (le_or_lt (pos 0) q) [
      | inl fine ↦ fine
      | inr back ↦
          let m = mul_le_left d (q +ℤ pos 1) (pos 0) (omega (arith, linear)) (omega (arith, linear)) in
          absurd (omega (arith, linear, m, mul_add d q (pos 1), mul_one d, mul_zero d, mul_comm q d, f.greatest))
    ]

-- from there on the drop is at least the gap
least_is : (law : Drag) (gap limit : ℤ) → IsDrag law → Least law gap limit → IsLeastFlow law gap limit
least_is law gap limit i h = record {
  is = λ C. elim (le_or_lt limit C) [
    | inl y ↦ let g = curve_le law.lo law.hi limit C i.lo i.hi y in le_test gap (drop_low law C) (omega (arith, linear, g, h.allowed)) ∙ sym (le_test limit C y)
    | inr n ↦ not_le_test gap (drop_low law C) (short law gap limit C h (le_or_lt gap (drop_low law C)) n) ∙ sym (not_le_test limit C n)
  ];
}
  where
    short : (law : Drag) (gap limit C : ℤ) → Least law gap limit → (gap ≤ℤ drop_low law C) ⊎ (drop_low law C <ℤ gap) → C <ℤ limit → drop_low law C <ℤ gap
    short law gap limit C h (inl y) n = let k = h.least C y in absurd (omega (arith, linear, k, n))
    short law gap limit C h (inr n) m = n

pub forward_flow : (law : Drag) (gap : ℤ) (n root : ℕ) → IsDrag law → pos 0 <ℤ gap → IsCeiling gap law.lo (pos n) → IsRootUp n root → IsLeastFlow law gap (pos root)
forward_flow law gap n root i g q r = least_is law gap (pos root) i (least_forward law gap n root i g q r)

pub back_flow : (law : Drag) (gap : ℤ) (n root : ℕ) → IsDrag law → gap ≤ℤ pos 0 → IsFloor (neg_ℤ gap) law.hi (pos n) → IsRootDown n root → IsLeastFlow law gap (neg_ℤ (pos root))
back_flow law gap n root i g q r = least_is law gap (neg_ℤ (pos root)) i (least_back law gap n root i g q r)

-- ---- the greatest drop is the least one of the flow turned round
drop_turned : (law : Drag) (q : ℤ) → drop_high law q ≡ neg_ℤ (drop_low law (neg_ℤ q))
drop_turned law (pos zero) = omega (arith, linear, curve_forward law.hi law.lo (pos 0) (omega (arith, linear)), curve_forward law.lo law.hi (pos 0) (omega (arith, linear)), mul_zero law.lo, mul_zero law.hi)
drop_turned law (pos (suc n)) =
    let a = curve_forward law.hi law.lo (pos (suc n)) (omega (arith, linear)) in
    let b = curve_back law.lo law.hi (negsuc n) (omega (arith, linear)) in
    omega (arith, linear, a, b)
drop_turned law (negsuc n) =
    let a = curve_back law.hi law.lo (negsuc n) (omega (arith, linear)) in
    let b = curve_forward law.lo law.hi (pos (suc n)) (omega (arith, linear)) in
    omega (arith, linear, a, b)

flip_gap : (x g y : ℤ) → x ≡ neg_ℤ y → int_le x g ≡ int_le (neg_ℤ g) y
flip_gap x g y e = grind (arith, linear)

flip_flow : (x y : ℤ) → int_le x (neg_ℤ y) ≡ int_le y (neg_ℤ x)
flip_flow x y = grind (arith, linear)

pub greatest_is : (law : Drag) (gap limit : ℤ) → IsLeastFlow law (neg_ℤ gap) limit → IsGreatestFlow law gap (neg_ℤ limit)
greatest_is law gap limit h = record {
  is = λ C. flip_gap (drop_high law C) gap (drop_low law (neg_ℤ C)) (drop_turned law C) ∙ h.is (neg_ℤ C) ∙ flip_flow limit C;
}

-- ---- sizes
pub negated_within : (m : ℕ) (z : ℤ) → IsWithin m z → IsWithin m (pos 0 -ℤ z)
negated_within m z h = omega (arith, linear, h, within_parts, one_part (pos 0 -ℤ z))

pub negated_fits : (z : ℤ) → IsWithin (2 ^ 126) z → FitsSigned w128 (pos 0 -ℤ z)
negated_fits z h = within_fits (2 ^ 126) (pos 0 -ℤ z) (negated_within (2 ^ 126) z h) (lit≤ tt)

pub size_is_same : (z : ℤ) → pos 0 ≤ℤ z → pos (unsigned_abs z) ≡ z
size_is_same z h = omega (arith, linear, h, within_parts, one_part z)

pub root_fits : (n : ℕ) → n < 2 ^ 64 → FitsSigned w128 (pos 0 -ℤ pos n)
root_fits n h = within_fits (2 ^ 64) (pos 0 -ℤ pos n) (omega (arith, linear, h, within_parts, one_part (pos 0 -ℤ pos n))) (lit≤ tt)

pub gap_size : (law : Drag) (K high low : ℤ) → IsTrue (is_drag_within law) → IsScale K → IsTrue (is_wide_square high) → IsTrue (is_wide_square low) → IsWithin (2 ^ 126) (law.den *ℤ K *ℤ (high -ℤ low))
gap_size law K high low t k a b =
    let size = part_size law.den (drag_parts law t).den in
    let scaled = product_within law.den K (2 ^ 38) 16 size (scale_size K k) in
    let apart = difference_within high low (32 * 10 ^ 16 + 16) (32 * 10 ^ 16 + 16) (wide_square_size high a) (wide_square_size low b) in
    omega (arith, product_within (law.den *ℤ K) (high -ℤ low) (2 ^ 38 * 16) (32 * 10 ^ 16 + 16 + (32 * 10 ^ 16 + 16)) scaled apart)
