-- The hulls of ends within their limits.
use Rattle.std.proofs.Common.{◌≡◌, ℕ, ◌<◌, ◌+◌, ◌^◌, inl, inr, List, [], ◌∷◌, ◌++◌, length, ℤ, pos, neg_ℤ, ◌*ℤ◌, ◌+ℤ◌, ◌≤ℤ◌, ◌<ℤ◌, refl, sym, ◌∙◌, subst, arith, IsTrue}
use Rattle.std.proofs.lemmas.Bool.{cases_eq}
use Rattle.std.proofs.lemmas.Int.{ints}
use Rattle.std.proofs.lemmas.List.{get_or_push, get_or_append_left}
use Rattle.integer_laws.specs.Sizes.{IsWithin}
use Rattle.integer_laws.proofs.Ring.{linear, mul_add, mul_one, mul_comm, mul_neg, mul_zero, le_of_mul_left, lt_of_mul_left}
use Rattle.gas_model.proofs.LimitFacts.{scale_from}
use Rattle.gas_model.specs.declared.rows.Ends.{Ends}
use Rattle.base_types.specs.Numbers.{is_square}
use Rattle.gas_model.specs.Boxes.{no_ends}
use Rattle.gas_model.specs.BoxLimits.{IsScale, AreFlowEnds, AreSquareEnds}
use Rattle.probe_point.specs.Probes.{box_at}
use Rattle.probe_point.specs.Hulls.{IsHull}

-- of the ends of a flow
pub record FlowBox (h : Ends) : Type 0 where
  pub low : IsWithin 1000000000000 h.lo
  pub high : IsWithin 1000000000000 h.hi
  pub order : h.lo ≤ℤ h.hi

-- of the ends of a square
pub record SquareBox (h : Ends) : Type 0 where
  pub low : IsTrue (is_square h.lo)
  pub high : IsTrue (is_square h.hi)
  pub order : h.lo ≤ℤ h.hi

pub next : (K q : ℤ) → K *ℤ (q +ℤ pos 1) ≡ q *ℤ K +ℤ K
next K q = mul_add K q (pos 1) ∙ rw (mul_comm K q, mul_one K) refl

-- the hull of ends from K times least to K times most
record Between (least most : ℤ) (h : Ends) : Type 0 where
  low : least ≤ℤ h.lo
  high : h.hi ≤ℤ most
  order : h.lo ≤ℤ h.hi

between : (K least most : ℤ) (e h : Ends) → IsScale K → (K *ℤ least) ≤ℤ e.lo → e.hi ≤ℤ (K *ℤ most) → e.lo ≤ℤ e.hi → IsHull K e h → Between least most h
between K least most e h k low high le hull =
    let one = scale_from K k in
    let up : pos 0 <ℤ K = omega (arith, linear, one) in
    let over : pos 0 ≤ℤ K = omega (arith, linear, one) in
    let a : (K *ℤ least) <ℤ (K *ℤ (h.lo +ℤ pos 1)) = omega (arith, linear, next K h.lo, hull.low.greatest, low) in
    let b : (K *ℤ h.hi) <ℤ (K *ℤ (most +ℤ pos 1)) = omega (arith, linear, next K most, mul_comm K h.hi, mul_comm K most, hull.high.least, high) in
    let c : (K *ℤ h.lo) ≤ℤ (K *ℤ h.hi) = omega (arith, linear, mul_comm K h.lo, mul_comm K h.hi, hull.low.at_most, hull.high.at_least, le) in
    let d = lt_of_mul_left K least (h.lo +ℤ pos 1) over a in
    let f = lt_of_mul_left K h.hi (most +ℤ pos 1) over b in
    record { low = omega (arith, linear, d); high = omega (arith, linear, f); order = le_of_mul_left K h.lo h.hi up c }

pub flow_box : (K : ℤ) (e h : Ends) → IsScale K → AreFlowEnds K e → e.lo ≤ℤ e.hi → IsHull K e h → FlowBox h
flow_box K e h k limits le hull =
    let low : (K *ℤ neg_ℤ (pos (10 ^ 12))) ≤ℤ e.lo = omega (arith, linear, mul_neg K (pos (10 ^ 12)), limits.low_from) in
    let b = between K (neg_ℤ (pos (10 ^ 12))) (pos (10 ^ 12)) e h k low limits.high_to le hull in
    record { low = within h.lo b.low (omega (arith, linear, b.order, b.high)); high = within h.hi (omega (arith, linear, b.order, b.low)) b.high; order = b.order }
  where
    within : (z : ℤ) → neg_ℤ (pos (10 ^ 12)) ≤ℤ z → z ≤ℤ pos (10 ^ 12) → IsWithin 1000000000000 z
    within z a b = omega (arith, ints, a, b)

pub square_box : (K : ℤ) (e h : Ends) → IsScale K → AreSquareEnds K e → e.lo ≤ℤ e.hi → IsHull K e h → SquareBox h
square_box K e h k limits le hull =
    let low : (K *ℤ pos 0) ≤ℤ e.lo = omega (arith, linear, mul_zero K, limits.low_from) in
    let b = between K (pos 0) (pos (10 ^ 16)) e h k low limits.high_to le hull in
    record { low = within h.lo b.low (omega (arith, linear, b.order, b.high)); high = within h.hi (omega (arith, linear, b.order, b.low)) b.high; order = b.order }
  where
    within : (z : ℤ) → pos 0 ≤ℤ z → z ≤ℤ pos (10 ^ 16) → IsTrue (is_square z)
    within z a b = grind (arith, linear)

-- what holds of each hull so far, and of one more
pub one_more : (P : ℕ → Ends → Type 0) (hulls : List Ends) (h : Ends) (n : ℕ) → length hulls ≡ n → ((i : ℕ) → i < n → P i (box_at hulls i)) → P n h → (i : ℕ) → i < n + 1 → P i (box_at (hulls ++ h ∷ []) i)
one_more P hulls h n e f here i lt = elim (cases_eq i n) [
  | inl same ↦ subst (λ (j : ℕ). P j (box_at (hulls ++ h ∷ []) j)) (sym same) (subst (P n) (sym (get_or_push hulls h no_ends n e)) here)
  | inr other ↦ subst (P i) (sym (get_or_append_left hulls (h ∷ []) no_ends i (omega arith))) (f i (omega arith))
]
