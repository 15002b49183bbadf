-- What is left of a bracket after a turn.
use Rattle.std.proofs.Common.{◌≡◌, ◌∙◌, ap, sym, ℕ, zero, suc, ◌+◌, ◌^◌, ◌/◌, ◌<◌, ◌≤◌, ℤ, pos, ◌+ℤ◌, ◌-ℤ◌, ◌*ℤ◌, ◌≤ℤ◌, ◌<ℤ◌, unsigned_abs, inl, inr, arith}
use Rattle.std.proofs.lemmas.Int.{ints}
use Rattle.std.proofs.lemmas.Bool.Decides.{nat_tests}
use Rattle.std.specs.Int.{int_div_euclid, int_rem_euclid}
use Rattle.integer_laws.proofs.Ring.{linear, mul_add, mul_one}
use Rattle.integer_laws.proofs.Tests.{less_or}
use Rattle.integer_laws.proofs.SizeLemmas.{within_parts, one_part}
use Rattle.gas_units.proofs.Quotients.{euclid_divides}
use Rattle.nom_range.specs.Brackets.{halvings}
use Rattle.nom_range.specs.Ranges.{IsMiddle}

halvings_none : (most width : ℕ) → width ≤ 1 → halvings (suc most) width ≡ 0
unfolding halvings
halvings_none most width h = grind (arith, nat_tests)

halvings_some : (most width : ℕ) → 1 < width → halvings (suc most) width ≡ suc (halvings most ((width + 1) / 2))
unfolding halvings
halvings_some most width h = grind (arith, nat_tests)

-- a width that was halved can be halved once less
pub halved : (most w v : ℕ) → w ≤ 2 ^ most → 1 < w → v ≤ (w + 1) / 2 → halvings most v < halvings most w
halved zero w v small more half = absurd (omega arith)
halved (suc most) w v small more half = elim (less_or 1 v) [
  | inl two ↦ (
      let step : halvings most ((v + 1) / 2) < halvings most ((w + 1) / 2) = halved most ((w + 1) / 2) ((v + 1) / 2) (omega arith) (omega arith) (omega arith) in
      omega (arith, step, halvings_some most w more, halvings_some most v two))
  | inr one ↦ omega (arith, halvings_none most v one, halvings_some most w more)
]

twice : (q : ℤ) → q *ℤ pos 2 ≡ q +ℤ q
twice q = mul_add q (pos 1) (pos 1) ∙ (rw mul_one)

-- the middle lies between both, and halves what lies between
pub record Halves (carried first mid : ℤ) : Type 0 where
  pub above : carried <ℤ mid
  pub below : mid <ℤ first
  pub least : (mid +ℤ mid) ≤ℤ (carried +ℤ first)
  pub most : (carried +ℤ first) ≤ℤ (mid +ℤ mid +ℤ pos 1)

pub middle_halves : (carried first mid : ℤ) → IsMiddle carried first mid → Halves carried first mid
middle_halves carried first mid m =
    let n = carried +ℤ first in
    let d = euclid_divides n (pos 2) (omega (arith, ints)) in
    let apart = m.apart in
    let half = m.half in
    let t = twice (int_div_euclid n (pos 2)) in
    let whole : int_div_euclid n (pos 2) +ℤ int_div_euclid n (pos 2) +ℤ int_rem_euclid n (pos 2) ≡ n = ap (λ (x : ℤ). x +ℤ int_rem_euclid n (pos 2)) (sym t) ∙ d.whole in
    let low = d.low in
    let high = d.high in
    record { above = omega (arith, linear); below = omega (arith, linear); least = omega (arith, linear); most = omega (arith, linear) }

-- how much lies between, before and after
module _ (carried first mid : ℤ) (from : pos 0 ≤ℤ carried) (to : first ≤ℤ pos (10 ^ 12)) (middle : IsMiddle carried first mid) where
  abbrev size : ℕ
  size = unsigned_abs (first -ℤ carried)

  small : size ≤ 2 ^ 40
  small = let apart = middle.apart in omega (arith, linear, within_parts (first -ℤ carried), one_part (first -ℤ carried))

  apart : 1 < size
  apart = let two = middle.apart in omega (arith, linear, within_parts (first -ℤ carried), one_part (first -ℤ carried))

  -- after a refusal from the middle on
  pub lower_halves : halvings 40 (unsigned_abs (mid -ℤ carried)) < halvings 40 (unsigned_abs (first -ℤ carried))
  lower_halves =
      let h = middle_halves carried first mid middle in
      halved 40 size (unsigned_abs (mid -ℤ carried)) small apart (omega (arith, linear, within_parts (mid -ℤ carried), one_part (mid -ℤ carried), within_parts (first -ℤ carried), one_part (first -ℤ carried)))

  -- after a setting that draws the middle or more
  pub upper_halves : (draw : ℤ) → mid ≤ℤ draw → draw <ℤ first → halvings 40 (unsigned_abs (first -ℤ draw)) < halvings 40 (unsigned_abs (first -ℤ carried))
  upper_halves draw above below =
      let h = middle_halves carried first mid middle in
      halved 40 size (unsigned_abs (first -ℤ draw)) small apart (omega (arith, linear, within_parts (first -ℤ draw), one_part (first -ℤ draw), within_parts (first -ℤ carried), one_part (first -ℤ carried)))
