-- Up to where each rule lets an end of a square go.
use Rattle.std.proofs.Common.{◌≡◌, ◌≢◌, ◌↔◌, ◌⊎◌, inl, inr, ◌*◌, ◌^◌, ◌+◌, refl, sym, ap, ◌∙◌, arith, ℤ, pos, negsuc, ◌+ℤ◌, ◌-ℤ◌, ◌*ℤ◌, ◌≤ℤ◌, ◌<ℤ◌, Bool, true, false, ◌&&◌, int_le, IsTrue, FitsSigned}
use Rattle.std.specs.Int.{w128}
use Rattle.std.proofs.Math.Bool.{beq}
use Rattle.std.proofs.lemmas.Bool.{and_parts, and_from}
use Rattle.integer_laws.proofs.Ring.{linear, le_or_lt, mul_le_left, mul_add, mul_one, mul_comm}
use Rattle.gas_model.specs.declared.law_forms.PipeLaw.{PipeLaw}
use Rattle.gas_model.specs.declared.rows.Ends.{Ends}
use Rattle.gas_model.specs.BoxLimits.{AreSquareEnds}
use Rattle.gas_model.specs.Curves.{square, drop_low, drop_high, at_most, at_least}
use Rattle.gas_model.specs.declared.law_forms.LawForm.{LawForm}
use Rattle.gas_model.specs.declared.law_forms.LawForm.TheVariants.{Drags, Equals, Shuts, Loses, Reduces, Raises, Never}
use Rattle.gas_units.specs.Rounds.{IsFloor, IsCeiling}
use Rattle.base_types.specs.Numbers.{is_ratio_part}
use Rattle.element_laws.specs.Sizes.{is_wide_square}
use Rattle.element_laws.proofs.ScaledFits.{wide_fits}
use Rattle.box_rules.specs.ArcLimits.{AreSafeSides}
use Rattle.tree_cert.specs.declared.line.Rule.{Rule}
use Rattle.tree_cert.specs.declared.line.Rule.TheVariants.{Balance, Pipe, Equal, Zero, Way, Inner, Fall, Order, Rise, Ratio, Sign, Reach, Along, Drop}
use Rattle.tree_rules.specs.declared.arc_vars.ArcEnds.{ArcEnds}
use Rattle.tree_rules.specs.declared.arc_vars.ArcVar.TheVariants.{OfFrom, OfTo}
use Rattle.tree_rules.specs.ArcRules.{arc_step, keeps_sign}
use Rattle.tight_steps.specs.Best.{CanShrink, IsBound}
use Rattle.tree_rules.specs.Looser.{reaches}
use Rattle.tight_steps.specs.Moves.{allows, ends_at}
use Rattle.tight_steps.proofs.Bests.{within_low}
use Rattle.tight_steps.proofs.Allowed.{AreLimitedEnds}
use Rattle.pressure_propagate.specs.SquareRules.{square_at, opposite, in_reach, apart, inner_bound, BoundsSquare, IsRatioBound}
use Rattle.pressure_propagate.proofs.RuleLists.{MovesNoSquare, way_none, zero_none, sign_none}

-- ---- rules with roots
root_bound : (low : Bool) (own : Ends) (K bound : ℤ) (test : ℤ → Bool) → AreSquareEnds K own → ((C : ℤ) → pos 0 ≤ℤ C → IsTrue (test C) ↔ IsTrue (reaches low bound C)) → (low ≡ false → pos 0 ≤ℤ bound) → IsBound low own (λ C. int_le (pos 0) C && test C) bound
root_bound true own K bound test l h n = record {
  is = λ C w.
      let p : pos 0 ≤ℤ C = omega (arith, linear, l.low_from, (within_low own C w).0) in
      (λ t. (h C p).0 (and_parts (int_le (pos 0) C) (test C) t).1, λ t. and_from (int_le (pos 0) C) (test C) (omega (arith, linear, p)) ((h C p).1 t));
}
root_bound false own K bound test l h n = record {
  is = λ C w. (
    λ t. let s = and_parts (int_le (pos 0) C) (test C) t in let p : pos 0 ≤ℤ C = omega (arith, linear, s.0) in (h C p).0 s.1,
    λ t. let p : pos 0 ≤ℤ C = omega (arith, linear, n refl, t) in and_from (int_le (pos 0) C) (test C) (omega (arith, linear, p)) ((h C p).1 t),
  );
}

-- the same where another condition holds
dropped : (side low : Bool) (own : Ends) (K bound : ℤ) (test : ℤ → Bool) → AreSquareEnds K own → ((C : ℤ) → pos 0 ≤ℤ C → IsTrue (test C) ↔ IsTrue (reaches low bound C)) → (low ≡ false → pos 0 ≤ℤ bound)
    → CanShrink low own (λ C. int_le (pos 0) C && (side && test C)) → IsBound low own (λ C. int_le (pos 0) C && (side && test C)) bound
dropped true low own K bound test l h n c = root_bound low own K bound test l h n
dropped false low own K bound test l h n c = let s : false ≡ true = (and_parts (int_le (pos 0) c.value) false c.allowed).1 in absurd cc

sided : (side low : Bool) (own : Ends) (bound : ℤ) → CanShrink low own (λ C. side && reaches low bound C) → IsBound low own (λ C. side && reaches low bound C) bound
sided true low own bound c = record { is = λ C w. (λ t. t, λ t. t) }
sided false low own bound c = let s : false ≡ true = c.allowed in absurd cc

-- a rule that moves no square
pub never_bounds : (rule : Rule) (form : LawForm) (K : ℤ) (e : ArcEnds) (from low : Bool) (bound : ℤ) → MovesNoSquare rule form → BoundsSquare form K e from low rule bound
never_bounds rule form K e from low bound h c =
    let t = and_parts (keeps_sign rule c.value) (arc_step rule form K e (square_at from) low c.value) c.allowed in
    let x : false ≡ true = sym (h K e from low c.value) ∙ t.1 in
    absurd cc

-- what the roots tell of an end
abbrev pub ReachesBy : (K other D : ℤ) → (low : Bool) → (bound : ℤ) → Type 0
ReachesBy K other D low bound = (C : ℤ) → pos 0 ≤ℤ C → IsTrue (in_reach K other D low C) ↔ IsTrue (reaches low bound C)

abbrev pub KeepsApart : (K other D : ℤ) → (low : Bool) → (bound : ℤ) → Type 0
KeepsApart K other D low bound = (C : ℤ) → pos 0 ≤ℤ C → IsTrue (apart K other D low C) ↔ IsTrue (reaches low bound C)

-- ---- a constant loss
pub reach_of : (l h K : ℤ) (e : ArcEnds) (from low : Bool) (bound : ℤ) → AreLimitedEnds K e → ReachesBy K (opposite e from low) h low bound → (low ≡ false → pos 0 ≤ℤ bound) → BoundsSquare (Loses l h) K e from low Reach bound
reach_of l h K e true true bound k r n c = record { is = (root_bound true e.u K bound (λ C. at_least K e.v.lo C h) k.u r n).is }
reach_of l h K e true false bound k r n c = record { is = (root_bound false e.u K bound (λ C. at_least K C e.v.hi h) k.u r n).is }
reach_of l h K e false true bound k r n c = record { is = (root_bound true e.v K bound (λ C. at_least K e.u.lo C h) k.v r n).is }
reach_of l h K e false false bound k r n c = record { is = (root_bound false e.v K bound (λ C. at_least K C e.u.hi h) k.v r n).is }

pub drop_of : (l h K : ℤ) (e : ArcEnds) (from low : Bool) (bound : ℤ) → AreLimitedEnds K e → KeepsApart K (opposite e from low) l low bound → (low ≡ false → pos 0 ≤ℤ bound) → BoundsSquare (Loses l h) K e from low Drop bound
drop_of l h K e true true bound k r n c = record { is = (dropped (int_le (pos 1) e.q.lo) true e.u K bound (λ C. at_most K C e.v.lo l) k.u r n (record { value = c.value; loosest = c.loosest; allowed = c.allowed })).is }
drop_of l h K e true false bound k r n c = record { is = (dropped (int_le e.q.hi (negsuc 0)) false e.u K bound (λ C. at_most K e.v.hi C l) k.u r n (record { value = c.value; loosest = c.loosest; allowed = c.allowed })).is }
drop_of l h K e false true bound k r n c = record { is = (dropped (int_le e.q.hi (negsuc 0)) true e.v K bound (λ C. at_most K C e.u.lo l) k.v r n (record { value = c.value; loosest = c.loosest; allowed = c.allowed })).is }
drop_of l h K e false false bound k r n c = record { is = (dropped (int_le (pos 1) e.q.lo) false e.v K bound (λ C. at_most K e.u.hi C l) k.v r n (record { value = c.value; loosest = c.loosest; allowed = c.allowed })).is }

along_of : (l h K : ℤ) (e : ArcEnds) (from low : Bool) → BoundsSquare (Loses l h) K e from low Along (opposite e from low)
along_of l h K e true true c = record { is = (sided (int_le (pos 0) e.q.lo) true e.u e.v.lo (record { value = c.value; loosest = c.loosest; allowed = c.allowed })).is }
along_of l h K e true false c = record { is = (sided (int_le e.q.hi (pos 0)) false e.u e.v.hi (record { value = c.value; loosest = c.loosest; allowed = c.allowed })).is }
along_of l h K e false true c = record { is = (sided (int_le e.q.hi (pos 0)) true e.v e.u.lo (record { value = c.value; loosest = c.loosest; allowed = c.allowed })).is }
along_of l h K e false false c = record { is = (sided (int_le (pos 0) e.q.lo) false e.v e.u.hi (record { value = c.value; loosest = c.loosest; allowed = c.allowed })).is }

pub loses_rest : (rule : Rule) (l h K : ℤ) (e : ArcEnds) (from low : Bool) → rule ≢ Reach → rule ≢ Drop → BoundsSquare (Loses l h) K e from low rule (opposite e from low)
loses_rest Reach l h K e from low n m = absurd (n refl)
loses_rest Drop l h K e from low n m = absurd (m refl)
loses_rest Along l h K e from low n m = along_of l h K e from low
loses_rest Sign l h K e from low n m = never_bounds Sign (Loses l h) K e from low (opposite e from low) (λ K e from low C. sign_none l K e from low C)
loses_rest rule l h K e from low n m = never_bounds rule (Loses l h) K e from low (opposite e from low) (λ K e from low C. refl)

-- ---- a control valve
inner_reduces : (a b l h K : ℤ) (e : ArcEnds) (from low : Bool) → BoundsSquare (Reduces a b l h) K e from low Inner (inner_bound a b K from)
inner_reduces a b l h K e true true c = record { is = λ C w. (λ t. t, λ t. t) }
inner_reduces a b l h K e false false c = record { is = λ C w. (λ t. t, λ t. t) }
inner_reduces a b l h K e true false c = let t : false ≡ true = c.allowed in absurd cc
inner_reduces a b l h K e false true c = let t : false ≡ true = c.allowed in absurd cc

-- the bounds of both directions of a fall: at least `red_min` Pa, and within `red_max` Pa
pub fall_apart : (a b l h K : ℤ) (e : ArcEnds) (from low : Bool) (bound : ℤ) → from ≡ low → AreLimitedEnds K e → KeepsApart K (opposite e from low) l low bound → (low ≡ false → pos 0 ≤ℤ bound) → BoundsSquare (Reduces a b l h) K e from low Fall bound
fall_apart a b l h K e true true bound s k r n c = record { is = (root_bound true e.u K bound (λ C. at_most K C e.v.lo l) k.u r n).is }
fall_apart a b l h K e false false bound s k r n c = record { is = (root_bound false e.v K bound (λ C. at_most K e.u.hi C l) k.v r n).is }
fall_apart a b l h K e true false bound s k r n c = absurd cc
fall_apart a b l h K e false true bound s k r n c = absurd cc

pub fall_reach : (a b l h K : ℤ) (e : ArcEnds) (from low : Bool) (bound : ℤ) → from ≢ low → AreLimitedEnds K e → ReachesBy K (opposite e from low) h low bound → (low ≡ false → pos 0 ≤ℤ bound) → BoundsSquare (Reduces a b l h) K e from low Fall bound
fall_reach a b l h K e true false bound s k r n c = record { is = (root_bound false e.u K bound (λ C. at_least K C e.v.hi h) k.u r n).is }
fall_reach a b l h K e false true bound s k r n c = record { is = (root_bound true e.v K bound (λ C. at_least K e.u.lo C h) k.v r n).is }
fall_reach a b l h K e true true bound s k r n c = absurd (s refl)
fall_reach a b l h K e false false bound s k r n c = absurd (s refl)

pub reduces_rest : (rule : Rule) (a b l h K : ℤ) (e : ArcEnds) (from low : Bool) → rule ≢ Fall → BoundsSquare (Reduces a b l h) K e from low rule (inner_bound a b K from)
reduces_rest Fall a b l h K e from low n = absurd (n refl)
reduces_rest Inner a b l h K e from low n = inner_reduces a b l h K e from low
reduces_rest Way a b l h K e from low n = never_bounds Way (Reduces a b l h) K e from low (inner_bound a b K from) (λ K e from low C. way_none from low C)
reduces_rest rule a b l h K e from low n = never_bounds rule (Reduces a b l h) K e from low (inner_bound a b K from) (λ K e from low C. refl)

-- ---- a station
pub inner_raises : (a b num den r K : ℤ) (e : ArcEnds) (from low : Bool) → BoundsSquare (Raises a b num den r) K e from low Inner (inner_bound a b K from)
inner_raises a b num den r K e true true c = record { is = λ C w. (λ t. t, λ t. t) }
inner_raises a b num den r K e false false c = record { is = λ C w. (λ t. t, λ t. t) }
inner_raises a b num den r K e true false c = let t : false ≡ true = c.allowed in absurd cc
inner_raises a b num den r K e false true c = let t : false ≡ true = c.allowed in absurd cc

pub rise_of : (a b num den r K : ℤ) (e : ArcEnds) (from low : Bool) (bound : ℤ) → AreLimitedEnds K e → ReachesBy K (opposite e from low) r low bound → (low ≡ false → pos 0 ≤ℤ bound) → BoundsSquare (Raises a b num den r) K e from low Rise bound
rise_of a b num den r K e true true bound k s n c = record { is = (root_bound true e.u K bound (λ C. at_least K e.v.lo C r) k.u s n).is }
rise_of a b num den r K e false false bound k s n c = record { is = (root_bound false e.v K bound (λ C. at_least K C e.u.hi r) k.v s n).is }
rise_of a b num den r K e true false bound k s n c = let t : false ≡ true = (and_parts (int_le (pos 0) c.value) false c.allowed).1 in absurd cc
rise_of a b num den r K e false true bound k s n c = let t : false ≡ true = (and_parts (int_le (pos 0) c.value) false c.allowed).1 in absurd cc

-- a quotient that is rounded down, and one that is rounded up
next_product : (d q : ℤ) → d *ℤ (q +ℤ pos 1) ≡ d *ℤ q +ℤ d
next_product d q = mul_add d q (pos 1) ∙ ap (λ (z : ℤ). d *ℤ q +ℤ z) (mul_one d)

pub floor_says : (n d q C : ℤ) → pos 1 ≤ℤ d → IsFloor n d q → ((d *ℤ C) ≤ℤ n) ↔ (C ≤ℤ q)
floor_says n d q C one f = (
  λ h.
      elim (le_or_lt C q) [
        | inl fine ↦ fine
        | inr more ↦ let m = mul_le_left d (q +ℤ pos 1) C (omega (arith, linear)) (omega (arith, linear, more)) in absurd (omega (arith, linear, m, h, f.greatest, next_product d q, mul_comm q d))
      ],
  λ h. let m = mul_le_left d C q (omega (arith, linear)) h in omega (arith, linear, m, f.at_most, mul_comm q d),
)

pub ceiling_says : (n d q C : ℤ) → pos 1 ≤ℤ d → IsCeiling n d q → (n ≤ℤ (d *ℤ C)) ↔ (q ≤ℤ C)
ceiling_says n d q C one f = (
  λ h.
      elim (le_or_lt q C) [
        | inl fine ↦ fine
        | inr less ↦ let m = mul_le_left d (C +ℤ pos 1) q (omega (arith, linear)) (omega (arith, linear, less)) in absurd (omega (arith, linear, m, h, f.least, next_product d C, mul_comm q d))
      ],
  λ h. let m = mul_le_left d q C (omega (arith, linear)) h in omega (arith, linear, m, f.at_least, mul_comm q d),
)

pub ratio_of : (a b num den r K : ℤ) (e : ArcEnds) (from low : Bool) (bound : ℤ) → IsRatioBound num den (opposite e from low) low bound → BoundsSquare (Raises a b num den r) K e from low Ratio bound
ratio_of a b num den r K e true true bound h c = record {
  is = λ C w. let f = floor_says (square den *ℤ e.v.lo) (square num) bound C h.upper (h.floor refl) in (λ t. let s = f.0 (omega (arith, linear, t)) in omega (arith, linear, s), λ t. let s = f.1 (omega (arith, linear, t)) in omega (arith, linear, s));
}
ratio_of a b num den r K e false false bound h c = record {
  is = λ C w. let f = ceiling_says (square num *ℤ e.u.hi) (square den) bound C h.lower (h.ceiling refl) in (λ t. let s = f.0 (omega (arith, linear, t)) in omega (arith, linear, s), λ t. let s = f.1 (omega (arith, linear, t)) in omega (arith, linear, s));
}
ratio_of a b num den r K e true false bound h c = let t : false ≡ true = c.allowed in absurd cc
ratio_of a b num den r K e false true bound h c = let t : false ≡ true = c.allowed in absurd cc

order_of : (a b num den r K : ℤ) (e : ArcEnds) (from low : Bool) → BoundsSquare (Raises a b num den r) K e from low Order (opposite e from low)
order_of a b num den r K e true false c = record { is = λ C w. (λ t. t, λ t. t) }
order_of a b num den r K e false true c = record { is = λ C w. (λ t. t, λ t. t) }
order_of a b num den r K e true true c = let t : false ≡ true = c.allowed in absurd cc
order_of a b num den r K e false false c = let t : false ≡ true = c.allowed in absurd cc

pub raises_rest : (rule : Rule) (a b num den r K : ℤ) (e : ArcEnds) (from low : Bool) → rule ≢ Inner → rule ≢ Rise → rule ≢ Ratio → BoundsSquare (Raises a b num den r) K e from low rule (opposite e from low)
raises_rest Inner a b num den r K e from low n m o = absurd (n refl)
raises_rest Rise a b num den r K e from low n m o = absurd (m refl)
raises_rest Ratio a b num den r K e from low n m o = absurd (o refl)
raises_rest Order a b num den r K e from low n m o = order_of a b num den r K e from low
raises_rest Way a b num den r K e from low n m o = never_bounds Way (Raises a b num den r) K e from low (opposite e from low) (λ K e from low C. way_none from low C)
raises_rest rule a b num den r K e from low n m o = never_bounds rule (Raises a b num den r) K e from low (opposite e from low) (λ K e from low C. refl)

-- ---- a resistance
-- the bounds by the least and the greatest drop
pub from_low : (law : PipeLaw) (K : ℤ) (e : ArcEnds) (q : ℤ) → pos 1 ≤ℤ (law.drag.den *ℤ K) → IsFloor (drop_low law.drag e.q.lo) (law.drag.den *ℤ K) q → IsBound true e.u (allows Pipe (Drags law) K e OfFrom true) (e.v.lo +ℤ q)
from_low law K e q one f = record {
  is = λ C w. let s = floor_says (drop_low law.drag e.q.lo) (law.drag.den *ℤ K) q (C -ℤ e.v.lo) one f in (λ t. let x = s.0 (omega (arith, linear, t)) in omega (arith, linear, x), λ t. let x = s.1 (omega (arith, linear, t)) in omega (arith, linear, x));
}

pub from_high : (law : PipeLaw) (K : ℤ) (e : ArcEnds) (q : ℤ) → pos 1 ≤ℤ (law.drag.den *ℤ K) → IsCeiling (drop_high law.drag e.q.hi) (law.drag.den *ℤ K) q → IsBound false e.u (allows Pipe (Drags law) K e OfFrom false) (e.v.hi +ℤ q)
from_high law K e q one f = record {
  is = λ C w. let s = ceiling_says (drop_high law.drag e.q.hi) (law.drag.den *ℤ K) q (C -ℤ e.v.hi) one f in (λ t. let x = s.0 (omega (arith, linear, t)) in omega (arith, linear, x), λ t. let x = s.1 (omega (arith, linear, t)) in omega (arith, linear, x));
}

pub to_low : (law : PipeLaw) (K : ℤ) (e : ArcEnds) (q : ℤ) → pos 1 ≤ℤ (law.drag.den *ℤ K) → IsCeiling (drop_high law.drag e.q.hi) (law.drag.den *ℤ K) q → IsBound true e.v (allows Pipe (Drags law) K e OfTo true) (e.u.lo -ℤ q)
to_low law K e q one f = record {
  is = λ C w. let s = ceiling_says (drop_high law.drag e.q.hi) (law.drag.den *ℤ K) q (e.u.lo -ℤ C) one f in (λ t. let x = s.0 (omega (arith, linear, t)) in omega (arith, linear, x), λ t. let x = s.1 (omega (arith, linear, t)) in omega (arith, linear, x));
}

pub to_high : (law : PipeLaw) (K : ℤ) (e : ArcEnds) (q : ℤ) → pos 1 ≤ℤ (law.drag.den *ℤ K) → IsFloor (drop_low law.drag e.q.lo) (law.drag.den *ℤ K) q → IsBound false e.v (allows Pipe (Drags law) K e OfTo false) (e.u.hi -ℤ q)
to_high law K e q one f = record {
  is = λ C w. let s = floor_says (drop_low law.drag e.q.lo) (law.drag.den *ℤ K) q (e.u.hi -ℤ C) one f in (λ t. let x = s.0 (omega (arith, linear, t)) in omega (arith, linear, x), λ t. let x = s.1 (omega (arith, linear, t)) in omega (arith, linear, x));
}

pub drags_rest : (rule : Rule) (law : PipeLaw) (K : ℤ) (e : ArcEnds) (from low : Bool) (bound : ℤ) → IsBound low (ends_at e (square_at from)) (allows Pipe (Drags law) K e (square_at from) low) bound → BoundsSquare (Drags law) K e from low rule bound
drags_rest Pipe law K e from low bound h = λ c. h
drags_rest rule law K e from low bound h = never_bounds rule (Drags law) K e from low bound (λ K e from low C. refl)

-- ---- equal squares, and laws that move none
equal_of : (K : ℤ) (e : ArcEnds) (from low : Bool) → BoundsSquare Equals K e from low Equal (opposite e from low)
equal_of K e true true c = record { is = λ C w. (λ t. t, λ t. t) }
equal_of K e true false c = record { is = λ C w. (λ t. t, λ t. t) }
equal_of K e false true c = record { is = λ C w. (λ t. t, λ t. t) }
equal_of K e false false c = record { is = λ C w. (λ t. t, λ t. t) }

pub equals_all : (rule : Rule) (K : ℤ) (e : ArcEnds) (from low : Bool) → BoundsSquare Equals K e from low rule (opposite e from low)
equals_all Equal K e from low = equal_of K e from low
equals_all rule K e from low = never_bounds rule Equals K e from low (opposite e from low) (λ K e from low C. refl)

pub shuts_all : (rule : Rule) (K : ℤ) (e : ArcEnds) (from low : Bool) (bound : ℤ) → BoundsSquare Shuts K e from low rule bound
shuts_all Zero K e from low bound = never_bounds Zero Shuts K e from low bound (λ K e from low C. zero_none from low C)
shuts_all rule K e from low bound = never_bounds rule Shuts K e from low bound (λ K e from low C. refl)

pub never_all : (rule : Rule) (K : ℤ) (e : ArcEnds) (from low : Bool) (bound : ℤ) → BoundsSquare Never K e from low rule bound
never_all rule K e from low bound = never_bounds rule Never K e from low bound (λ K e from low C. never_moves rule K e from low C)
  where
    never_moves : (rule : Rule) (K : ℤ) (e : ArcEnds) (from low : Bool) (C : ℤ) → arc_step rule Never K e (square_at from) low C ≡ false
    never_moves Balance K e from low C = refl
    never_moves rule K e from low C = refl

-- ---- what the code asks
pub square_limits : (K : ℤ) (e : ArcEnds) (from : Bool) → AreLimitedEnds K e → AreSquareEnds K (ends_at e (square_at from))
square_limits K e true h = h.u
square_limits K e false h = h.v

pub wide_opposite : (e : ArcEnds) (from low : Bool) → AreSafeSides e → IsTrue (is_wide_square (opposite e from low))
wide_opposite e true true h = h.v.lo
wide_opposite e true false h = h.v.hi
wide_opposite e false true h = h.u.lo
wide_opposite e false false h = h.u.hi

pub opposite_fits : (e : ArcEnds) (from low : Bool) → AreSafeSides e → FitsSigned w128 (opposite e from low)
opposite_fits e from low h = wide_fits (opposite e from low) (wide_opposite e from low h)

pub one_squared : (d : ℤ) → IsTrue (is_ratio_part d) → pos 1 ≤ℤ square d
one_squared d t =
    let one : pos 1 ≤ℤ d = grind (arith, linear) in
    omega (arith, linear, one, mul_le_left d (pos 1) d (omega (arith, linear)) one, mul_one d)

pub same_flags : (x y : Bool) → beq x y ≡ true → x ≡ y
same_flags true true h = refl
same_flags false false h = refl
same_flags true false h = absurd cc
same_flags false true h = absurd cc

pub other_flags : (x y : Bool) → beq x y ≡ false → x ≢ y
other_flags true true h e = absurd cc
other_flags false false h e = absurd cc
other_flags true false h e = absurd cc
other_flags false true h e = absurd cc

pub floor_bound : (num den other q : ℤ) → IsTrue (is_ratio_part num) → IsTrue (is_ratio_part den) → IsFloor (square den *ℤ other) (square num) q → IsRatioBound num den other true q
floor_bound num den other q n d f = record { upper = one_squared num n; lower = one_squared den d; floor = λ t. f; ceiling = λ t. absurd cc }

pub ceiling_bound : (num den other q : ℤ) → IsTrue (is_ratio_part num) → IsTrue (is_ratio_part den) → IsCeiling (square num *ℤ other) (square den) q → IsRatioBound num den other false q
ceiling_bound num den other q n d f = record { upper = one_squared num n; lower = one_squared den d; floor = λ t. absurd cc; ceiling = λ t. f }
