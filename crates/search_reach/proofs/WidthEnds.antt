-- How the steps and the halves of a search change the widths of variables.
use Rattle.std.proofs.Common.{◌≡◌, ℕ, ap, ◌∙◌, sym, ◌⊎◌, inl, inr, arith, ℤ, pos, ◌+ℤ◌, ◌-ℤ◌, ◌*ℤ◌, ◌≤ℤ◌, Bool, true, false, IsTrue, List, [], ◌∷◌, get_or, length, zero, suc, refl, eq-eqb}
use Rattle.std.specs.Prelude.{int_le, nat_lt}
use Rattle.std.proofs.lemmas.Bool.{and_parts}
use Rattle.std.proofs.lemmas.Bool.Decides.{eqb_tells, nat_tests}
use Rattle.std.proofs.lemmas.Int.{ints}
use Rattle.std.specs.Int.{int_rem_euclid}
use Rattle.integer_laws.proofs.Ring.{linear, mul_add, mul_one}
use Rattle.gas_units.proofs.Quotients.{euclid_divides}
use Rattle.gas_model.specs.declared.rows.Ends.{Ends}
use Rattle.base_types.specs.declared.variables.Var.{Var}
use Rattle.base_types.specs.declared.variables.Var.TheVariants.{Flow, Square}
use Rattle.gas_model.specs.Rows.{Network}
use Rattle.gas_model.specs.Boxes.{Bounds, BoxFits, no_ends, ends_of, is_in_box, width_of, with_end, tightened}
use Rattle.gas_model.proofs.BoxFacts.{tightened_fits, in_box}
use Rattle.tree_cert.specs.declared.line.Step.{Step}
use Rattle.tree_rules.specs.Rules.{PartBox, stepped}
use Rattle.tree_rules.specs.Branches.{same_var}
use Rattle.tight_steps.specs.Best.{shrinks}
use Rattle.tight_steps.proofs.ArcMoves.{step_parts}
use Rattle.tight_steps.proofs.OtherArcs.{same_ends}
use Rattle.stable_sweep.specs.Runs.{after, AreTurns, IsTurn}
use Rattle.box_ends.specs.Middle.{middle}
use Rattle.box_split.specs.Forks.{is_wide}
use Rattle.stable_sweep.proofs.StepCounts.{tightened_here}

-- ---- one variable or another
pub either_var : (v w : Var) → (v ≡ w) ⊎ (v ≡ w → ⊥)
either_var (Flow a) (Flow i) = elim (eqb_tells a i) [ inl e ↦ inl (ap Flow e.1) | inr n ↦ inr (λ h. n.1 cc) ]
either_var (Flow a) (Square n) = inr (λ h. cc)
either_var (Square n) (Flow a) = inr (λ h. cc)
either_var (Square n) (Square m) = elim (eqb_tells n m) [ inl e ↦ inl (ap Square e.1) | inr n ↦ inr (λ h. n.1 cc) ]

pub var_self : (v : Var) → same_var v v ≡ true
var_self (Flow a) = eq-eqb a a refl
var_self (Square n) = eq-eqb n n refl

-- ---- one end
-- where the end of a variable in the box moves inward, no variable grows
pub end_narrow : (b : Bounds) (v w : Var) (low : Bool) (C : ℤ) → IsTrue (is_in_box b v) → width_of (with_end low C (ends_of b v)) ≤ℤ width_of (ends_of b v)
    → width_of (ends_of (tightened b v low C) w) ≤ℤ width_of (ends_of b w)
end_narrow b v w low C var less =
    elim (either_var w v) [
      | inl e ↦ rw (e, tightened_here b v low C var) less
      | inr n ↦ rw (same_ends b w v low C n) (omega (arith, linear))
    ]

-- ---- steps
shrunk_end : (low : Bool) (C : ℤ) (e : Ends) → shrinks low C e ≡ true → width_of (with_end low C e) ≤ℤ width_of e
shrunk_end true C e h =
    let p = and_parts (int_le (pos 1) (C -ℤ e.lo)) (int_le (e.hi -ℤ e.lo) (pos 8 *ℤ (C -ℤ e.lo))) h in
    omega (arith, linear, p.0)
shrunk_end false C e h =
    let p = and_parts (int_le (pos 1) (e.hi -ℤ C)) (int_le (e.hi -ℤ e.lo) (pos 8 *ℤ (e.hi -ℤ C))) h in
    omega (arith, linear, p.0)

step_narrow : (p : Network) (b : PartBox) (s : Step) (v : Var) → BoxFits p b.bounds → IsTurn p b s → width_of (ends_of (stepped b s).bounds v) ≤ℤ width_of (ends_of b.bounds v)
step_narrow p b s v fits turn =
    let var : IsTrue (is_in_box b.bounds s.var) = in_box p b.bounds s.var fits (step_parts p b s turn.move.holds).var in
    end_narrow b.bounds s.var v s.low s.value var (shrunk_end s.low s.value (ends_of b.bounds s.var) turn.move.shrinks)

pub steps_narrow : (p : Network) (b : PartBox) (ss : List Step) (v : Var) → BoxFits p b.bounds → AreTurns p b ss → width_of (ends_of (after b ss).bounds v) ≤ℤ width_of (ends_of b.bounds v)
steps_narrow p b [] v fits h = omega (arith, linear)
steps_narrow p b (s ∷ ss) v fits h =
    let one = step_narrow p b s v fits h.0 in
    let rest = steps_narrow p (stepped b s) ss v (tightened_fits p b.bounds s.var s.low s.value fits) h.1 in
    omega (arith, linear, one, rest)

pub steps_same_part : (b : PartBox) (ss : List Step) → (after b ss).part ≡ b.part
steps_same_part b [] = refl
steps_same_part b (s ∷ ss) = steps_same_part (stepped b s) ss

-- ---- halves
twice : (q : ℤ) → q *ℤ pos 2 ≡ q +ℤ q
twice q = let e = mul_add q (pos 1) (pos 1) in let f = mul_one q in e ∙ (rw f refl)

-- each half has at most half the width, both less one
pub half_width : (low : Bool) (e : Ends) → ((width_of (with_end low (middle e) e) -ℤ pos 1) +ℤ (width_of (with_end low (middle e) e) -ℤ pos 1)) ≤ℤ (width_of e -ℤ pos 1)
half_width true e =
    let d = euclid_divides (e.lo +ℤ e.hi) (pos 2) (omega (arith, ints)) in
    let t = twice (middle e) in
    let whole : middle e +ℤ middle e +ℤ int_rem_euclid (e.lo +ℤ e.hi) (pos 2) ≡ e.lo +ℤ e.hi = ap (λ (x : ℤ). x +ℤ int_rem_euclid (e.lo +ℤ e.hi) (pos 2)) (sym t) ∙ d.whole in
    let low = d.low in
    let high = d.high in
    omega (arith, linear)
half_width false e =
    let d = euclid_divides (e.lo +ℤ e.hi) (pos 2) (omega (arith, ints)) in
    let t = twice (middle e) in
    let whole : middle e +ℤ middle e +ℤ int_rem_euclid (e.lo +ℤ e.hi) (pos 2) ≡ e.lo +ℤ e.hi = ap (λ (x : ℤ). x +ℤ int_rem_euclid (e.lo +ℤ e.hi) (pos 2)) (sym t) ∙ d.whole in
    let low = d.low in
    let high = d.high in
    omega (arith, linear)

no_width : (b : Bounds) (v : Var) → is_wide b v ≡ true → (is_in_box b v ≡ false → ends_of b v ≡ no_ends) → IsTrue (is_in_box b v)
no_width b v wide none = by (is_in_box b v) none
  where
    by : (t : Bool) → (t ≡ false → ends_of b v ≡ no_ends) → IsTrue t
    by true h = refl
    by false h = absurd (let e : is_wide b v ≡ false = (let f = h refl in rw f refl) in cc)

outside : {A : Type 0} (xs : List A) (i : ℕ) (d : A) → nat_lt i (length xs) ≡ false → get_or xs i d ≡ d
outside [] i d h = refl
outside (x ∷ xs) zero d h = absurd (let e : nat_lt zero (suc (length xs)) ≡ true = grind (arith, nat_tests) in cc)
outside (x ∷ xs) (suc i) d h = outside xs i d (let e : nat_lt (suc i) (suc (length xs)) ≡ false = h in grind (arith, nat_tests))

-- a wide variable is one of the box
pub wide_in_box : (b : Bounds) (v : Var) → is_wide b v ≡ true → IsTrue (is_in_box b v)
wide_in_box b (Flow a) wide = no_width b (Flow a) wide (λ h. outside b.flows a no_ends h)
wide_in_box b (Square n) wide = no_width b (Square n) wide (λ h. outside b.squares n no_ends h)
