-- How often a variable can be tightened: each step leaves at most seven eighths of its width, and at least one less.
use Rattle.std.proofs.Common.{◌≡◌, ℕ, zero, suc, ◌+◌, ◌-◌, ◌*◌, ◌^◌, ◌<◌, ◌≤◌, refl, sym, ap, ◌∙◌, inl, inr, arith, lit<, lit≤, ℤ, pos, ◌-ℤ◌, ◌*ℤ◌, ◌≤ℤ◌, ◌<ℤ◌, Bool, true, false, List, [], ◌∷◌, length, add-suc, IsTrue, cond, subst, get_or-set_same, eqb-true, eq-eqb}
use Rattle.std.specs.Prelude.{int_le}
use Rattle.std.proofs.Math.Nat.{pow-suc}
use Rattle.std.proofs.lemmas.Bool.{cases_lt, cases_Bool, and_parts, false≢true}
use Rattle.std.proofs.lemmas.Int.{ints}
use borrow.Author.Tests.{ltb-true}
use Rattle.integer_laws.proofs.Ring.{linear, mul_le_left, mul_assoc, mul_left_comm, mul_one, le_or_lt}
use Rattle.gas_model.specs.declared.rows.Ends.{Ends}
use Rattle.base_types.specs.declared.variables.Var.{Var}
use Rattle.base_types.specs.declared.variables.Var.TheVariants.{Flow, Square}
use Rattle.gas_model.specs.Rows.{Network}
use Rattle.gas_model.specs.Boxes.{Bounds, ends_of, no_ends, is_in_box, tightened, with_end, width_of}
use Rattle.tree_cert.specs.declared.line.Step.{Step}
use Rattle.tree_rules.specs.Branches.{same_var}
use Rattle.tree_rules.specs.Rules.{PartBox, stepped}
use Rattle.tight_steps.specs.Best.{shrinks}
use Rattle.tight_steps.proofs.ArcMoves.{step_parts}
use Rattle.tight_steps.proofs.OtherArcs.{same_ends}
use Rattle.stable_sweep.specs.Runs.{IsNarrowing}
use Rattle.stable_sweep.proofs.Sweeps.{in_box}
use Rattle.stable_sweep.specs.Paths.{ArePath, count_on, StepsAreFew}

-- ---- widths alone
-- the width before each step and after it: it may have shrunk meanwhile, isn't negative, and the step takes an eighth of
-- it and at least one
abbrev AreTightenings : ℤ → List (ℤ × ℤ) → Type 0
AreTightenings w [] = Unit {0}
AreTightenings w (x ∷ xs) = (x.0 ≤ℤ w) × (pos 0 ≤ℤ x.0) × (x.1 ≤ℤ (x.0 -ℤ pos 1)) × ((pos 8 *ℤ x.1) ≤ℤ (pos 7 *ℤ x.0)) × AreTightenings x.1 xs

-- n steps have taken an eighth each, and the width was W before them
record Stage (W n : ℕ) (w : ℤ) : Type 0 where
  is : (pos (8 ^ n) *ℤ w) ≤ℤ pos (7 ^ n * W)

next_stage : (W n : ℕ) (w x y : ℤ) → Stage W n w → x ≤ℤ w → (pos 8 *ℤ y) ≤ℤ (pos 7 *ℤ x) → Stage W (suc n) y
next_stage W n w x y s h k =
    let eight : pos (8 ^ suc n) ≡ pos (8 ^ n) *ℤ pos 8 = ap pos (pow-suc 8 n) in
    let seven : 7 ^ suc n * W ≡ 7 * (7 ^ n * W) = let p = pow-suc 7 n in omega (arith, ap (λ (m : ℕ). m * W) p) in
    let a = mul_le_left (pos (8 ^ n)) (pos 8 *ℤ y) (pos 7 *ℤ x) (omega (arith, linear)) k in
    let b = mul_le_left (pos (8 ^ n)) x w (omega (arith, linear)) h in
    let c : pos (8 ^ suc n) *ℤ y ≡ pos (8 ^ n) *ℤ (pos 8 *ℤ y) = ap (λ (z : ℤ). z *ℤ y) eight ∙ mul_assoc (pos (8 ^ n)) (pos 8) y in
    record { is = omega (arith, linear, ints, a, b, c, seven, s.is, mul_left_comm (pos (8 ^ n)) (pos 7) x) }

-- from the 298th step on no width is left
abbrev IsSmallStart : ℕ → Type 0
IsSmallStart W = (n : ℕ) → 298 ≤ n → 7 ^ n * W < 8 ^ n

early : (W n : ℕ) (w : ℤ) → IsSmallStart W → Stage W n w → pos 1 ≤ℤ w → n ≤ 297
early W n w small s h =
    elim (cases_lt n 298) [
      | inl y ↦ omega arith
      | inr m ↦ let a = mul_le_left (pos (8 ^ n)) (pos 1) w (omega (arith, linear)) h in absurd (omega (arith, linear, a, mul_one (pos (8 ^ n)), s.is, small n m))
    ]

counted : (W n : ℕ) (w : ℤ) (xs : List (ℤ × ℤ)) → IsSmallStart W → Stage W n w → n ≤ 298 → AreTightenings w xs → n + length xs ≤ 299
counted W n w [] small s h t = omega arith
counted W n w (x ∷ xs) small s h t =
    elim (le_or_lt (pos 1) x.0) [
      | inl y ↦
          let e = early W n w small s (omega (arith, linear, t.0, y)) in
          let r = counted W (suc n) x.1 xs small (next_stage W n w x.0 x.1 s t.0 t.3) (omega arith) t.4 in
          omega (arith, r)
      | inr m ↦ let none = at_most_one x.1 xs (omega (arith, linear, t.2, m)) t.4 in omega (arith, none)
    ]
  where
    at_most_one : (w : ℤ) (xs : List (ℤ × ℤ)) → w <ℤ pos 0 → AreTightenings w xs → length xs ≤ 0
    at_most_one w [] h t = omega arith
    at_most_one w (x ∷ xs) h t = absurd (omega (arith, linear, t.0, t.1, h))

-- widths of at most sixteen times 10^16
powers : (m : ℕ) → 7 ^ (298 + m) * (16 * 10 ^ 16) < 8 ^ (298 + m)
powers zero = lit< tt
powers (suc m) =
    let h = powers m in
    let a : 7 ^ (298 + suc m) ≡ 7 ^ (298 + m) * 7 = ap (λ (k : ℕ). 7 ^ k) (add-suc 298 m) ∙ pow-suc 7 (298 + m) in
    let b : 8 ^ (298 + suc m) ≡ 8 ^ (298 + m) * 8 = ap (λ (k : ℕ). 8 ^ k) (add-suc 298 m) ∙ pow-suc 8 (298 + m) in
    rw (a, b) (grows (7 ^ (298 + m)) (8 ^ (298 + m)) (16 * 10 ^ 16) h)
  where
    grows : (x y W : ℕ) → x * W < y → x * 7 * W < y * 8
    grows x y W h = omega (arith, h)

small_start : IsSmallStart (16 * 10 ^ 16)
small_start n h = rw (let e : n ≡ 298 + (n - 298) = omega arith in e) (powers (n - 298))

few_tightenings : (w : ℤ) (xs : List (ℤ × ℤ)) → w ≤ℤ pos (16 * 10 ^ 16) → AreTightenings w xs → length xs ≤ 299
few_tightenings w xs h t =
    let r = counted (16 * 10 ^ 16) 0 w xs small_start (record { is = omega (arith, linear, ints, h) }) (lit≤ tt) t in
    omega (arith, r)

-- ---- the steps of a path on one variable
abbrev widths_on : Var → List (PartBox × Step) → List (ℤ × ℤ)
widths_on v [] = []
widths_on v (x ∷ rest) = cond (same_var x.1.var v) ((width_of (ends_of x.0.bounds v), width_of (ends_of (stepped x.0 x.1).bounds v)) ∷ widths_on v rest) (widths_on v rest)

same_is : (v w : Var) → same_var v w ≡ true → v ≡ w
same_is (Flow i) (Flow j) h = ap Flow (eqb-true i j h)
same_is (Flow i) (Square j) h = absurd (false≢true h)
same_is (Square i) (Flow j) h = absurd (false≢true h)
same_is (Square i) (Square j) h = ap Square (eqb-true i j h)

same_itself : (v : Var) → same_var v v ≡ true
same_itself (Flow i) = eq-eqb i i refl
same_itself (Square i) = eq-eqb i i refl

counted_on : (v : Var) (path : List (PartBox × Step)) → count_on v path ≡ length (widths_on v path)
counted_on v [] = refl
counted_on v (x ∷ rest) =
    let r = counted_on v rest in
    let w : ℤ × ℤ = (width_of (ends_of x.0.bounds v), width_of (ends_of (stepped x.0 x.1).bounds v)) in
    either (same_var x.1.var v) (count_on v rest) (widths_on v rest) w r
  where
    either : (t : Bool) (n : ℕ) (xs : List (ℤ × ℤ)) (w : ℤ × ℤ) → n ≡ length xs → cond t (suc n) n ≡ length (cond t (w ∷ xs) xs)
    either true n xs w e = ap suc e
    either false n xs w e = e

-- the width falls by the gain
eighth : (x w g : ℤ) → x ≡ w -ℤ g → w ≤ℤ (pos 8 *ℤ g) → (pos 8 *ℤ x) ≤ℤ (pos 7 *ℤ w)
eighth x w g e h = omega (arith, ints, linear, e, h)

width_falls : (low : Bool) (C : ℤ) (e : Ends) → shrinks low C e ≡ true → (width_of (with_end low C e) ≤ℤ (width_of e -ℤ pos 1)) × ((pos 8 *ℤ width_of (with_end low C e)) ≤ℤ (pos 7 *ℤ width_of e))
width_falls true C e h =
    let p = and_parts (int_le (pos 1) (C -ℤ e.lo)) (int_le (e.hi -ℤ e.lo) (pos 8 *ℤ (C -ℤ e.lo))) h in
    (omega (arith, linear, p.0), eighth (e.hi -ℤ C) (e.hi -ℤ e.lo) (C -ℤ e.lo) (omega (arith, linear)) (omega (arith, linear, p.1)))
width_falls false C e h =
    let p = and_parts (int_le (pos 1) (e.hi -ℤ C)) (int_le (e.hi -ℤ e.lo) (pos 8 *ℤ (e.hi -ℤ C))) h in
    (omega (arith, linear, p.0), eighth (C -ℤ e.lo) (e.hi -ℤ e.lo) (e.hi -ℤ C) (omega (arith, linear)) (omega (arith, linear, p.1)))

pub tightened_here : (b : Bounds) (v : Var) (low : Bool) (C : ℤ) → IsTrue (is_in_box b v) → ends_of (tightened b v low C) v ≡ with_end low C (ends_of b v)
tightened_here b (Flow a) low C h = get_or-set_same b.flows a (with_end low C (ends_of b (Flow a))) no_ends (ltb-true a (length b.flows) h)
tightened_here b (Square n) low C h = get_or-set_same b.squares n (with_end low C (ends_of b (Square n))) no_ends (ltb-true n (length b.squares) h)

-- the step is on the variable
record Tightens (w : ℤ) (b c : ℤ) : Type 0 where
  from : b ≤ℤ w
  filled : pos 0 ≤ℤ b
  less : c ≤ℤ (b -ℤ pos 1)
  eighth : (pos 8 *ℤ c) ≤ℤ (pos 7 *ℤ b)

tightens : (p : Network) (b : PartBox) (s : Step) (w : ℤ) → width_of (ends_of b.bounds s.var) ≤ℤ w → IsTrue (is_in_box b.bounds s.var) → IsNarrowing p b s → Tightens w (width_of (ends_of b.bounds s.var)) (width_of (ends_of (stepped b s).bounds s.var))
tightens p b s w h i t =
    let here = tightened_here b.bounds s.var s.low s.value i in
    let falls = width_falls s.low s.value (ends_of b.bounds s.var) t.move.shrinks in
    record {
      from = h;
      filled = let f = t.filled in omega (arith, linear, f);
      less = subst (λ (x : Ends). width_of x ≤ℤ (width_of (ends_of b.bounds s.var) -ℤ pos 1)) (sym here) falls.0;
      eighth = subst (λ (x : Ends). (pos 8 *ℤ width_of x) ≤ℤ (pos 7 *ℤ width_of (ends_of b.bounds s.var))) (sym here) falls.1;
    }

tightenings : (p : Network) (b : PartBox) (v : Var) (w : ℤ) (path : List (PartBox × Step)) → width_of (ends_of b.bounds v) ≤ℤ w → ArePath p b path → AreTightenings w (widths_on v path)
tightenings p b v w [] h m = tt
tightenings p b v w (x ∷ rest) h m =
    let s = x.1 in
    let next = stepped x.0 s in
    let narrow = m.1 v in
    let pair : ℤ × ℤ = (width_of (ends_of x.0.bounds v), width_of (ends_of next.bounds v)) in
    elim (cases_Bool (same_var s.var v)) [
      | inl y ↦
          let e : s.var ≡ v = same_is s.var v y in
          let i : IsTrue (is_in_box x.0.bounds s.var) = in_box p x.0.bounds s.var m.0 (step_parts p x.0 s m.2.move.holds).var in
          let t : Tightens w (width_of (ends_of x.0.bounds v)) (width_of (ends_of next.bounds v)) =
          subst (λ (u : Var). Tightens w (width_of (ends_of x.0.bounds u)) (width_of (ends_of next.bounds u))) e (tightens p x.0 s w (subst (λ (u : Var). width_of (ends_of x.0.bounds u) ≤ℤ w) (sym e) (omega (arith, linear, narrow, h))) i m.2) in
          subst (AreTightenings w) (sym (ap (λ (b : Bool). cond b (pair ∷ widths_on v rest) (widths_on v rest)) y))
          (t.from, t.filled, t.less, t.eighth, tightenings p next v (width_of (ends_of next.bounds v)) rest (omega (arith, linear)) m.3)
      | inr n ↦
          let apart : v ≡ s.var → ⊥ = λ e. false≢true (sym n ∙ ap (λ (u : Var). same_var u v) (sym e) ∙ same_itself v) in
          let same = same_ends x.0.bounds v s.var s.low s.value apart in
          subst (AreTightenings w) (sym (ap (λ (b : Bool). cond b (pair ∷ widths_on v rest) (widths_on v rest)) n))
          (tightenings p next v w rest (subst (λ (u : Ends). width_of u ≤ℤ w) (sym same) (omega (arith, linear, narrow, h))) m.3)
    ]

pub steps_are_few : StepsAreFew
steps_are_few p b v path h m =
    let r = few_tightenings (width_of (ends_of b.bounds v)) (widths_on v path) h (tightenings p b v (width_of (ends_of b.bounds v)) path (omega (arith, linear)) m) in
    let c = counted_on v path in
    omega (arith, r, c)
