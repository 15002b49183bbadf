-- How often a variable is halved on a way, and how wide that leaves it.
use Rattle.std.proofs.Common.{◌≡◌, ℕ, suc, ◌^◌, ◌<◌, ◌≤◌, refl, sym, ap, subst, ◌∙◌, ◌⊎◌, inl, inr, arith, ℤ, pos, ◌+ℤ◌, ◌-ℤ◌, ◌*ℤ◌, ◌≤ℤ◌, ◌<ℤ◌, Bool, true, false, cond, List, [], ◌∷◌, length, filter}
use Rattle.std.specs.Prelude.{int_le}
use Rattle.std.proofs.Math.Nat.{pow-suc}
use Rattle.std.proofs.lemmas.Int.{ints}
use Rattle.std.proofs.lemmas.Bool.{cases_lt}
use Rattle.integer_laws.proofs.Ring.{linear, mul_le_left, mul_assoc, mul_one, one_mul}
use Rattle.base_types.specs.declared.variables.Var.{Var}
use Rattle.gas_model.specs.Rows.{Network}
use Rattle.gas_model.specs.Boxes.{BoxFits, ends_of, width_of, tightened}
use Rattle.tree_cert.specs.declared.line.Head.{Head}
use Rattle.tree_cert.specs.declared.line.Head.TheVariants.{Half}
use Rattle.tree_rules.specs.Rules.{PartBox}
use Rattle.tree_rules.specs.Branches.{same_var, headed}
use Rattle.tight_steps.proofs.OtherArcs.{same_ends}
use Rattle.stable_sweep.specs.Runs.{after}
use Rattle.box_ends.specs.Middle.{middle}
use Rattle.box_split.specs.Forks.{is_wide}
use Rattle.search_reach.specs.Widths.{halves, width_in}
use Rattle.search_reach.proofs.WidthEnds.{var_self, steps_narrow, half_width, wide_in_box}
use Rattle.search_reach.proofs.WidthWays.{IsBelow, Led, led_fits, child_cases, quiet_of, quiet_bounds}
use Rattle.stable_sweep.proofs.StepCounts.{tightened_here}
use Rattle.box_split.proofs.Others.{var_of}

-- ---- counts
abbrev pub count : (Head → Bool) → List Head → ℕ
count t hs = length (filter t hs)

counted : (h : Head) (hs : List Head) (b : Bool) → b ≡ true → length (cond b (h ∷ hs) hs) ≡ suc (length hs)
counted h hs true e = refl
counted h hs false e = absurd cc

skipped : (h : Head) (hs : List Head) (b : Bool) → b ≡ false → length (cond b (h ∷ hs) hs) ≡ length hs
skipped h hs true e = absurd cc
skipped h hs false e = refl

pub count_this : (t : Head → Bool) (h : Head) (hs : List Head) → t h ≡ true → count t (h ∷ hs) ≡ suc (count t hs)
count_this t h hs e = counted h (filter t hs) (t h) e

pub count_other : (t : Head → Bool) (h : Head) (hs : List Head) → t h ≡ false → count t (h ∷ hs) ≡ count t hs
count_other t h hs e = skipped h (filter t hs) (t h) e

-- ---- what a child does to the width of a variable
-- it is halved, or not; from u to w
pub record Halved (v : Var) (h : Head) (u w : ℤ) : Type 0 where
  pub is : halves v h ≡ true
  pub wide : pos 2 ≤ℤ u
  pub less : ((w -ℤ pos 1) +ℤ (w -ℤ pos 1)) ≤ℤ (u -ℤ pos 1)

pub record Kept (v : Var) (h : Head) (u w : ℤ) : Type 0 where
  pub is_not : halves v h ≡ false
  pub less : w ≤ℤ u

wide_is : (e : ℤ) → int_le (pos 2) e ≡ true → pos 2 ≤ℤ e
wide_is e h = omega (arith, linear, h)

half_cases : (c : PartBox) (v w : Var) (low : Bool) → is_wide c.bounds w ≡ true
    → Halved v (Half w low (middle (ends_of c.bounds w))) (width_in c v) (width_in (headed c (Half w low (middle (ends_of c.bounds w)))) v)
    ⊎ Kept v (Half w low (middle (ends_of c.bounds w))) (width_in c v) (width_in (headed c (Half w low (middle (ends_of c.bounds w)))) v)
half_cases c v w low wide = by (same_var w v) refl
  where
    by : (t : Bool) → same_var w v ≡ t
        → Halved v (Half w low (middle (ends_of c.bounds w))) (width_in c v) (width_in (headed c (Half w low (middle (ends_of c.bounds w)))) v)
        ⊎ Kept v (Half w low (middle (ends_of c.bounds w))) (width_in c v) (width_in (headed c (Half w low (middle (ends_of c.bounds w)))) v)
    by true e =
        let here = tightened_here c.bounds w low (middle (ends_of c.bounds w)) (wide_in_box c.bounds w wide) in
        inl (record {
          is = e;
          wide = subst (λ (x : Var). pos 2 ≤ℤ width_in c x) (var_of w v e) (wide_is (width_in c w) wide);
          less = subst (λ (x : Var). ((width_of (ends_of (tightened c.bounds w low (middle (ends_of c.bounds w))) x) -ℤ pos 1) +ℤ (width_of (ends_of (tightened c.bounds w low (middle (ends_of c.bounds w))) x) -ℤ pos 1)) ≤ℤ (width_in c x -ℤ pos 1)) (var_of w v e)
              (rw here (half_width low (ends_of c.bounds w)));
        })
    by false e =
        let same = same_ends c.bounds v w low (middle (ends_of c.bounds w)) (λ x. absurd (let y = ap (λ (z : Var). same_var z v) (sym x) in let s = var_self v in cc)) in
        inr (record { is_not = e; less = rw same (omega (arith, linear)) })

child_width : (p : Network) (c : PartBox) (turn : ℕ) (h : Head) (b : PartBox) (next : ℕ) (v : Var) → (below : IsBelow p c turn h b next) → Halved v h (width_in c v) (width_in b v) ⊎ Kept v h (width_in c v) (width_in b v)
child_width p c turn h b next v below =
    elim (child_cases p c turn h b next below) [
      | inl e ↦
          let same : b.bounds ≡ c.bounds = ap (λ (x : PartBox). x.bounds) below.box ∙ quiet_bounds c h e.quiet in
          inr (record { is_not = quiet_of v h e.quiet; less = rw same (omega (arith, linear)) })
      | inr l ↦
          let z = half_cases c v l.var l.low l.wide in
          let box : b ≡ headed c (Half l.var l.low (middle (ends_of c.bounds l.var))) = below.box ∙ ap (headed c) l.head in
          rw (box, l.head) z
    ]

pub child_narrow : (p : Network) (c : PartBox) (turn : ℕ) (h : Head) (b : PartBox) (next : ℕ) (v : Var) → IsBelow p c turn h b next → width_in b v ≤ℤ width_in c v
child_narrow p c turn h b next v below =
    elim (child_width p c turn h b next v below) [
      | inl x ↦ let a = x.wide in let d = x.less in omega (arith, linear)
      | inr x ↦ x.less
    ]

-- and with the steps before it, from the box above
pub link_width : (p : Network) (root : PartBox) (h : Head) (hs : List Head) (b : PartBox) (turn : ℕ) (v : Var) → BoxFits p root.bounds → (led : Led p root (h ∷ hs) b turn)
    → Halved v h (width_in led.0.above v) (width_in b v) ⊎ Kept v h (width_in led.0.above v) (width_in b v)
link_width p root h hs b turn v fits led =
    let l = led.0 in
    let up = led_fits p root hs l.above l.from fits led.1 in
    let steps = steps_narrow p l.above l.steps v up l.turns in
    elim (child_width p (after l.above l.steps) l.from h b turn v l.below) [
      | inl x ↦ let a = x.wide in let d = x.less in inl (record { is = x.is; wide = omega (arith, linear); less = omega (arith, linear) })
      | inr x ↦ let d = x.less in inr (record { is_not = x.is_not; less = omega (arith, linear) })
    ]

-- ---- widths on a way
-- so many halvings have left this width of the one at first
pub record Shrunk (m : ℕ) (w first : ℤ) : Type 0 where
  pub is : (pos (2 ^ m) *ℤ (w -ℤ pos 1)) ≤ℤ (first -ℤ pos 1)

shrunk_more : (m : ℕ) (u w first : ℤ) → ((w -ℤ pos 1) +ℤ (w -ℤ pos 1)) ≤ℤ (u -ℤ pos 1) → Shrunk m u first → Shrunk (suc m) w first
shrunk_more m u w first less s =
    let two : pos (2 ^ suc m) ≡ pos (2 ^ m) *ℤ pos 2 = ap pos (pow-suc 2 m) in
    let twice : pos 2 *ℤ (w -ℤ pos 1) ≡ (w -ℤ pos 1) +ℤ (w -ℤ pos 1) = omega (arith, linear, ints) in
    let a = mul_le_left (pos (2 ^ m)) (pos 2 *ℤ (w -ℤ pos 1)) (u -ℤ pos 1) (omega (arith, linear)) (omega (arith, linear)) in
    let c : pos (2 ^ suc m) *ℤ (w -ℤ pos 1) ≡ pos (2 ^ m) *ℤ (pos 2 *ℤ (w -ℤ pos 1)) = ap (λ (z : ℤ). z *ℤ (w -ℤ pos 1)) two ∙ mul_assoc (pos (2 ^ m)) (pos 2) (w -ℤ pos 1) in
    record { is = omega (arith, linear, a, c, s.is) }

shrunk_less : (m : ℕ) (u w first : ℤ) → w ≤ℤ u → Shrunk m u first → Shrunk m w first
shrunk_less m u w first less s =
    let a = mul_le_left (pos (2 ^ m)) (w -ℤ pos 1) (u -ℤ pos 1) (omega (arith, linear)) (omega (arith, linear)) in
    record { is = omega (arith, linear, a, s.is) }

pub shrunk : (p : Network) (root : PartBox) (hs : List Head) (b : PartBox) (turn : ℕ) (v : Var) → BoxFits p root.bounds → Led p root hs b turn → Shrunk (count (halves v) hs) (width_in b v) (width_in root v)
shrunk p root [] b turn v fits led = rw led (record { is = omega (arith, linear, one_mul (width_in root v -ℤ pos 1)) })
shrunk p root (h ∷ hs) b turn v fits led =
    let l = led.0 in
    let up = shrunk p root hs l.above l.from v fits led.1 in
    elim (link_width p root h hs b turn v fits led) [
      | inl x ↦ rw (count_this (halves v) h hs x.is) (shrunk_more (count (halves v) hs) (width_in l.above v) (width_in b v) (width_in root v) x.less up)
      | inr x ↦ rw (count_other (halves v) h hs x.is_not) (shrunk_less (count (halves v) hs) (width_in l.above v) (width_in b v) (width_in root v) x.less up)
    ]

pub narrower : (p : Network) (root : PartBox) (hs : List Head) (b : PartBox) (turn : ℕ) (v : Var) → BoxFits p root.bounds → Led p root hs b turn → width_in b v ≤ℤ width_in root v
narrower p root [] b turn v fits led = rw led (omega (arith, linear))
narrower p root (h ∷ hs) b turn v fits led =
    let up = narrower p root hs led.0.above led.0.from v fits led.1 in
    elim (link_width p root h hs b turn v fits led) [
      | inl x ↦ let a = x.wide in let d = x.less in omega (arith, linear)
      | inr x ↦ let d = x.less in omega (arith, linear)
    ]

-- before each halving the width at first was more than so many doublings
below_more : (m : ℕ) (u first : ℤ) → pos 2 ≤ℤ u → Shrunk m u first → pos (2 ^ m) <ℤ first
below_more m u first wide s =
    let a = mul_le_left (pos (2 ^ m)) (pos 1) (u -ℤ pos 1) (omega (arith, linear)) (omega (arith, linear)) in
    omega (arith, linear, a, mul_one (pos (2 ^ m)), s.is)

are_below : (p : Network) (root : PartBox) (hs : List Head) (b : PartBox) (turn : ℕ) (v : Var) → BoxFits p root.bounds → Led p root hs b turn → (k : ℕ) → k < count (halves v) hs → pos (2 ^ k) <ℤ width_in root v
are_below p root [] b turn v fits led k lt = absurd (omega arith)
are_below p root (h ∷ hs) b turn v fits led k lt =
    let l = led.0 in
    let up = are_below p root hs l.above l.from v fits led.1 k in
    elim (link_width p root h hs b turn v fits led) [
      | inl x ↦
          let e = count_this (halves v) h hs x.is in
          elim (cases_lt k (count (halves v) hs)) [
            | inl less ↦ up less
            | inr more ↦
                let last : k ≡ count (halves v) hs = omega arith in
                rw last (below_more (count (halves v) hs) (width_in l.above v) (width_in root v) x.wide (shrunk p root hs l.above l.from v fits led.1))
          ]
      | inr x ↦ let e = count_other (halves v) h hs x.is_not in up (omega arith)
    ]

pub halvings_few : (p : Network) (root : PartBox) (hs : List Head) (b : PartBox) (turn : ℕ) (v : Var) (m : ℕ) → BoxFits p root.bounds → Led p root hs b turn → width_in root v ≤ℤ pos (2 ^ m) → count (halves v) hs ≤ m
halvings_few p root hs b turn v m fits led at_most =
    elim (cases_lt m (count (halves v) hs)) [
      | inl more ↦ let a = are_below p root hs b turn v fits led m more in absurd (omega (arith, linear))
      | inr le ↦ omega arith
    ]
