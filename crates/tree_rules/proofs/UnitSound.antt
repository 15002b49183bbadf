-- Where a point and a box count the same units, a step by the law of an arc keeps the point, and a closing has none.
use Rattle.std.proofs.Common.{◌≡◌, ◌⊎◌, inl, inr, arith, ℤ, pos, negsuc, ◌-ℤ◌, ◌*ℤ◌, ◌≤ℤ◌, ◌<ℤ◌, Bool, true, false, cond, ◌||◌, ◌&&◌, not, int_le, int_lt, IsTrue}
use Rattle.std.specs.Ordering.{int_eq}
use Rattle.std.proofs.lemmas.Bool.Decides.{Decides-int_eq}
use Rattle.std.proofs.lemmas.Bool.{and_parts}
use Rattle.integer_laws.proofs.Ring.{linear, mul_le_left, le_or_lt, le_of_mul_left, mul_pos, square_nonneg}
use Rattle.gas_model.specs.declared.rows.Drag.{Drag}
use Rattle.gas_model.specs.declared.law_forms.PipeLaw.{PipeLaw}
use Rattle.gas_model.specs.Curves.{square, drop_low, drop_high, at_most, at_least, meets_resistance, falls_between, meets_loss, keeps_inner, keeps_ratio, rises_within}
use Rattle.gas_model.specs.declared.law_forms.LawForm.{LawForm}
use Rattle.gas_model.specs.declared.law_forms.LawForm.TheVariants.{Drags, Equals, Shuts, Loses, Reduces, Raises}
use Rattle.gas_model.specs.Laws.{meets_form}
use Rattle.tree_cert.specs.declared.line.Rule.{Rule}
use Rattle.tree_cert.specs.declared.line.Rule.TheVariants.{Pipe, Equal, Zero, Way, Inner, Fall, Order, Rise, Ratio, Sign, Reach, Along, Drop}
use Rattle.tree_rules.specs.declared.arc_vars.ArcEnds.{ArcEnds}
use Rattle.tree_rules.specs.declared.arc_vars.ArcVar.{ArcVar}
use Rattle.tree_rules.specs.declared.arc_vars.ArcVar.TheVariants.{OfFlow, OfFrom, OfTo}
use Rattle.tree_rules.specs.ArcRules.{pipe_step, equal_step, zero_step, way_step, inner_step, fall_step, order_step, rise_step, ratio_step, sign_step, reach_step, along_step, drop_step, arc_step, pipe_closing, fall_closing, rise_closing, ratio_closing, reach_closing, drop_closing, arc_closing}
use Rattle.tree_rules.proofs.CurveLaws.{curve_le, le_of_curve, at_least_grow, at_most_grow, at_most-at_least, at_least-at_most, at_least-le, at_most-below, square_pos}

-- ---- what is needed of the numbers of a law
pub record IsDrag (law : Drag) : Type 0 where
  pub lo : pos 1 ≤ℤ law.lo
  pub hi : pos 1 ≤ℤ law.hi
  pub den : pos 1 ≤ℤ law.den

pub record IsRatio (num den : ℤ) : Type 0 where
  pub upper : pos 1 ≤ℤ num
  pub lower : pos 1 ≤ℤ den

abbrev pub IsForm : LawForm → Type 0
IsForm (Drags law) = IsDrag law.drag
IsForm (Raises in_min out_max ratio_num ratio_den rise_max) = IsRatio ratio_num ratio_den
IsForm form = Unit {0}

-- ---- a point and a box in the same units
pub record Inside (q u v : ℤ) (e : ArcEnds) : Type 0 where
  pub q_lo : e.q.lo ≤ℤ q
  pub q_hi : q ≤ℤ e.q.hi
  pub u_lo : e.u.lo ≤ℤ u
  pub u_hi : u ≤ℤ e.u.hi
  pub v_lo : e.v.lo ≤ℤ v
  pub v_hi : v ≤ℤ e.v.hi

-- the value lies on the inner side of the end C
abbrev pub Beyond : (low : Bool) → (C n : ℤ) → Type 0
Beyond true C n = C ≤ℤ n
Beyond false C n = n ≤ℤ C

abbrev pub value_of : ArcVar → (q u v : ℤ) → ℤ
value_of OfFlow q u v = q
value_of OfFrom q u v = u
value_of OfTo q u v = v

-- ---- tests
pub either : (a b : Bool) → IsTrue (a || b) → IsTrue a ⊎ IsTrue b
either a b h = grind arith

pub not_true : (a : Bool) → IsTrue (not a) → IsTrue a → ⊥
not_true true n h = cc
not_true false n h = cc

-- ---- resistances
pub drag_says : (law : PipeLaw) (N q u v : ℤ) → IsTrue (meets_resistance law N q u v) → (drop_low law.drag q ≤ℤ (law.drag.den *ℤ N *ℤ (u -ℤ v))) × ((law.drag.den *ℤ N *ℤ (u -ℤ v)) ≤ℤ drop_high law.drag q)
drag_says law N q u v h =
    let t = and_parts (int_le (drop_low law.drag q) (law.drag.den *ℤ N *ℤ (u -ℤ v))) (int_le (law.drag.den *ℤ N *ℤ (u -ℤ v)) (drop_high law.drag q)) h in
    (omega (arith, linear, t.0), omega (arith, linear, t.1))

factor_pos : (law : PipeLaw) (N : ℤ) → IsDrag law.drag → pos 0 <ℤ N → pos 0 <ℤ (law.drag.den *ℤ N)
factor_pos law N i k = mul_pos law.drag.den N (omega (arith, linear, i.den)) k

gap_le : (law : PipeLaw) (N a b : ℤ) → IsDrag law.drag → pos 0 <ℤ N → a ≤ℤ b → (law.drag.den *ℤ N *ℤ a) ≤ℤ (law.drag.den *ℤ N *ℤ b)
gap_le law N a b i k h = mul_le_left (law.drag.den *ℤ N) a b (omega (arith, linear, factor_pos law N i k)) h

le_of_gap : (law : PipeLaw) (N a b : ℤ) → IsDrag law.drag → pos 0 <ℤ N → (law.drag.den *ℤ N *ℤ a) ≤ℤ (law.drag.den *ℤ N *ℤ b) → a ≤ℤ b
le_of_gap law N a b i k h = le_of_mul_left (law.drag.den *ℤ N) a b (factor_pos law N i k) h

pipe_sound : (law : PipeLaw) (N q u v : ℤ) (e : ArcEnds) (x : ArcVar) (low : Bool) (C : ℤ) → IsDrag law.drag → pos 0 <ℤ N → IsTrue (meets_resistance law N q u v) → Inside q u v e → IsTrue (pipe_step law N e x low C) → Beyond low C (value_of x q u v)
pipe_sound law N q u v e OfFlow true C i k h w t =
    let s = drag_says law N q u v h in
    le_of_curve law.drag.hi law.drag.lo C q i.hi i.lo (omega (arith, linear, s.1, gap_le law N (e.u.lo -ℤ e.v.hi) (u -ℤ v) i k (omega (arith, linear, w.u_lo, w.v_hi))))
pipe_sound law N q u v e OfFlow false C i k h w t =
    let s = drag_says law N q u v h in
    le_of_curve law.drag.lo law.drag.hi q C i.lo i.hi (omega (arith, linear, s.0, gap_le law N (u -ℤ v) (e.u.hi -ℤ e.v.lo) i k (omega (arith, linear, w.u_hi, w.v_lo))))
pipe_sound law N q u v e OfFrom true C i k h w t =
    let s = drag_says law N q u v h in
    let m = le_of_gap law N (C -ℤ e.v.lo) (u -ℤ v) i k (omega (arith, linear, s.0, curve_le law.drag.lo law.drag.hi e.q.lo q i.lo i.hi w.q_lo)) in
    omega (arith, linear, w.v_lo)
pipe_sound law N q u v e OfFrom false C i k h w t =
    let s = drag_says law N q u v h in
    let m = le_of_gap law N (u -ℤ v) (C -ℤ e.v.hi) i k (omega (arith, linear, s.1, curve_le law.drag.hi law.drag.lo q e.q.hi i.hi i.lo w.q_hi)) in
    omega (arith, linear, w.v_hi)
pipe_sound law N q u v e OfTo true C i k h w t =
    let s = drag_says law N q u v h in
    let m = le_of_gap law N (u -ℤ v) (e.u.lo -ℤ C) i k (omega (arith, linear, s.1, curve_le law.drag.hi law.drag.lo q e.q.hi i.hi i.lo w.q_hi)) in
    omega (arith, linear, w.u_lo)
pipe_sound law N q u v e OfTo false C i k h w t =
    let s = drag_says law N q u v h in
    let m = le_of_gap law N (e.u.hi -ℤ C) (u -ℤ v) i k (omega (arith, linear, s.0, curve_le law.drag.lo law.drag.hi e.q.lo q i.lo i.hi w.q_lo)) in
    omega (arith, linear, w.u_hi)

pipe_closed : (law : PipeLaw) (N q u v : ℤ) (e : ArcEnds) → IsDrag law.drag → pos 0 <ℤ N → IsTrue (meets_resistance law N q u v) → Inside q u v e → IsTrue (pipe_closing law N e) → ⊥
pipe_closed law N q u v e i k h w t =
    let s = drag_says law N q u v h in
    elim (either (int_lt (law.drag.den *ℤ N *ℤ (e.u.hi -ℤ e.v.lo)) (drop_low law.drag e.q.lo)) (int_lt (drop_high law.drag e.q.hi) (law.drag.den *ℤ N *ℤ (e.u.lo -ℤ e.v.hi))) t) [
      | inl little ↦ omega (arith, linear, s.0, little, curve_le law.drag.lo law.drag.hi e.q.lo q i.lo i.hi w.q_lo, gap_le law N (u -ℤ v) (e.u.hi -ℤ e.v.lo) i k (omega (arith, linear, w.u_hi, w.v_lo)))
      | inr much ↦ omega (arith, linear, s.1, much, curve_le law.drag.hi law.drag.lo q e.q.hi i.hi i.lo w.q_hi, gap_le law N (e.u.lo -ℤ e.v.hi) (u -ℤ v) i k (omega (arith, linear, w.u_lo, w.v_hi)))
    ]

-- ---- equal squares, and no flow
pub eq_says : (a b : ℤ) → IsTrue (int_eq a b) → a ≡ b
eq_says a b h = (Decides-int_eq a b).0 h

equal_sound : (q u v : ℤ) (e : ArcEnds) (x : ArcVar) (low : Bool) (C : ℤ) → IsTrue (int_eq u v) → Inside q u v e → IsTrue (equal_step e x low C) → Beyond low C (value_of x q u v)
equal_sound q u v e OfFlow low C h w t = absurd cc
equal_sound q u v e OfFrom true C h w t = omega (arith, linear, eq_says u v h, w.v_lo)
equal_sound q u v e OfFrom false C h w t = omega (arith, linear, eq_says u v h, w.v_hi)
equal_sound q u v e OfTo true C h w t = omega (arith, linear, eq_says u v h, w.u_lo)
equal_sound q u v e OfTo false C h w t = omega (arith, linear, eq_says u v h, w.u_hi)

zero_sound : (q u v : ℤ) (x : ArcVar) (low : Bool) (C : ℤ) → IsTrue (int_eq q (pos 0)) → IsTrue (zero_step x low C) → Beyond low C (value_of x q u v)
zero_sound q u v OfFlow true C h t = omega (arith, linear, eq_says q (pos 0) h)
zero_sound q u v OfFlow false C h t = omega (arith, linear, eq_says q (pos 0) h)
zero_sound q u v OfFrom low C h t = absurd cc
zero_sound q u v OfTo low C h t = absurd cc

-- ---- active arcs
way_sound : (q u v : ℤ) (x : ArcVar) (low : Bool) (C : ℤ) → IsTrue (int_le (pos 0) q) → IsTrue (way_step x low C) → Beyond low C (value_of x q u v)
way_sound q u v OfFlow true C h t = omega (arith, linear)
way_sound q u v OfFlow false C h t = absurd cc
way_sound q u v OfFrom low C h t = absurd cc
way_sound q u v OfTo low C h t = absurd cc

inner_sound : (in_min out_max N q u v : ℤ) (x : ArcVar) (low : Bool) (C : ℤ) → IsTrue (keeps_inner in_min out_max N u v) → IsTrue (inner_step in_min out_max N x low C) → Beyond low C (value_of x q u v)
inner_sound in_min out_max N q u v OfFrom true C h t =
    let s = and_parts (int_le (N *ℤ square in_min) u) (int_le v (N *ℤ square out_max)) h in
    omega (arith, linear, s.0)
inner_sound in_min out_max N q u v OfTo false C h t =
    let s = and_parts (int_le (N *ℤ square in_min) u) (int_le v (N *ℤ square out_max)) h in
    omega (arith, linear, s.1)
inner_sound in_min out_max N q u v OfFlow low C h t = absurd cc
inner_sound in_min out_max N q u v OfFrom false C h t = absurd cc
inner_sound in_min out_max N q u v OfTo true C h t = absurd cc

fall_sound : (m M N q u v : ℤ) (e : ArcEnds) (x : ArcVar) (low : Bool) (C : ℤ) → pos 0 ≤ℤ N → IsTrue (falls_between m M N u v) → Inside q u v e → IsTrue (fall_step m M N e x low C) → Beyond low C (value_of x q u v)
fall_sound m M N q u v e OfFlow low C k h w t = absurd cc
fall_sound m M N q u v e OfFrom true C k h w t =
    let s = and_parts (at_least N u v m) (at_most N u v M) h in
    at_most-at_least N C u v m (at_most_grow N C e.v.lo m C v k t (omega (arith, linear)) w.v_lo) s.0
fall_sound m M N q u v e OfFrom false C k h w t =
    let s = and_parts (at_least N u v m) (at_most N u v M) h in
    at_most-at_least N u C v M s.1 (at_least_grow N C e.v.hi M C v k t (omega (arith, linear)) w.v_hi)
fall_sound m M N q u v e OfTo true C k h w t =
    let s = and_parts (at_least N u v m) (at_most N u v M) h in
    at_least-at_most N u C v M k (at_least_grow N e.u.lo C M u C k t w.u_lo (omega (arith, linear))) s.1
fall_sound m M N q u v e OfTo false C k h w t =
    let s = and_parts (at_least N u v m) (at_most N u v M) h in
    at_least-at_most N u v C m k s.0 (at_most_grow N e.u.hi C m u C k t w.u_hi (omega (arith, linear)))

fall_closed : (m M N q u v : ℤ) (e : ArcEnds) → pos 0 ≤ℤ N → IsTrue (falls_between m M N u v) → Inside q u v e → IsTrue (fall_closing m M N e) → ⊥
fall_closed m M N q u v e k h w t =
    let s = and_parts (at_least N u v m) (at_most N u v M) h in
    elim (either (not (at_least N e.u.hi e.v.lo m)) (not (at_most N e.u.lo e.v.hi M)) t) [
      | inl little ↦ not_true (at_least N e.u.hi e.v.lo m) little (at_least_grow N u v m e.u.hi e.v.lo k s.0 w.u_hi w.v_lo)
      | inr much ↦ not_true (at_most N e.u.lo e.v.hi M) much (at_most_grow N u v M e.u.lo e.v.hi k s.1 w.u_lo w.v_hi)
    ]

order_sound : (q u v : ℤ) (e : ArcEnds) (x : ArcVar) (low : Bool) (C : ℤ) → u ≤ℤ v → Inside q u v e → IsTrue (order_step e x low C) → Beyond low C (value_of x q u v)
order_sound q u v e OfFlow low C h w t = absurd cc
order_sound q u v e OfFrom true C h w t = absurd cc
order_sound q u v e OfFrom false C h w t = omega (arith, linear, w.v_hi)
order_sound q u v e OfTo true C h w t = omega (arith, linear, w.u_lo)
order_sound q u v e OfTo false C h w t = absurd cc

rise_sound : (M N q u v : ℤ) (e : ArcEnds) (x : ArcVar) (low : Bool) (C : ℤ) → pos 0 ≤ℤ N → IsTrue (at_most N v u M) → Inside q u v e → IsTrue (rise_step M N e x low C) → Beyond low C (value_of x q u v)
rise_sound M N q u v e OfFlow low C k h w t = absurd cc
rise_sound M N q u v e OfFrom true C k h w t =
    at_least-at_most N v C u M k (at_least_grow N e.v.lo C M v C k t w.v_lo (omega (arith, linear))) h
rise_sound M N q u v e OfFrom false C k h w t = absurd cc
rise_sound M N q u v e OfTo true C k h w t = absurd cc
rise_sound M N q u v e OfTo false C k h w t =
    at_most-at_least N v C u M h (at_least_grow N C e.u.hi M C u k t (omega (arith, linear)) w.u_hi)

rise_closed : (M N q u v : ℤ) (e : ArcEnds) → pos 0 ≤ℤ N → IsTrue (at_most N v u M) → Inside q u v e → IsTrue (rise_closing M N e) → ⊥
rise_closed M N q u v e k h w t = not_true (at_most N e.v.lo e.u.hi M) t (at_most_grow N v u M e.v.lo e.u.hi k h w.v_lo w.u_hi)

num_pos : (n : ℤ) → pos 1 ≤ℤ n → pos 0 <ℤ square n
num_pos n h = square_pos n (omega (arith, linear))

ratio_sound : (num den q u v : ℤ) (e : ArcEnds) (x : ArcVar) (low : Bool) (C : ℤ) → IsRatio num den → IsTrue (keeps_ratio num den u v) → Inside q u v e → IsTrue (ratio_step num den e x low C) → Beyond low C (value_of x q u v)
ratio_sound num den q u v e OfFlow low C i h w t = absurd cc
ratio_sound num den q u v e OfFrom true C i h w t =
    le_of_mul_left (square num) C u (num_pos num i.upper) (omega (arith, linear, mul_le_left (square den) e.v.lo v (square_nonneg den) w.v_lo))
ratio_sound num den q u v e OfFrom false C i h w t = absurd cc
ratio_sound num den q u v e OfTo true C i h w t = absurd cc
ratio_sound num den q u v e OfTo false C i h w t =
    le_of_mul_left (square den) v C (num_pos den i.lower) (omega (arith, linear, mul_le_left (square num) u e.u.hi (square_nonneg num) w.u_hi))

ratio_closed : (num den q u v : ℤ) (e : ArcEnds) → IsTrue (keeps_ratio num den u v) → Inside q u v e → IsTrue (ratio_closing num den e) → ⊥
ratio_closed num den q u v e h w t =
    omega (arith, linear, mul_le_left (square den) e.v.lo v (square_nonneg den) w.v_lo, mul_le_left (square num) u e.u.hi (square_nonneg num) w.u_hi)

-- ---- constant losses, by the direction of the flow
pub record LossSays (m M N q u v : ℤ) : Type 0 where
  -- where it flows forward, and where it flows back
  pub forward : pos 0 <ℤ q → IsTrue (falls_between m M N u v)
  pub back : q <ℤ pos 0 → IsTrue (falls_between m M N v u)
  pub still : q ≡ pos 0 → u ≡ v

test_of : (a b : Bool) (p r s : Bool) → IsTrue (cond a p (cond b r s)) → (IsTrue a → IsTrue p) × ((a ≡ false) → IsTrue b → IsTrue r) × ((a ≡ false) → (b ≡ false) → IsTrue s)
test_of true b p r s h = (λ _. h, λ n _. absurd cc, λ n _. absurd cc)
test_of false true p r s h = (λ n. absurd cc, λ _ _. h, λ _ n. absurd cc)
test_of false false p r s h = (λ n. absurd cc, λ _ n. absurd cc, λ _ _. h)

pub loss_says : (m M N q u v : ℤ) → IsTrue (meets_loss m M N q u v) → LossSays m M N q u v
loss_says m M N q u v h =
    let t = test_of (int_lt (pos 0) q) (int_lt q (pos 0)) (falls_between m M N u v) (falls_between m M N v u) (int_eq u v) h in
    record {
      forward = λ p. t.0 (omega (arith, linear));
      back = λ p. t.1 (omega (arith, linear)) (omega (arith, linear));
      still = λ p. eq_says u v (t.2 (omega (arith, linear)) (omega (arith, linear)));
    }

-- neither pressure is further above the other than by the greatest loss
reach_says : (m M N q u v : ℤ) → pos 0 ≤ℤ N → LossSays m M N q u v → IsTrue (at_most N u v M) × IsTrue (at_most N v u M)
reach_says m M N q u v k s =
    elim (le_or_lt q (pos 0)) [
      | inr forward ↦
          let f = and_parts (at_least N u v m) (at_most N u v M) (s.forward forward) in
          (f.1, at_most-below N v u M k (at_least-le N u v m k f.0))
      | inl none ↦ elim (le_or_lt (pos 0) q) [
        | inr back ↦
            let f = and_parts (at_least N v u m) (at_most N v u M) (s.back back) in
            (at_most-below N u v M k (at_least-le N v u m k f.0), f.1)
        | inl still ↦
            let same : u ≡ v = s.still (omega (arith, linear)) in
            (at_most-below N u v M k (omega (arith, linear)), at_most-below N v u M k (omega (arith, linear)))
      ]
    ]

-- the pressure doesn't rise along the flow
along_says : (m M N q u v : ℤ) → pos 0 ≤ℤ N → LossSays m M N q u v → (pos 0 ≤ℤ q → v ≤ℤ u) × (q ≤ℤ pos 0 → u ≤ℤ v)
along_says m M N q u v k s = (
  λ p. elim (le_or_lt q (pos 0)) [
    | inr forward ↦ at_least-le N u v m k (and_parts (at_least N u v m) (at_most N u v M) (s.forward forward)).0
    | inl none ↦ let same : u ≡ v = s.still (omega (arith, linear)) in omega (arith, linear)
  ],
  λ p. elim (le_or_lt (pos 0) q) [
    | inr back ↦ at_least-le N v u m k (and_parts (at_least N v u m) (at_most N v u M) (s.back back)).0
    | inl none ↦ let same : u ≡ v = s.still (omega (arith, linear)) in omega (arith, linear)
  ],
)

sign_sound : (m M N q u v : ℤ) (e : ArcEnds) (x : ArcVar) (low : Bool) (C : ℤ) → pos 0 ≤ℤ N → LossSays m M N q u v → Inside q u v e → IsTrue (sign_step m N e x low C) → Beyond low C (value_of x q u v)
sign_sound m M N q u v e OfFlow true C k s w t =
    let b = and_parts (int_le C (pos 0)) (not (at_least N e.v.hi e.u.lo m)) t in
    elim (le_or_lt (pos 0) q) [
      | inl fine ↦ omega (arith, linear, b.0)
      | inr back ↦
          let f = and_parts (at_least N v u m) (at_most N v u M) (s.back back) in
          absurd (not_true (at_least N e.v.hi e.u.lo m) b.1 (at_least_grow N v u m e.v.hi e.u.lo k f.0 w.v_hi w.u_lo))
    ]
sign_sound m M N q u v e OfFlow false C k s w t =
    let b = and_parts (int_le (pos 0) C) (not (at_least N e.u.hi e.v.lo m)) t in
    elim (le_or_lt q (pos 0)) [
      | inl fine ↦ omega (arith, linear, b.0)
      | inr forward ↦
          let f = and_parts (at_least N u v m) (at_most N u v M) (s.forward forward) in
          absurd (not_true (at_least N e.u.hi e.v.lo m) b.1 (at_least_grow N u v m e.u.hi e.v.lo k f.0 w.u_hi w.v_lo))
    ]
sign_sound m M N q u v e OfFrom low C k s w t = absurd cc
sign_sound m M N q u v e OfTo low C k s w t = absurd cc

reach_sound : (m M N q u v : ℤ) (e : ArcEnds) (x : ArcVar) (low : Bool) (C : ℤ) → pos 0 ≤ℤ N → LossSays m M N q u v → Inside q u v e → IsTrue (reach_step M N e x low C) → Beyond low C (value_of x q u v)
reach_sound m M N q u v e OfFlow low C k s w t = absurd cc
reach_sound m M N q u v e OfFrom true C k s w t =
    at_least-at_most N v C u M k (at_least_grow N e.v.lo C M v C k t w.v_lo (omega (arith, linear))) (reach_says m M N q u v k s).1
reach_sound m M N q u v e OfFrom false C k s w t =
    at_most-at_least N u C v M (reach_says m M N q u v k s).0 (at_least_grow N C e.v.hi M C v k t (omega (arith, linear)) w.v_hi)
reach_sound m M N q u v e OfTo true C k s w t =
    at_least-at_most N u C v M k (at_least_grow N e.u.lo C M u C k t w.u_lo (omega (arith, linear))) (reach_says m M N q u v k s).0
reach_sound m M N q u v e OfTo false C k s w t =
    at_most-at_least N v C u M (reach_says m M N q u v k s).1 (at_least_grow N C e.u.hi M C u k t (omega (arith, linear)) w.u_hi)

reach_closed : (m M N q u v : ℤ) (e : ArcEnds) → pos 0 ≤ℤ N → LossSays m M N q u v → Inside q u v e → IsTrue (reach_closing M N e) → ⊥
reach_closed m M N q u v e k s w t =
    let r = reach_says m M N q u v k s in
    elim (either (not (at_most N e.u.lo e.v.hi M)) (not (at_most N e.v.lo e.u.hi M)) t) [
      | inl forward ↦ not_true (at_most N e.u.lo e.v.hi M) forward (at_most_grow N u v M e.u.lo e.v.hi k r.0 w.u_lo w.v_hi)
      | inr back ↦ not_true (at_most N e.v.lo e.u.hi M) back (at_most_grow N v u M e.v.lo e.u.hi k r.1 w.v_lo w.u_hi)
    ]

along_sound : (m M N q u v : ℤ) (e : ArcEnds) (x : ArcVar) (low : Bool) (C : ℤ) → pos 0 ≤ℤ N → LossSays m M N q u v → Inside q u v e → IsTrue (along_step e x low C) → Beyond low C (value_of x q u v)
along_sound m M N q u v e OfFlow low C k s w t = absurd cc
along_sound m M N q u v e OfFrom true C k s w t =
    let b = and_parts (int_le (pos 0) e.q.lo) (int_le C e.v.lo) t in
    let f = (along_says m M N q u v k s).0 (omega (arith, linear, b.0, w.q_lo)) in
    omega (arith, linear, b.1, f, w.v_lo)
along_sound m M N q u v e OfFrom false C k s w t =
    let b = and_parts (int_le e.q.hi (pos 0)) (int_le e.v.hi C) t in
    let f = (along_says m M N q u v k s).1 (omega (arith, linear, b.0, w.q_hi)) in
    omega (arith, linear, b.1, f, w.v_hi)
along_sound m M N q u v e OfTo true C k s w t =
    let b = and_parts (int_le e.q.hi (pos 0)) (int_le C e.u.lo) t in
    let f = (along_says m M N q u v k s).1 (omega (arith, linear, b.0, w.q_hi)) in
    omega (arith, linear, b.1, f, w.u_lo)
along_sound m M N q u v e OfTo false C k s w t =
    let b = and_parts (int_le (pos 0) e.q.lo) (int_le e.u.hi C) t in
    let f = (along_says m M N q u v k s).0 (omega (arith, linear, b.0, w.q_lo)) in
    omega (arith, linear, b.1, f, w.u_hi)

drop_sound : (m M N q u v : ℤ) (e : ArcEnds) (x : ArcVar) (low : Bool) (C : ℤ) → pos 0 ≤ℤ N → LossSays m M N q u v → Inside q u v e → IsTrue (drop_step m N e x low C) → Beyond low C (value_of x q u v)
drop_sound m M N q u v e OfFlow low C k s w t = absurd cc
drop_sound m M N q u v e OfFrom true C k s w t =
    let b = and_parts (int_le (pos 1) e.q.lo) (at_most N C e.v.lo m) t in
    let f = and_parts (at_least N u v m) (at_most N u v M) (s.forward (omega (arith, linear, b.0, w.q_lo))) in
    at_most-at_least N C u v m (at_most_grow N C e.v.lo m C v k b.1 (omega (arith, linear)) w.v_lo) f.0
drop_sound m M N q u v e OfFrom false C k s w t =
    let b = and_parts (int_le e.q.hi (negsuc 0)) (at_most N e.v.hi C m) t in
    let f = and_parts (at_least N v u m) (at_most N v u M) (s.back (omega (arith, linear, b.0, w.q_hi))) in
    at_least-at_most N v u C m k f.0 (at_most_grow N e.v.hi C m v C k b.1 w.v_hi (omega (arith, linear)))
drop_sound m M N q u v e OfTo true C k s w t =
    let b = and_parts (int_le e.q.hi (negsuc 0)) (at_most N C e.u.lo m) t in
    let f = and_parts (at_least N v u m) (at_most N v u M) (s.back (omega (arith, linear, b.0, w.q_hi))) in
    at_most-at_least N C v u m (at_most_grow N C e.u.lo m C u k b.1 (omega (arith, linear)) w.u_lo) f.0
drop_sound m M N q u v e OfTo false C k s w t =
    let b = and_parts (int_le (pos 1) e.q.lo) (at_most N e.u.hi C m) t in
    let f = and_parts (at_least N u v m) (at_most N u v M) (s.forward (omega (arith, linear, b.0, w.q_lo))) in
    at_least-at_most N u v C m k f.0 (at_most_grow N e.u.hi C m u C k b.1 w.u_hi (omega (arith, linear)))

drop_closed : (m M N q u v : ℤ) (e : ArcEnds) → pos 0 ≤ℤ N → LossSays m M N q u v → Inside q u v e → IsTrue (drop_closing m N e) → ⊥
drop_closed m M N q u v e k s w t =
    elim (either (int_le (pos 1) e.q.lo && not (at_least N e.u.hi e.v.lo m)) (int_le e.q.hi (negsuc 0) && not (at_least N e.v.hi e.u.lo m)) t) [
      | inl one ↦
          let b = and_parts (int_le (pos 1) e.q.lo) (not (at_least N e.u.hi e.v.lo m)) one in
          let f = and_parts (at_least N u v m) (at_most N u v M) (s.forward (omega (arith, linear, b.0, w.q_lo))) in
          not_true (at_least N e.u.hi e.v.lo m) b.1 (at_least_grow N u v m e.u.hi e.v.lo k f.0 w.u_hi w.v_lo)
      | inr other ↦
          let b = and_parts (int_le e.q.hi (negsuc 0)) (not (at_least N e.v.hi e.u.lo m)) other in
          let f = and_parts (at_least N v u m) (at_most N v u M) (s.back (omega (arith, linear, b.0, w.q_hi))) in
          not_true (at_least N e.v.hi e.u.lo m) b.1 (at_least_grow N v u m e.v.hi e.u.lo k f.0 w.v_hi w.u_lo)
    ]

-- ---- the parts of the law of an active arc
pub record ReducesSays (in_min out_max m M N q u v : ℤ) : Type 0 where
  pub way : IsTrue (int_le (pos 0) q)
  pub falls : IsTrue (falls_between m M N u v)
  pub inner : IsTrue (keeps_inner in_min out_max N u v)

reduces_says : (in_min out_max m M N q u v : ℤ) → IsTrue (meets_form (Reduces in_min out_max m M) N q u v) → ReducesSays in_min out_max m M N q u v
reduces_says in_min out_max m M N q u v h =
    let a = and_parts (int_le (pos 0) q && falls_between m M N u v) (keeps_inner in_min out_max N u v) h in
    let b = and_parts (int_le (pos 0) q) (falls_between m M N u v) a.0 in
    record { way = b.0; falls = b.1; inner = a.1 }

pub record RaisesSays (in_min out_max num den M N q u v : ℤ) : Type 0 where
  pub way : IsTrue (int_le (pos 0) q)
  pub order : u ≤ℤ v
  pub rise : IsTrue (at_most N v u M)
  pub ratio : IsTrue (keeps_ratio num den u v)
  pub inner : IsTrue (keeps_inner in_min out_max N u v)

raises_says : (in_min out_max num den M N q u v : ℤ) → IsTrue (meets_form (Raises in_min out_max num den M) N q u v) → RaisesSays in_min out_max num den M N q u v
raises_says in_min out_max num den M N q u v h =
    let a = and_parts (int_le (pos 0) q && rises_within num den M N u v) (keeps_inner in_min out_max N u v) h in
    let b = and_parts (int_le (pos 0) q) (rises_within num den M N u v) a.0 in
    let c = and_parts (int_le u v && at_most N v u M) (keeps_ratio num den u v) b.1 in
    let d = and_parts (int_le u v) (at_most N v u M) c.0 in
    record { way = b.0; order = omega (arith, linear, d.0); rise = d.1; ratio = c.1; inner = a.1 }

-- ---- all rules
pub step_beyond : (rule : Rule) (form : LawForm) (N q u v : ℤ) (e : ArcEnds) (x : ArcVar) (low : Bool) (C : ℤ) → IsForm form → pos 0 <ℤ N → IsTrue (meets_form form N q u v) → Inside q u v e → IsTrue (arc_step rule form N e x low C) → Beyond low C (value_of x q u v)
step_beyond Pipe (Drags law) N q u v e x low C i k h w t = pipe_sound law N q u v e x low C i k h w t
step_beyond Equal Equals N q u v e x low C i k h w t = equal_sound q u v e x low C h w t
step_beyond Zero Shuts N q u v e x low C i k h w t = zero_sound q u v x low C h t
step_beyond Way (Reduces in_min out_max m M) N q u v e x low C i k h w t = way_sound q u v x low C (reduces_says in_min out_max m M N q u v h).way t
step_beyond Way (Raises in_min out_max num den M) N q u v e x low C i k h w t = way_sound q u v x low C (raises_says in_min out_max num den M N q u v h).way t
step_beyond Inner (Reduces in_min out_max m M) N q u v e x low C i k h w t = inner_sound in_min out_max N q u v x low C (reduces_says in_min out_max m M N q u v h).inner t
step_beyond Inner (Raises in_min out_max num den M) N q u v e x low C i k h w t = inner_sound in_min out_max N q u v x low C (raises_says in_min out_max num den M N q u v h).inner t
step_beyond Fall (Reduces in_min out_max m M) N q u v e x low C i k h w t = fall_sound m M N q u v e x low C (omega (arith, linear)) (reduces_says in_min out_max m M N q u v h).falls w t
step_beyond Order (Raises in_min out_max num den M) N q u v e x low C i k h w t = order_sound q u v e x low C (raises_says in_min out_max num den M N q u v h).order w t
step_beyond Rise (Raises in_min out_max num den M) N q u v e x low C i k h w t = rise_sound M N q u v e x low C (omega (arith, linear)) (raises_says in_min out_max num den M N q u v h).rise w t
step_beyond Ratio (Raises in_min out_max num den M) N q u v e x low C i k h w t = ratio_sound num den q u v e x low C i (raises_says in_min out_max num den M N q u v h).ratio w t
step_beyond Sign (Loses m M) N q u v e x low C i k h w t = sign_sound m M N q u v e x low C (omega (arith, linear)) (loss_says m M N q u v h) w t
step_beyond Reach (Loses m M) N q u v e x low C i k h w t = reach_sound m M N q u v e x low C (omega (arith, linear)) (loss_says m M N q u v h) w t
step_beyond Along (Loses m M) N q u v e x low C i k h w t = along_sound m M N q u v e x low C (omega (arith, linear)) (loss_says m M N q u v h) w t
step_beyond Drop (Loses m M) N q u v e x low C i k h w t = drop_sound m M N q u v e x low C (omega (arith, linear)) (loss_says m M N q u v h) w t
step_beyond rule form N q u v e x low C i k h w t = absurd cc

pub closing_none : (rule : Rule) (form : LawForm) (N q u v : ℤ) (e : ArcEnds) → IsForm form → pos 0 <ℤ N → IsTrue (meets_form form N q u v) → Inside q u v e → IsTrue (arc_closing rule form N e) → ⊥
closing_none Pipe (Drags law) N q u v e i k h w t = pipe_closed law N q u v e i k h w t
closing_none Fall (Reduces in_min out_max m M) N q u v e i k h w t = fall_closed m M N q u v e (omega (arith, linear)) (reduces_says in_min out_max m M N q u v h).falls w t
closing_none Rise (Raises in_min out_max num den M) N q u v e i k h w t = rise_closed M N q u v e (omega (arith, linear)) (raises_says in_min out_max num den M N q u v h).rise w t
closing_none Ratio (Raises in_min out_max num den M) N q u v e i k h w t = ratio_closed num den q u v e (raises_says in_min out_max num den M N q u v h).ratio w t
closing_none Reach (Loses m M) N q u v e i k h w t = reach_closed m M N q u v e (omega (arith, linear)) (loss_says m M N q u v h) w t
closing_none Drop (Loses m M) N q u v e i k h w t = drop_closed m M N q u v e (omega (arith, linear)) (loss_says m M N q u v h) w t
closing_none rule form N q u v e i k h w t = cc
