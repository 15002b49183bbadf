-- The law of an arc gives in a tighter box what it gives in a looser one.
use Rattle.std.proofs.Common.{refl, arith, ℤ, pos, negsuc, ◌-ℤ◌, ◌*ℤ◌, ◌≤ℤ◌, ◌<ℤ◌, Bool, true, false, ◌&&◌, ◌||◌, not, int_le, IsTrue}
use Rattle.std.proofs.lemmas.Bool.{and_parts, and_from}
use Rattle.integer_laws.proofs.Ring.{linear, mul_le_left, mul_pos, square_nonneg}
use Rattle.gas_model.specs.declared.law_forms.PipeLaw.{PipeLaw}
use Rattle.gas_model.specs.Curves.{square, at_most, at_least}
use Rattle.gas_model.specs.declared.law_forms.LawForm.{LawForm}
use Rattle.gas_model.specs.declared.law_forms.LawForm.TheVariants.{Drags, Equals, Shuts, Loses, Reduces, Raises}
use Rattle.tree_cert.specs.declared.line.Rule.{Rule}
use Rattle.tree_cert.specs.declared.line.Rule.TheVariants.{Pipe, Equal, Zero, Way, Inner, Fall, Order, Rise, Ratio, Sign, Reach, Along, Drop}
use Rattle.tree_rules.specs.declared.arc_vars.ArcEnds.{ArcEnds}
use Rattle.tree_rules.specs.declared.arc_vars.ArcVar.{ArcVar}
use Rattle.tree_rules.specs.declared.arc_vars.ArcVar.TheVariants.{OfFlow, OfFrom, OfTo}
use Rattle.tree_rules.specs.ArcRules.{pipe_step, equal_step, fall_step, order_step, rise_step, ratio_step, sign_step, reach_step, along_step, drop_step, arc_step, drops_too_little, drops_too_much, falls_too_little, falls_too_much, is_beyond_reach, is_beyond_reach_back, loses_too_little, loses_too_little_back, arc_closing}
use Rattle.tree_rules.proofs.CurveLaws.{curve_le, at_least_grow, at_most_grow}
use Rattle.tree_rules.proofs.UnitSound.{IsForm, IsDrag, not_true}
use Rattle.trim_rules.specs.Tighter.{AreWithin}

-- the ends of the variables of an arc in a tighter box
pub record AreArcWithin (e f : ArcEnds) : Type 0 where
  pub q : AreWithin e.q f.q
  pub u : AreWithin e.u f.u
  pub v : AreWithin e.v f.v

-- ---- tests
both : (a b c d : Bool) → (IsTrue a → IsTrue c) → (IsTrue b → IsTrue d) → IsTrue (a && b) → IsTrue (c && d)
both a b c d f g t = let s = and_parts a b t in and_from c d (f s.0) (g s.1)

not_from : (a b : Bool) → (IsTrue b → IsTrue a) → IsTrue (not a) → IsTrue (not b)
not_from a false f n = refl
not_from a true f n = absurd (not_true a n (f refl))

-- the root of y is at most the root of x plus D, of a smaller y and of a greater x too; and at least, the other way round
most_left : (K x D y z : ℤ) → pos 0 ≤ℤ K → z ≤ℤ y → IsTrue (at_most K y x D) → IsTrue (at_most K z x D)
most_left K x D y z k h t = at_most_grow K y x D z x k t h (omega (arith, linear))

most_right : (K y D x z : ℤ) → pos 0 ≤ℤ K → x ≤ℤ z → IsTrue (at_most K y x D) → IsTrue (at_most K y z D)
most_right K y D x z k h t = at_most_grow K y x D y z k t (omega (arith, linear)) h

least_left : (K x D y z : ℤ) → pos 0 ≤ℤ K → y ≤ℤ z → IsTrue (at_least K y x D) → IsTrue (at_least K z x D)
least_left K x D y z k h t = at_least_grow K y x D z x k t h (omega (arith, linear))

least_right : (K y D x z : ℤ) → pos 0 ≤ℤ K → z ≤ℤ x → IsTrue (at_least K y x D) → IsTrue (at_least K y z D)
least_right K y D x z k h t = at_least_grow K y x D y z k t (omega (arith, linear)) h

-- what isn't at least so isn't where y is smaller and x greater, and what isn't at most so isn't where y is greater and x smaller
still_less : (K D y x z w : ℤ) → pos 0 ≤ℤ K → z ≤ℤ y → x ≤ℤ w → IsTrue (not (at_least K y x D)) → IsTrue (not (at_least K z w D))
still_less K D y x z w k h g t = not_from (at_least K y x D) (at_least K z w D) (λ s. at_least_grow K z w D y x k s h g) t

still_more : (K D y x z w : ℤ) → pos 0 ≤ℤ K → y ≤ℤ z → w ≤ℤ x → IsTrue (not (at_most K y x D)) → IsTrue (not (at_most K z w D))
still_more K D y x z w k h g t = not_from (at_most K y x D) (at_most K z w D) (λ s. at_most_grow K z w D y x k s h g) t

-- ---- steps
gap_le : (law : PipeLaw) (K a b : ℤ) → IsDrag law.drag → pos 0 <ℤ K → a ≤ℤ b → (law.drag.den *ℤ K *ℤ a) ≤ℤ (law.drag.den *ℤ K *ℤ b)
gap_le law K a b i k h = mul_le_left (law.drag.den *ℤ K) a b (omega (arith, linear, mul_pos law.drag.den K (omega (arith, linear, i.den)) k)) h

pipe_tighter : (law : PipeLaw) (K : ℤ) (e f : ArcEnds) (x : ArcVar) (low : Bool) (C : ℤ) → IsDrag law.drag → pos 0 <ℤ K → AreArcWithin e f → IsTrue (pipe_step law K e x low C) → IsTrue (pipe_step law K f x low C)
pipe_tighter law K e f OfFlow true C i k w t = omega (arith, linear, gap_le law K (e.u.lo -ℤ e.v.hi) (f.u.lo -ℤ f.v.hi) i k (omega (arith, linear, w.u.lo, w.v.hi)))
pipe_tighter law K e f OfFlow false C i k w t = omega (arith, linear, gap_le law K (f.u.hi -ℤ f.v.lo) (e.u.hi -ℤ e.v.lo) i k (omega (arith, linear, w.u.hi, w.v.lo)))
pipe_tighter law K e f OfFrom true C i k w t = omega (arith, linear, gap_le law K (C -ℤ f.v.lo) (C -ℤ e.v.lo) i k (omega (arith, linear, w.v.lo)), curve_le law.drag.lo law.drag.hi e.q.lo f.q.lo i.lo i.hi w.q.lo)
pipe_tighter law K e f OfFrom false C i k w t = omega (arith, linear, gap_le law K (C -ℤ e.v.hi) (C -ℤ f.v.hi) i k (omega (arith, linear, w.v.hi)), curve_le law.drag.hi law.drag.lo f.q.hi e.q.hi i.hi i.lo w.q.hi)
pipe_tighter law K e f OfTo true C i k w t = omega (arith, linear, gap_le law K (e.u.lo -ℤ C) (f.u.lo -ℤ C) i k (omega (arith, linear, w.u.lo)), curve_le law.drag.hi law.drag.lo f.q.hi e.q.hi i.hi i.lo w.q.hi)
pipe_tighter law K e f OfTo false C i k w t = omega (arith, linear, gap_le law K (f.u.hi -ℤ C) (e.u.hi -ℤ C) i k (omega (arith, linear, w.u.hi)), curve_le law.drag.lo law.drag.hi e.q.lo f.q.lo i.lo i.hi w.q.lo)

equal_tighter : (e f : ArcEnds) (x : ArcVar) (low : Bool) (C : ℤ) → AreArcWithin e f → IsTrue (equal_step e x low C) → IsTrue (equal_step f x low C)
equal_tighter e f OfFlow low C w t = absurd cc
equal_tighter e f OfFrom true C w t = omega (arith, linear, w.v.lo)
equal_tighter e f OfFrom false C w t = omega (arith, linear, w.v.hi)
equal_tighter e f OfTo true C w t = omega (arith, linear, w.u.lo)
equal_tighter e f OfTo false C w t = omega (arith, linear, w.u.hi)

fall_tighter : (m M K : ℤ) (e f : ArcEnds) (x : ArcVar) (low : Bool) (C : ℤ) → pos 0 ≤ℤ K → AreArcWithin e f → IsTrue (fall_step m M K e x low C) → IsTrue (fall_step m M K f x low C)
fall_tighter m M K e f OfFlow low C k w t = absurd cc
fall_tighter m M K e f OfFrom true C k w t = most_right K C m e.v.lo f.v.lo k w.v.lo t
fall_tighter m M K e f OfFrom false C k w t = least_right K C M e.v.hi f.v.hi k w.v.hi t
fall_tighter m M K e f OfTo true C k w t = least_left K C M e.u.lo f.u.lo k w.u.lo t
fall_tighter m M K e f OfTo false C k w t = most_left K C m e.u.hi f.u.hi k w.u.hi t

order_tighter : (e f : ArcEnds) (x : ArcVar) (low : Bool) (C : ℤ) → AreArcWithin e f → IsTrue (order_step e x low C) → IsTrue (order_step f x low C)
order_tighter e f OfFlow low C w t = absurd cc
order_tighter e f OfFrom true C w t = absurd cc
order_tighter e f OfFrom false C w t = omega (arith, linear, w.v.hi)
order_tighter e f OfTo true C w t = omega (arith, linear, w.u.lo)
order_tighter e f OfTo false C w t = absurd cc

rise_tighter : (M K : ℤ) (e f : ArcEnds) (x : ArcVar) (low : Bool) (C : ℤ) → pos 0 ≤ℤ K → AreArcWithin e f → IsTrue (rise_step M K e x low C) → IsTrue (rise_step M K f x low C)
rise_tighter M K e f OfFlow low C k w t = absurd cc
rise_tighter M K e f OfFrom true C k w t = least_left K C M e.v.lo f.v.lo k w.v.lo t
rise_tighter M K e f OfFrom false C k w t = absurd cc
rise_tighter M K e f OfTo true C k w t = absurd cc
rise_tighter M K e f OfTo false C k w t = least_right K C M e.u.hi f.u.hi k w.u.hi t

ratio_tighter : (num den : ℤ) (e f : ArcEnds) (x : ArcVar) (low : Bool) (C : ℤ) → AreArcWithin e f → IsTrue (ratio_step num den e x low C) → IsTrue (ratio_step num den f x low C)
ratio_tighter num den e f OfFlow low C w t = absurd cc
ratio_tighter num den e f OfFrom true C w t = omega (arith, linear, mul_le_left (square den) e.v.lo f.v.lo (square_nonneg den) w.v.lo)
ratio_tighter num den e f OfFrom false C w t = absurd cc
ratio_tighter num den e f OfTo true C w t = absurd cc
ratio_tighter num den e f OfTo false C w t = omega (arith, linear, mul_le_left (square num) f.u.hi e.u.hi (square_nonneg num) w.u.hi)

sign_tighter : (m K : ℤ) (e f : ArcEnds) (x : ArcVar) (low : Bool) (C : ℤ) → pos 0 ≤ℤ K → AreArcWithin e f → IsTrue (sign_step m K e x low C) → IsTrue (sign_step m K f x low C)
sign_tighter m K e f OfFlow true C k w t = both (int_le C (pos 0)) (not (at_least K e.v.hi e.u.lo m)) (int_le C (pos 0)) (not (at_least K f.v.hi f.u.lo m)) (λ s. s) (still_less K m e.v.hi e.u.lo f.v.hi f.u.lo k w.v.hi w.u.lo) t
sign_tighter m K e f OfFlow false C k w t = both (int_le (pos 0) C) (not (at_least K e.u.hi e.v.lo m)) (int_le (pos 0) C) (not (at_least K f.u.hi f.v.lo m)) (λ s. s) (still_less K m e.u.hi e.v.lo f.u.hi f.v.lo k w.u.hi w.v.lo) t
sign_tighter m K e f OfFrom low C k w t = absurd cc
sign_tighter m K e f OfTo low C k w t = absurd cc

reach_tighter : (M K : ℤ) (e f : ArcEnds) (x : ArcVar) (low : Bool) (C : ℤ) → pos 0 ≤ℤ K → AreArcWithin e f → IsTrue (reach_step M K e x low C) → IsTrue (reach_step M K f x low C)
reach_tighter M K e f OfFlow low C k w t = absurd cc
reach_tighter M K e f OfFrom true C k w t = least_left K C M e.v.lo f.v.lo k w.v.lo t
reach_tighter M K e f OfFrom false C k w t = least_right K C M e.v.hi f.v.hi k w.v.hi t
reach_tighter M K e f OfTo true C k w t = least_left K C M e.u.lo f.u.lo k w.u.lo t
reach_tighter M K e f OfTo false C k w t = least_right K C M e.u.hi f.u.hi k w.u.hi t

along_tighter : (e f : ArcEnds) (x : ArcVar) (low : Bool) (C : ℤ) → AreArcWithin e f → IsTrue (along_step e x low C) → IsTrue (along_step f x low C)
along_tighter e f OfFlow low C w t = absurd cc
along_tighter e f OfFrom true C w t = both (int_le (pos 0) e.q.lo) (int_le C e.v.lo) (int_le (pos 0) f.q.lo) (int_le C f.v.lo) (λ s. omega (arith, linear, w.q.lo)) (λ s. omega (arith, linear, w.v.lo)) t
along_tighter e f OfFrom false C w t = both (int_le e.q.hi (pos 0)) (int_le e.v.hi C) (int_le f.q.hi (pos 0)) (int_le f.v.hi C) (λ s. omega (arith, linear, w.q.hi)) (λ s. omega (arith, linear, w.v.hi)) t
along_tighter e f OfTo true C w t = both (int_le e.q.hi (pos 0)) (int_le C e.u.lo) (int_le f.q.hi (pos 0)) (int_le C f.u.lo) (λ s. omega (arith, linear, w.q.hi)) (λ s. omega (arith, linear, w.u.lo)) t
along_tighter e f OfTo false C w t = both (int_le (pos 0) e.q.lo) (int_le e.u.hi C) (int_le (pos 0) f.q.lo) (int_le f.u.hi C) (λ s. omega (arith, linear, w.q.lo)) (λ s. omega (arith, linear, w.u.hi)) t

drop_tighter : (m K : ℤ) (e f : ArcEnds) (x : ArcVar) (low : Bool) (C : ℤ) → pos 0 ≤ℤ K → AreArcWithin e f → IsTrue (drop_step m K e x low C) → IsTrue (drop_step m K f x low C)
drop_tighter m K e f OfFlow low C k w t = absurd cc
drop_tighter m K e f OfFrom true C k w t = both (int_le (pos 1) e.q.lo) (at_most K C e.v.lo m) (int_le (pos 1) f.q.lo) (at_most K C f.v.lo m) (λ s. omega (arith, linear, w.q.lo)) (most_right K C m e.v.lo f.v.lo k w.v.lo) t
drop_tighter m K e f OfFrom false C k w t = both (int_le e.q.hi (negsuc 0)) (at_most K e.v.hi C m) (int_le f.q.hi (negsuc 0)) (at_most K f.v.hi C m) (λ s. omega (arith, linear, w.q.hi)) (most_left K C m e.v.hi f.v.hi k w.v.hi) t
drop_tighter m K e f OfTo true C k w t = both (int_le e.q.hi (negsuc 0)) (at_most K C e.u.lo m) (int_le f.q.hi (negsuc 0)) (at_most K C f.u.lo m) (λ s. omega (arith, linear, w.q.hi)) (most_right K C m e.u.lo f.u.lo k w.u.lo) t
drop_tighter m K e f OfTo false C k w t = both (int_le (pos 1) e.q.lo) (at_most K e.u.hi C m) (int_le (pos 1) f.q.lo) (at_most K f.u.hi C m) (λ s. omega (arith, linear, w.q.lo)) (most_left K C m e.u.hi f.u.hi k w.u.hi) t

pub arc_tighter : (rule : Rule) (form : LawForm) (K : ℤ) (e f : ArcEnds) (x : ArcVar) (low : Bool) (C : ℤ) → IsForm form → pos 0 <ℤ K → AreArcWithin e f → IsTrue (arc_step rule form K e x low C) → IsTrue (arc_step rule form K f x low C)
arc_tighter Pipe (Drags law) K e f x low C i k w t = pipe_tighter law K e f x low C i k w t
arc_tighter Equal Equals K e f x low C i k w t = equal_tighter e f x low C w t
arc_tighter Zero Shuts K e f x low C i k w t = t
arc_tighter Way (Reduces in_min out_max m M) K e f x low C i k w t = t
arc_tighter Way (Raises in_min out_max num den M) K e f x low C i k w t = t
arc_tighter Inner (Reduces in_min out_max m M) K e f x low C i k w t = t
arc_tighter Inner (Raises in_min out_max num den M) K e f x low C i k w t = t
arc_tighter Fall (Reduces in_min out_max m M) K e f x low C i k w t = fall_tighter m M K e f x low C (omega (arith, linear)) w t
arc_tighter Order (Raises in_min out_max num den M) K e f x low C i k w t = order_tighter e f x low C w t
arc_tighter Rise (Raises in_min out_max num den M) K e f x low C i k w t = rise_tighter M K e f x low C (omega (arith, linear)) w t
arc_tighter Ratio (Raises in_min out_max num den M) K e f x low C i k w t = ratio_tighter num den e f x low C w t
arc_tighter Sign (Loses m M) K e f x low C i k w t = sign_tighter m K e f x low C (omega (arith, linear)) w t
arc_tighter Reach (Loses m M) K e f x low C i k w t = reach_tighter M K e f x low C (omega (arith, linear)) w t
arc_tighter Along (Loses m M) K e f x low C i k w t = along_tighter e f x low C w t
arc_tighter Drop (Loses m M) K e f x low C i k w t = drop_tighter m K e f x low C (omega (arith, linear)) w t
arc_tighter rule form K e f x low C i k w t = absurd cc

-- ---- closings
pub one_of : (a b c d : Bool) → (IsTrue a → IsTrue c) → (IsTrue b → IsTrue d) → IsTrue (a || b) → IsTrue (c || d)
one_of a b true d f g t = refl
one_of true b false d f g t = absurd (let s = f refl in cc)
one_of false b false d f g t = g t

drops_little : (law : PipeLaw) (K : ℤ) (e f : ArcEnds) → IsDrag law.drag → pos 0 <ℤ K → AreArcWithin e f → IsTrue (drops_too_little law K e) → IsTrue (drops_too_little law K f)
drops_little law K e f i k w t = omega (arith, linear, gap_le law K (f.u.hi -ℤ f.v.lo) (e.u.hi -ℤ e.v.lo) i k (omega (arith, linear, w.u.hi, w.v.lo)), curve_le law.drag.lo law.drag.hi e.q.lo f.q.lo i.lo i.hi w.q.lo)

drops_much : (law : PipeLaw) (K : ℤ) (e f : ArcEnds) → IsDrag law.drag → pos 0 <ℤ K → AreArcWithin e f → IsTrue (drops_too_much law K e) → IsTrue (drops_too_much law K f)
drops_much law K e f i k w t = omega (arith, linear, gap_le law K (e.u.lo -ℤ e.v.hi) (f.u.lo -ℤ f.v.hi) i k (omega (arith, linear, w.u.lo, w.v.hi)), curve_le law.drag.hi law.drag.lo f.q.hi e.q.hi i.hi i.lo w.q.hi)

pub closing_tighter : (rule : Rule) (form : LawForm) (K : ℤ) (e f : ArcEnds) → IsForm form → pos 0 <ℤ K → AreArcWithin e f → IsTrue (arc_closing rule form K e) → IsTrue (arc_closing rule form K f)
closing_tighter Pipe (Drags law) K e f i k w t = one_of (drops_too_little law K e) (drops_too_much law K e) (drops_too_little law K f) (drops_too_much law K f) (drops_little law K e f i k w) (drops_much law K e f i k w) t
closing_tighter Fall (Reduces in_min out_max m M) K e f i k w t =
    one_of (falls_too_little m K e) (falls_too_much M K e) (falls_too_little m K f) (falls_too_much M K f)
    (still_less K m e.u.hi e.v.lo f.u.hi f.v.lo (omega (arith, linear)) w.u.hi w.v.lo) (still_more K M e.u.lo e.v.hi f.u.lo f.v.hi (omega (arith, linear)) w.u.lo w.v.hi) t
closing_tighter Rise (Raises in_min out_max num den M) K e f i k w t = still_more K M e.v.lo e.u.hi f.v.lo f.u.hi (omega (arith, linear)) w.v.lo w.u.hi t
closing_tighter Ratio (Raises in_min out_max num den M) K e f i k w t =
    omega (arith, linear, mul_le_left (square den) e.v.lo f.v.lo (square_nonneg den) w.v.lo, mul_le_left (square num) f.u.hi e.u.hi (square_nonneg num) w.u.hi)
closing_tighter Reach (Loses m M) K e f i k w t =
    one_of (is_beyond_reach M K e) (is_beyond_reach_back M K e) (is_beyond_reach M K f) (is_beyond_reach_back M K f)
    (still_more K M e.u.lo e.v.hi f.u.lo f.v.hi (omega (arith, linear)) w.u.lo w.v.hi) (still_more K M e.v.lo e.u.hi f.v.lo f.u.hi (omega (arith, linear)) w.v.lo w.u.hi) t
closing_tighter Drop (Loses m M) K e f i k w t =
    one_of (loses_too_little m K e) (loses_too_little_back m K e) (loses_too_little m K f) (loses_too_little_back m K f)
    (both (int_le (pos 1) e.q.lo) (not (at_least K e.u.hi e.v.lo m)) (int_le (pos 1) f.q.lo) (not (at_least K f.u.hi f.v.lo m)) (λ s. omega (arith, linear, w.q.lo)) (still_less K m e.u.hi e.v.lo f.u.hi f.v.lo (omega (arith, linear)) w.u.hi w.v.lo))
    (both (int_le e.q.hi (negsuc 0)) (not (at_least K e.v.hi e.u.lo m)) (int_le f.q.hi (negsuc 0)) (not (at_least K f.v.hi f.u.lo m)) (λ s. omega (arith, linear, w.q.hi)) (still_less K m e.v.hi e.u.lo f.v.hi f.u.lo (omega (arith, linear)) w.v.hi w.u.lo)) t
closing_tighter rule form K e f i k w t = absurd cc
