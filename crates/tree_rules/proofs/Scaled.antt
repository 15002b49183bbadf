-- A law that holds of a point, and a step or a closing that holds of a box, hold where each number counts k times.
use Rattle.std.proofs.Common.{◌≡◌, ◌⊎◌, inl, inr, sym, ap, ◌∙◌, arith, ℤ, pos, negsuc, ◌-ℤ◌, ◌*ℤ◌, ◌<ℤ◌, Bool, true, false, cond, ◌||◌, ◌&&◌, not, int_le, int_lt, IsTrue}
use Rattle.std.specs.Ordering.{int_eq}
use Rattle.std.proofs.lemmas.Bool.Decides.{Decides-int_eq}
use Rattle.std.proofs.lemmas.Bool.{and_parts, and_from}
use Rattle.integer_laws.proofs.Ring.{linear, mul_assoc, mul_left_comm, mul_le_left, mul_lt_left, mul_zero, mul_neg, mul_one, le_scale}
use Rattle.gas_model.specs.declared.law_forms.PipeLaw.{PipeLaw}
use Rattle.gas_model.specs.declared.rows.Ends.{Ends}
use Rattle.gas_model.specs.Curves.{square, curve, drop_low, drop_high, at_most, at_least, meets_resistance, falls_between, meets_loss, keeps_inner, keeps_ratio, rises_within}
use Rattle.gas_model.specs.declared.law_forms.LawForm.{LawForm}
use Rattle.gas_model.specs.declared.law_forms.LawForm.TheVariants.{Drags, Equals, Shuts, Loses, Reduces, Raises, Never}
use Rattle.gas_model.specs.Laws.{meets_form}
use Rattle.tree_cert.specs.declared.line.Rule.{Rule}
use Rattle.tree_cert.specs.declared.line.Rule.TheVariants.{Pipe, Equal, Zero, Way, Inner, Fall, Order, Rise, Ratio, Sign, Reach, Along, Drop}
use Rattle.tree_rules.specs.declared.arc_vars.ArcEnds.{ArcEnds}
use Rattle.tree_rules.specs.declared.arc_vars.ArcVar.{ArcVar}
use Rattle.tree_rules.specs.declared.arc_vars.ArcVar.TheVariants.{OfFlow, OfFrom, OfTo}
use Rattle.tree_rules.specs.ArcRules.{pipe_step, equal_step, zero_step, way_step, inner_step, fall_step, order_step, rise_step, ratio_step, sign_step, reach_step, along_step, drop_step, arc_step, pipe_closing, drop_closing, arc_closing}
use Rattle.tree_rules.proofs.CurveLaws.{square_pos, curve_scale, gap_scale, at_least_scale, at_most_scale, sign_scale, sign_scale_back}
use Rattle.tree_rules.proofs.UnitSound.{either}

abbrev pub scaled_ends : ℤ → Ends → Ends
scaled_ends k e = record { lo = k *ℤ e.lo; hi = k *ℤ e.hi }

abbrev pub scaled : ℤ → ArcEnds → ArcEnds
scaled k e = record { q = scaled_ends k e.q; u = scaled_ends k e.u; v = scaled_ends k e.v }

-- ---- tests of numbers that count k times
le_up : (k a b : ℤ) → pos 0 <ℤ k → IsTrue (int_le a b) → IsTrue (int_le (k *ℤ a) (k *ℤ b))
le_up k a b h t = le_scale k a b h ∙ t

lt_up : (k a b : ℤ) → pos 0 <ℤ k → IsTrue (int_lt a b) → IsTrue (int_lt (k *ℤ a) (k *ℤ b))
lt_up k a b h t = omega (arith, linear, mul_lt_left k a b h (omega (arith, linear)))

from_zero : (k a : ℤ) → pos 0 <ℤ k → IsTrue (int_le (pos 0) a) → IsTrue (int_le (pos 0) (k *ℤ a))
from_zero k a h t = sign_scale k a h ∙ t

to_zero : (k a : ℤ) → pos 0 <ℤ k → IsTrue (int_le a (pos 0)) → IsTrue (int_le (k *ℤ a) (pos 0))
to_zero k a h t = sign_scale_back k a h ∙ t

from_one : (k a : ℤ) → pos 0 <ℤ k → IsTrue (int_le (pos 1) a) → IsTrue (int_le (pos 1) (k *ℤ a))
from_one k a h t = omega (arith, linear, mul_one k, mul_le_left k (pos 1) a (omega (arith, linear)) (omega (arith, linear)))

to_minus_one : (k a : ℤ) → pos 0 <ℤ k → IsTrue (int_le a (negsuc 0)) → IsTrue (int_le (k *ℤ a) (negsuc 0))
to_minus_one k a h t = omega (arith, linear, mul_one k, mul_neg k (pos 1), mul_le_left k a (negsuc 0) (omega (arith, linear)) (omega (arith, linear)))

least_up : (k d y x D : ℤ) → pos 0 <ℤ k → IsTrue (at_least d y x D) → IsTrue (at_least (k *ℤ d) (k *ℤ y) (k *ℤ x) D)
least_up k d y x D h t = at_least_scale k d y x D h ∙ t

most_up : (k d y x D : ℤ) → pos 0 <ℤ k → IsTrue (at_most d y x D) → IsTrue (at_most (k *ℤ d) (k *ℤ y) (k *ℤ x) D)
most_up k d y x D h t = at_most_scale k d y x D h ∙ t

not_least_up : (k d y x D : ℤ) → pos 0 <ℤ k → IsTrue (not (at_least d y x D)) → IsTrue (not (at_least (k *ℤ d) (k *ℤ y) (k *ℤ x) D))
not_least_up k d y x D h t = ap not (at_least_scale k d y x D h) ∙ t

not_most_up : (k d y x D : ℤ) → pos 0 <ℤ k → IsTrue (not (at_most d y x D)) → IsTrue (not (at_most (k *ℤ d) (k *ℤ y) (k *ℤ x) D))
not_most_up k d y x D h t = ap not (at_most_scale k d y x D h) ∙ t

or_from : (a b : Bool) → IsTrue a ⊎ IsTrue b → IsTrue (a || b)
or_from a b h = grind arith

and_up : (a b c d : Bool) → (IsTrue a → IsTrue c) → (IsTrue b → IsTrue d) → IsTrue (a && b) → IsTrue (c && d)
and_up a b c d f g h = let t = and_parts a b h in and_from c d (f t.0) (g t.1)

or_up : (a b c d : Bool) → (IsTrue a → IsTrue c) → (IsTrue b → IsTrue d) → IsTrue (a || b) → IsTrue (c || d)
or_up a b c d f g h = or_from c d (elim (either a b h) [ inl p ↦ inl (f p) | inr q ↦ inr (g q) ])

-- ---- the drop along a resistance
gap_up : (k f g den m q a b : ℤ) → pos 0 <ℤ k → IsTrue (int_le (curve f g q) (den *ℤ m *ℤ (a -ℤ b))) → IsTrue (int_le (curve f g (k *ℤ q)) (den *ℤ (k *ℤ m) *ℤ (k *ℤ a -ℤ k *ℤ b)))
gap_up k f g den m q a b h t = rw (curve_scale f g k q h, gap_scale den k m a b) (le_up (square k) (curve f g q) (den *ℤ m *ℤ (a -ℤ b)) (square_pos k h) t)

gap_down : (k f g den m q a b : ℤ) → pos 0 <ℤ k → IsTrue (int_le (den *ℤ m *ℤ (a -ℤ b)) (curve f g q)) → IsTrue (int_le (den *ℤ (k *ℤ m) *ℤ (k *ℤ a -ℤ k *ℤ b)) (curve f g (k *ℤ q)))
gap_down k f g den m q a b h t = rw (curve_scale f g k q h, gap_scale den k m a b) (le_up (square k) (den *ℤ m *ℤ (a -ℤ b)) (curve f g q) (square_pos k h) t)

gap_above : (k f g den m q a b : ℤ) → pos 0 <ℤ k → IsTrue (int_lt (curve f g q) (den *ℤ m *ℤ (a -ℤ b))) → IsTrue (int_lt (curve f g (k *ℤ q)) (den *ℤ (k *ℤ m) *ℤ (k *ℤ a -ℤ k *ℤ b)))
gap_above k f g den m q a b h t = rw (curve_scale f g k q h, gap_scale den k m a b) (lt_up (square k) (curve f g q) (den *ℤ m *ℤ (a -ℤ b)) (square_pos k h) t)

gap_below : (k f g den m q a b : ℤ) → pos 0 <ℤ k → IsTrue (int_lt (den *ℤ m *ℤ (a -ℤ b)) (curve f g q)) → IsTrue (int_lt (den *ℤ (k *ℤ m) *ℤ (k *ℤ a -ℤ k *ℤ b)) (curve f g (k *ℤ q)))
gap_below k f g den m q a b h t = rw (curve_scale f g k q h, gap_scale den k m a b) (lt_up (square k) (den *ℤ m *ℤ (a -ℤ b)) (curve f g q) (square_pos k h) t)

-- ---- the law of a point
eq_up : (k a b : ℤ) → IsTrue (int_eq a b) → IsTrue (int_eq (k *ℤ a) (k *ℤ b))
eq_up k a b h = (Decides-int_eq (k *ℤ a) (k *ℤ b)).1 (ap (λ (z : ℤ). k *ℤ z) ((Decides-int_eq a b).0 h))

eq_zero_up : (k a : ℤ) → IsTrue (int_eq a (pos 0)) → IsTrue (int_eq (k *ℤ a) (pos 0))
eq_zero_up k a h = (Decides-int_eq (k *ℤ a) (pos 0)).1 (ap (λ (z : ℤ). k *ℤ z) ((Decides-int_eq a (pos 0)).0 h) ∙ mul_zero k)

falls_up : (m M k d u v : ℤ) → pos 0 <ℤ k → IsTrue (falls_between m M d u v) → IsTrue (falls_between m M (k *ℤ d) (k *ℤ u) (k *ℤ v))
falls_up m M k d u v h t = and_up (at_least d u v m) (at_most d u v M) (at_least (k *ℤ d) (k *ℤ u) (k *ℤ v) m) (at_most (k *ℤ d) (k *ℤ u) (k *ℤ v) M) (least_up k d u v m h) (most_up k d u v M h) t

product_le_up : (k d m u : ℤ) → pos 0 <ℤ k → IsTrue (int_le (d *ℤ m) u) → IsTrue (int_le ((k *ℤ d) *ℤ m) (k *ℤ u))
product_le_up k d m u h t = rw (mul_assoc k d m) (le_up k (d *ℤ m) u h t)

le_product_up : (k d m v : ℤ) → pos 0 <ℤ k → IsTrue (int_le v (d *ℤ m)) → IsTrue (int_le (k *ℤ v) ((k *ℤ d) *ℤ m))
le_product_up k d m v h t = rw (mul_assoc k d m) (le_up k v (d *ℤ m) h t)

inner_up : (in_min out_max k d u v : ℤ) → pos 0 <ℤ k → IsTrue (keeps_inner in_min out_max d u v) → IsTrue (keeps_inner in_min out_max (k *ℤ d) (k *ℤ u) (k *ℤ v))
inner_up in_min out_max k d u v h t =
    and_up (int_le (d *ℤ square in_min) u) (int_le v (d *ℤ square out_max)) (int_le ((k *ℤ d) *ℤ square in_min) (k *ℤ u)) (int_le (k *ℤ v) ((k *ℤ d) *ℤ square out_max))
    (product_le_up k d (square in_min) u h) (le_product_up k d (square out_max) v h) t

products_up : (k m n a b : ℤ) → pos 0 <ℤ k → IsTrue (int_le (m *ℤ a) (n *ℤ b)) → IsTrue (int_le (m *ℤ (k *ℤ a)) (n *ℤ (k *ℤ b)))
products_up k m n a b h t = rw (mul_left_comm m k a, mul_left_comm n k b) (le_up k (m *ℤ a) (n *ℤ b) h t)

products_lt_up : (k m n a b : ℤ) → pos 0 <ℤ k → IsTrue (int_lt (m *ℤ a) (n *ℤ b)) → IsTrue (int_lt (m *ℤ (k *ℤ a)) (n *ℤ (k *ℤ b)))
products_lt_up k m n a b h t = rw (mul_left_comm m k a, mul_left_comm n k b) (lt_up k (m *ℤ a) (n *ℤ b) h t)

rises_up : (num den M k d u v : ℤ) → pos 0 <ℤ k → IsTrue (rises_within num den M d u v) → IsTrue (rises_within num den M (k *ℤ d) (k *ℤ u) (k *ℤ v))
rises_up num den M k d u v h t =
    and_up (int_le u v && at_most d v u M) (keeps_ratio num den u v) (int_le (k *ℤ u) (k *ℤ v) && at_most (k *ℤ d) (k *ℤ v) (k *ℤ u) M) (keeps_ratio num den (k *ℤ u) (k *ℤ v))
    (and_up (int_le u v) (at_most d v u M) (int_le (k *ℤ u) (k *ℤ v)) (at_most (k *ℤ d) (k *ℤ v) (k *ℤ u) M) (le_up k u v h) (most_up k d v u M h))
    (products_up k (square den) (square num) v u h) t

sign_up : (k q : ℤ) → pos 0 <ℤ k → int_lt (pos 0) (k *ℤ q) ≡ int_lt (pos 0) q
sign_up k q h = grind (arith, linear, mul_lt_left k (pos 0) q h, mul_le_left k q (pos 0) (omega (arith, linear)), mul_zero k)

sign_back : (k q : ℤ) → pos 0 <ℤ k → int_lt (k *ℤ q) (pos 0) ≡ int_lt q (pos 0)
sign_back k q h = grind (arith, linear, mul_lt_left k q (pos 0) h, mul_le_left k (pos 0) q (omega (arith, linear)), mul_zero k)

cond_up : (a b c d p r s x y z : Bool) → a ≡ c → b ≡ d → (IsTrue p → IsTrue x) → (IsTrue r → IsTrue y) → (IsTrue s → IsTrue z) → IsTrue (cond a p (cond b r s)) → IsTrue (cond c x (cond d y z))
cond_up a b true d p r s x y z ea eb f g k h = f (let t : IsTrue p = rw ea at h in t)
cond_up a b false true p r s x y z ea eb f g k h = g (let t : IsTrue r = rw (ea, eb) at h in t)
cond_up a b false false p r s x y z ea eb f g k h = k (let t : IsTrue s = rw (ea, eb) at h in t)

loss_up : (m M k d q u v : ℤ) → pos 0 <ℤ k → IsTrue (meets_loss m M d q u v) → IsTrue (meets_loss m M (k *ℤ d) (k *ℤ q) (k *ℤ u) (k *ℤ v))
loss_up m M k d q u v h t =
    cond_up (int_lt (pos 0) q) (int_lt q (pos 0)) (int_lt (pos 0) (k *ℤ q)) (int_lt (k *ℤ q) (pos 0))
    (falls_between m M d u v) (falls_between m M d v u) (int_eq u v) (falls_between m M (k *ℤ d) (k *ℤ u) (k *ℤ v)) (falls_between m M (k *ℤ d) (k *ℤ v) (k *ℤ u)) (int_eq (k *ℤ u) (k *ℤ v))
    (sym (sign_up k q h)) (sym (sign_back k q h)) (falls_up m M k d u v h) (falls_up m M k d v u h) (eq_up k u v) t

resistance_up : (law : PipeLaw) (k d q u v : ℤ) → pos 0 <ℤ k → IsTrue (meets_resistance law d q u v) → IsTrue (meets_resistance law (k *ℤ d) (k *ℤ q) (k *ℤ u) (k *ℤ v))
resistance_up law k d q u v h t =
    and_up (int_le (drop_low law.drag q) (law.drag.den *ℤ d *ℤ (u -ℤ v))) (int_le (law.drag.den *ℤ d *ℤ (u -ℤ v)) (drop_high law.drag q)) (int_le (drop_low law.drag (k *ℤ q)) (law.drag.den *ℤ (k *ℤ d) *ℤ (k *ℤ u -ℤ k *ℤ v))) (int_le (law.drag.den *ℤ (k *ℤ d) *ℤ (k *ℤ u -ℤ k *ℤ v)) (drop_high law.drag (k *ℤ q)))
    (gap_up k law.drag.lo law.drag.hi law.drag.den d q u v h) (gap_down k law.drag.hi law.drag.lo law.drag.den d q u v h) t

pub meets_up : (form : LawForm) (k d q u v : ℤ) → pos 0 <ℤ k → IsTrue (meets_form form d q u v) → IsTrue (meets_form form (k *ℤ d) (k *ℤ q) (k *ℤ u) (k *ℤ v))
meets_up (Drags law) k d q u v h t = resistance_up law k d q u v h t
meets_up Equals k d q u v h t = eq_up k u v t
meets_up Shuts k d q u v h t = eq_zero_up k q t
meets_up (Loses m M) k d q u v h t = loss_up m M k d q u v h t
meets_up (Reduces in_min out_max m M) k d q u v h t =
    and_up (int_le (pos 0) q && falls_between m M d u v) (keeps_inner in_min out_max d u v) (int_le (pos 0) (k *ℤ q) && falls_between m M (k *ℤ d) (k *ℤ u) (k *ℤ v)) (keeps_inner in_min out_max (k *ℤ d) (k *ℤ u) (k *ℤ v))
    (and_up (int_le (pos 0) q) (falls_between m M d u v) (int_le (pos 0) (k *ℤ q)) (falls_between m M (k *ℤ d) (k *ℤ u) (k *ℤ v)) (from_zero k q h) (falls_up m M k d u v h))
    (inner_up in_min out_max k d u v h) t
meets_up (Raises in_min out_max num den M) k d q u v h t =
    and_up (int_le (pos 0) q && rises_within num den M d u v) (keeps_inner in_min out_max d u v) (int_le (pos 0) (k *ℤ q) && rises_within num den M (k *ℤ d) (k *ℤ u) (k *ℤ v)) (keeps_inner in_min out_max (k *ℤ d) (k *ℤ u) (k *ℤ v))
    (and_up (int_le (pos 0) q) (rises_within num den M d u v) (int_le (pos 0) (k *ℤ q)) (rises_within num den M (k *ℤ d) (k *ℤ u) (k *ℤ v)) (from_zero k q h) (rises_up num den M k d u v h))
    (inner_up in_min out_max k d u v h) t
meets_up Never k d q u v h t = absurd cc

-- ---- the conditions of steps
pipe_up : (law : PipeLaw) (k K : ℤ) (e : ArcEnds) (x : ArcVar) (low : Bool) (C : ℤ) → pos 0 <ℤ k → IsTrue (pipe_step law K e x low C) → IsTrue (pipe_step law (k *ℤ K) (scaled k e) x low (k *ℤ C))
pipe_up law k K e OfFlow true C h t = gap_up k law.drag.hi law.drag.lo law.drag.den K C e.u.lo e.v.hi h t
pipe_up law k K e OfFlow false C h t = gap_down k law.drag.lo law.drag.hi law.drag.den K C e.u.hi e.v.lo h t
pipe_up law k K e OfFrom true C h t = gap_down k law.drag.lo law.drag.hi law.drag.den K e.q.lo C e.v.lo h t
pipe_up law k K e OfFrom false C h t = gap_up k law.drag.hi law.drag.lo law.drag.den K e.q.hi C e.v.hi h t
pipe_up law k K e OfTo true C h t = gap_up k law.drag.hi law.drag.lo law.drag.den K e.q.hi e.u.lo C h t
pipe_up law k K e OfTo false C h t = gap_down k law.drag.lo law.drag.hi law.drag.den K e.q.lo e.u.hi C h t

equal_up : (k : ℤ) (e : ArcEnds) (x : ArcVar) (low : Bool) (C : ℤ) → pos 0 <ℤ k → IsTrue (equal_step e x low C) → IsTrue (equal_step (scaled k e) x low (k *ℤ C))
equal_up k e OfFlow low C h t = absurd cc
equal_up k e OfFrom true C h t = le_up k C e.v.lo h t
equal_up k e OfFrom false C h t = le_up k e.v.hi C h t
equal_up k e OfTo true C h t = le_up k C e.u.lo h t
equal_up k e OfTo false C h t = le_up k e.u.hi C h t

zero_up : (k : ℤ) (x : ArcVar) (low : Bool) (C : ℤ) → pos 0 <ℤ k → IsTrue (zero_step x low C) → IsTrue (zero_step x low (k *ℤ C))
zero_up k OfFlow true C h t = to_zero k C h t
zero_up k OfFlow false C h t = from_zero k C h t
zero_up k OfFrom low C h t = absurd cc
zero_up k OfTo low C h t = absurd cc

way_up : (k : ℤ) (x : ArcVar) (low : Bool) (C : ℤ) → pos 0 <ℤ k → IsTrue (way_step x low C) → IsTrue (way_step x low (k *ℤ C))
way_up k OfFlow true C h t = to_zero k C h t
way_up k OfFlow false C h t = absurd cc
way_up k OfFrom low C h t = absurd cc
way_up k OfTo low C h t = absurd cc

inner_step_up : (in_min out_max k K : ℤ) (x : ArcVar) (low : Bool) (C : ℤ) → pos 0 <ℤ k → IsTrue (inner_step in_min out_max K x low C) → IsTrue (inner_step in_min out_max (k *ℤ K) x low (k *ℤ C))
inner_step_up in_min out_max k K OfFlow low C h t = absurd cc
inner_step_up in_min out_max k K OfFrom true C h t = le_product_up k K (square in_min) C h t
inner_step_up in_min out_max k K OfFrom false C h t = absurd cc
inner_step_up in_min out_max k K OfTo true C h t = absurd cc
inner_step_up in_min out_max k K OfTo false C h t = product_le_up k K (square out_max) C h t

fall_up : (m M k K : ℤ) (e : ArcEnds) (x : ArcVar) (low : Bool) (C : ℤ) → pos 0 <ℤ k → IsTrue (fall_step m M K e x low C) → IsTrue (fall_step m M (k *ℤ K) (scaled k e) x low (k *ℤ C))
fall_up m M k K e OfFlow low C h t = absurd cc
fall_up m M k K e OfFrom true C h t = most_up k K C e.v.lo m h t
fall_up m M k K e OfFrom false C h t = least_up k K C e.v.hi M h t
fall_up m M k K e OfTo true C h t = least_up k K e.u.lo C M h t
fall_up m M k K e OfTo false C h t = most_up k K e.u.hi C m h t

order_up : (k : ℤ) (e : ArcEnds) (x : ArcVar) (low : Bool) (C : ℤ) → pos 0 <ℤ k → IsTrue (order_step e x low C) → IsTrue (order_step (scaled k e) x low (k *ℤ C))
order_up k e OfFlow low C h t = absurd cc
order_up k e OfFrom true C h t = absurd cc
order_up k e OfFrom false C h t = le_up k e.v.hi C h t
order_up k e OfTo true C h t = le_up k C e.u.lo h t
order_up k e OfTo false C h t = absurd cc

rise_up : (M k K : ℤ) (e : ArcEnds) (x : ArcVar) (low : Bool) (C : ℤ) → pos 0 <ℤ k → IsTrue (rise_step M K e x low C) → IsTrue (rise_step M (k *ℤ K) (scaled k e) x low (k *ℤ C))
rise_up M k K e OfFlow low C h t = absurd cc
rise_up M k K e OfFrom true C h t = least_up k K e.v.lo C M h t
rise_up M k K e OfFrom false C h t = absurd cc
rise_up M k K e OfTo true C h t = absurd cc
rise_up M k K e OfTo false C h t = least_up k K C e.u.hi M h t

ratio_up : (num den k : ℤ) (e : ArcEnds) (x : ArcVar) (low : Bool) (C : ℤ) → pos 0 <ℤ k → IsTrue (ratio_step num den e x low C) → IsTrue (ratio_step num den (scaled k e) x low (k *ℤ C))
ratio_up num den k e OfFlow low C h t = absurd cc
ratio_up num den k e OfFrom true C h t = products_up k (square num) (square den) C e.v.lo h t
ratio_up num den k e OfFrom false C h t = absurd cc
ratio_up num den k e OfTo true C h t = absurd cc
ratio_up num den k e OfTo false C h t = products_up k (square num) (square den) e.u.hi C h t

sign_step_up : (m k K : ℤ) (e : ArcEnds) (x : ArcVar) (low : Bool) (C : ℤ) → pos 0 <ℤ k → IsTrue (sign_step m K e x low C) → IsTrue (sign_step m (k *ℤ K) (scaled k e) x low (k *ℤ C))
sign_step_up m k K e OfFlow true C h t = and_up _ _ _ _ (to_zero k C h) (not_least_up k K e.v.hi e.u.lo m h) t
sign_step_up m k K e OfFlow false C h t = and_up _ _ _ _ (from_zero k C h) (not_least_up k K e.u.hi e.v.lo m h) t
sign_step_up m k K e OfFrom low C h t = absurd cc
sign_step_up m k K e OfTo low C h t = absurd cc

reach_up : (M k K : ℤ) (e : ArcEnds) (x : ArcVar) (low : Bool) (C : ℤ) → pos 0 <ℤ k → IsTrue (reach_step M K e x low C) → IsTrue (reach_step M (k *ℤ K) (scaled k e) x low (k *ℤ C))
reach_up M k K e OfFlow low C h t = absurd cc
reach_up M k K e OfFrom true C h t = least_up k K e.v.lo C M h t
reach_up M k K e OfFrom false C h t = least_up k K C e.v.hi M h t
reach_up M k K e OfTo true C h t = least_up k K e.u.lo C M h t
reach_up M k K e OfTo false C h t = least_up k K C e.u.hi M h t

along_up : (k : ℤ) (e : ArcEnds) (x : ArcVar) (low : Bool) (C : ℤ) → pos 0 <ℤ k → IsTrue (along_step e x low C) → IsTrue (along_step (scaled k e) x low (k *ℤ C))
along_up k e OfFlow low C h t = absurd cc
along_up k e OfFrom true C h t = and_up _ _ _ _ (from_zero k e.q.lo h) (le_up k C e.v.lo h) t
along_up k e OfFrom false C h t = and_up _ _ _ _ (to_zero k e.q.hi h) (le_up k e.v.hi C h) t
along_up k e OfTo true C h t = and_up _ _ _ _ (to_zero k e.q.hi h) (le_up k C e.u.lo h) t
along_up k e OfTo false C h t = and_up _ _ _ _ (from_zero k e.q.lo h) (le_up k e.u.hi C h) t

drop_up : (m k K : ℤ) (e : ArcEnds) (x : ArcVar) (low : Bool) (C : ℤ) → pos 0 <ℤ k → IsTrue (drop_step m K e x low C) → IsTrue (drop_step m (k *ℤ K) (scaled k e) x low (k *ℤ C))
drop_up m k K e OfFlow low C h t = absurd cc
drop_up m k K e OfFrom true C h t = and_up _ _ _ _ (from_one k e.q.lo h) (most_up k K C e.v.lo m h) t
drop_up m k K e OfFrom false C h t = and_up _ _ _ _ (to_minus_one k e.q.hi h) (most_up k K e.v.hi C m h) t
drop_up m k K e OfTo true C h t = and_up _ _ _ _ (to_minus_one k e.q.hi h) (most_up k K C e.u.lo m h) t
drop_up m k K e OfTo false C h t = and_up _ _ _ _ (from_one k e.q.lo h) (most_up k K e.u.hi C m h) t

pub step_up : (rule : Rule) (form : LawForm) (k K : ℤ) (e : ArcEnds) (x : ArcVar) (low : Bool) (C : ℤ) → pos 0 <ℤ k → IsTrue (arc_step rule form K e x low C) → IsTrue (arc_step rule form (k *ℤ K) (scaled k e) x low (k *ℤ C))
step_up Pipe (Drags law) k K e x low C h t = pipe_up law k K e x low C h t
step_up Equal Equals k K e x low C h t = equal_up k e x low C h t
step_up Zero Shuts k K e x low C h t = zero_up k x low C h t
step_up Way (Reduces in_min out_max m M) k K e x low C h t = way_up k x low C h t
step_up Way (Raises in_min out_max num den M) k K e x low C h t = way_up k x low C h t
step_up Inner (Reduces in_min out_max m M) k K e x low C h t = inner_step_up in_min out_max k K x low C h t
step_up Inner (Raises in_min out_max num den M) k K e x low C h t = inner_step_up in_min out_max k K x low C h t
step_up Fall (Reduces in_min out_max m M) k K e x low C h t = fall_up m M k K e x low C h t
step_up Order (Raises in_min out_max num den M) k K e x low C h t = order_up k e x low C h t
step_up Rise (Raises in_min out_max num den M) k K e x low C h t = rise_up M k K e x low C h t
step_up Ratio (Raises in_min out_max num den M) k K e x low C h t = ratio_up num den k e x low C h t
step_up Sign (Loses m M) k K e x low C h t = sign_step_up m k K e x low C h t
step_up Reach (Loses m M) k K e x low C h t = reach_up M k K e x low C h t
step_up Along (Loses m M) k K e x low C h t = along_up k e x low C h t
step_up Drop (Loses m M) k K e x low C h t = drop_up m k K e x low C h t
step_up rule form k K e x low C h t = absurd cc

-- ---- closings
pipe_closing_up : (law : PipeLaw) (k K : ℤ) (e : ArcEnds) → pos 0 <ℤ k → IsTrue (pipe_closing law K e) → IsTrue (pipe_closing law (k *ℤ K) (scaled k e))
pipe_closing_up law k K e h t = or_up _ _ _ _ (gap_below k law.drag.lo law.drag.hi law.drag.den K e.q.lo e.u.hi e.v.lo h) (gap_above k law.drag.hi law.drag.lo law.drag.den K e.q.hi e.u.lo e.v.hi h) t

drop_closing_up : (m k K : ℤ) (e : ArcEnds) → pos 0 <ℤ k → IsTrue (drop_closing m K e) → IsTrue (drop_closing m (k *ℤ K) (scaled k e))
drop_closing_up m k K e h t =
    or_up (int_le (pos 1) e.q.lo && not (at_least K e.u.hi e.v.lo m)) (int_le e.q.hi (negsuc 0) && not (at_least K e.v.hi e.u.lo m)) _ _
    (and_up (int_le (pos 1) e.q.lo) (not (at_least K e.u.hi e.v.lo m)) _ _ (from_one k e.q.lo h) (not_least_up k K e.u.hi e.v.lo m h))
    (and_up (int_le e.q.hi (negsuc 0)) (not (at_least K e.v.hi e.u.lo m)) _ _ (to_minus_one k e.q.hi h) (not_least_up k K e.v.hi e.u.lo m h)) t

pub closing_up : (rule : Rule) (form : LawForm) (k K : ℤ) (e : ArcEnds) → pos 0 <ℤ k → IsTrue (arc_closing rule form K e) → IsTrue (arc_closing rule form (k *ℤ K) (scaled k e))
closing_up Pipe (Drags law) k K e h t = pipe_closing_up law k K e h t
closing_up Fall (Reduces in_min out_max m M) k K e h t = or_up _ _ _ _ (not_least_up k K e.u.hi e.v.lo m h) (not_most_up k K e.u.lo e.v.hi M h) t
closing_up Rise (Raises in_min out_max num den M) k K e h t = not_most_up k K e.v.lo e.u.hi M h t
closing_up Ratio (Raises in_min out_max num den M) k K e h t = products_lt_up k (square num) (square den) e.u.hi e.v.lo h t
closing_up Reach (Loses m M) k K e h t = or_up _ _ _ _ (not_most_up k K e.u.lo e.v.hi M h) (not_most_up k K e.v.lo e.u.hi M h) t
closing_up Drop (Loses m M) k K e h t = drop_closing_up m k K e h t
closing_up rule form k K e h t = absurd cc
