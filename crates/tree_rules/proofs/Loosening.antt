-- The condition of a rule that holds for a value holds for each that is no tighter.
use Rattle.std.proofs.Common.{◌≡◌, ℕ, ap, ◌∙◌, arith, ℤ, pos, negsuc, ◌-ℤ◌, ◌*ℤ◌, ◌≤ℤ◌, ◌<ℤ◌, Bool, true, false, cond, ◌&&◌, not, ◌==◌, int_le, IsTrue, List, slice_get, Option, Some}
use Rattle.std.specs.Option.{option_map_or}
use Rattle.std.proofs.lemmas.Bool.{and_parts, and_from}
use Rattle.integer_laws.proofs.Ring.{linear, mul_le_left, mul_pos, square_nonneg}
use Rattle.gas_model.specs.declared.rows.ArcRow.{ArcRow}
use Rattle.gas_model.specs.declared.law_forms.PipeLaw.{PipeLaw}
use Rattle.gas_model.specs.declared.rows.NodeRow.{NodeRow}
use Rattle.base_types.specs.declared.variables.Var.{Var}
use Rattle.base_types.specs.declared.variables.Var.TheVariants.{Flow, Square}
use Rattle.gas_model.specs.Rows.{Network}
use Rattle.gas_model.specs.Curves.{square, at_most, at_least}
use Rattle.gas_model.specs.declared.law_forms.LawForm.{LawForm}
use Rattle.gas_model.specs.declared.law_forms.LawForm.TheVariants.{Drags, Equals, Shuts, Loses, Reduces, Raises}
use Rattle.gas_model.specs.Laws.{form_of}
use Rattle.gas_model.specs.Choices.{fixed_state}
use Rattle.gas_model.specs.Boxes.{is_var}
use Rattle.gas_model.specs.Within.{IsWithin}
use Rattle.tree_cert.specs.declared.line.Rule.{Rule}
use Rattle.tree_cert.specs.declared.line.Rule.TheVariants.{Balance, Pipe, Equal, Zero, Way, Inner, Fall, Order, Rise, Ratio, Sign, Reach, Along, Drop}
use Rattle.tree_rules.specs.declared.arc_vars.ArcEnds.{ArcEnds}
use Rattle.tree_rules.specs.declared.arc_vars.ArcVar.{ArcVar}
use Rattle.tree_rules.specs.declared.arc_vars.ArcVar.TheVariants.{OfFlow, OfFrom, OfTo}
use Rattle.tree_rules.specs.ArcRules.{pipe_step, equal_step, zero_step, way_step, inner_step, fall_step, order_step, rise_step, ratio_step, sign_step, reach_step, along_step, drop_step, arc_step}
use Rattle.tree_rules.specs.NodeRules.{leaving_step, entering_step}
use Rattle.tree_rules.specs.Rules.{PartBox, flow_lo, flow_hi, arc_ends, arc_var, fixed_form, form_step, row_step, law_step, flow_step, node_step, balance_step, rule_holds, is_allowed}
use Rattle.tree_rules.specs.Looser.{IsNoTighter, RulesLoosen, StepsLoosen}
use Rattle.tree_rules.proofs.CurveLaws.{curve_le, at_least_grow, at_most_grow}
use Rattle.tree_rules.proofs.UnitSound.{IsForm, IsDrag}
use Rattle.tree_rules.proofs.StepSound.{row_form, some_is, map_is}

-- ---- the rules of one arc
gap_le : (law : PipeLaw) (K a b : ℤ) → IsDrag law.drag → pos 0 <ℤ K → a ≤ℤ b → (law.drag.den *ℤ K *ℤ a) ≤ℤ (law.drag.den *ℤ K *ℤ b)
gap_le law K a b i k h = mul_le_left (law.drag.den *ℤ K) a b (omega (arith, linear, mul_pos law.drag.den K (omega (arith, linear, i.den)) k)) h

pipe_looser : (law : PipeLaw) (K : ℤ) (e : ArcEnds) (x : ArcVar) (low : Bool) (B C : ℤ) → IsDrag law.drag → pos 0 <ℤ K → IsNoTighter low B C → IsTrue (pipe_step law K e x low C) → IsTrue (pipe_step law K e x low B)
pipe_looser law K e OfFlow true B C i k h t = omega (arith, linear, curve_le law.drag.hi law.drag.lo B C i.hi i.lo h)
pipe_looser law K e OfFlow false B C i k h t = omega (arith, linear, curve_le law.drag.lo law.drag.hi C B i.lo i.hi h)
pipe_looser law K e OfFrom true B C i k h t = omega (arith, linear, gap_le law K (B -ℤ e.v.lo) (C -ℤ e.v.lo) i k (omega (arith, linear)))
pipe_looser law K e OfFrom false B C i k h t = omega (arith, linear, gap_le law K (C -ℤ e.v.hi) (B -ℤ e.v.hi) i k (omega (arith, linear)))
pipe_looser law K e OfTo true B C i k h t = omega (arith, linear, gap_le law K (e.u.lo -ℤ C) (e.u.lo -ℤ B) i k (omega (arith, linear)))
pipe_looser law K e OfTo false B C i k h t = omega (arith, linear, gap_le law K (e.u.hi -ℤ B) (e.u.hi -ℤ C) i k (omega (arith, linear)))

equal_looser : (e : ArcEnds) (x : ArcVar) (low : Bool) (B C : ℤ) → IsNoTighter low B C → IsTrue (equal_step e x low C) → IsTrue (equal_step e x low B)
equal_looser e OfFlow low B C h t = absurd cc
equal_looser e OfFrom true B C h t = omega (arith, linear)
equal_looser e OfFrom false B C h t = omega (arith, linear)
equal_looser e OfTo true B C h t = omega (arith, linear)
equal_looser e OfTo false B C h t = omega (arith, linear)

zero_looser : (x : ArcVar) (low : Bool) (B C : ℤ) → IsNoTighter low B C → IsTrue (zero_step x low C) → IsTrue (zero_step x low B)
zero_looser OfFlow true B C h t = omega (arith, linear)
zero_looser OfFlow false B C h t = omega (arith, linear)
zero_looser OfFrom low B C h t = absurd cc
zero_looser OfTo low B C h t = absurd cc

way_looser : (x : ArcVar) (low : Bool) (B C : ℤ) → IsNoTighter low B C → IsTrue (way_step x low C) → IsTrue (way_step x low B)
way_looser OfFlow true B C h t = omega (arith, linear)
way_looser OfFlow false B C h t = absurd cc
way_looser OfFrom low B C h t = absurd cc
way_looser OfTo low B C h t = absurd cc

inner_looser : (in_min out_max K : ℤ) (x : ArcVar) (low : Bool) (B C : ℤ) → IsNoTighter low B C → IsTrue (inner_step in_min out_max K x low C) → IsTrue (inner_step in_min out_max K x low B)
inner_looser in_min out_max K OfFlow low B C h t = absurd cc
inner_looser in_min out_max K OfFrom true B C h t = omega (arith, linear)
inner_looser in_min out_max K OfFrom false B C h t = absurd cc
inner_looser in_min out_max K OfTo true B C h t = absurd cc
inner_looser in_min out_max K OfTo false B C h t = omega (arith, linear)

-- a square on the left may shrink, and on the right may grow, where it is at most another plus D; and the other way round
left_down : (K B C x D : ℤ) → pos 0 ≤ℤ K → B ≤ℤ C → IsTrue (at_most K C x D) → IsTrue (at_most K B x D)
left_down K B C x D k h t = at_most_grow K C x D B x k t h (omega (arith, linear))

right_up : (K B C y D : ℤ) → pos 0 ≤ℤ K → C ≤ℤ B → IsTrue (at_most K y C D) → IsTrue (at_most K y B D)
right_up K B C y D k h t = at_most_grow K y C D y B k t (omega (arith, linear)) h

left_up : (K B C x D : ℤ) → pos 0 ≤ℤ K → C ≤ℤ B → IsTrue (at_least K C x D) → IsTrue (at_least K B x D)
left_up K B C x D k h t = at_least_grow K C x D B x k t h (omega (arith, linear))

right_down : (K B C y D : ℤ) → pos 0 ≤ℤ K → B ≤ℤ C → IsTrue (at_least K y C D) → IsTrue (at_least K y B D)
right_down K B C y D k h t = at_least_grow K y C D y B k t (omega (arith, linear)) h

fall_looser : (m M K : ℤ) (e : ArcEnds) (x : ArcVar) (low : Bool) (B C : ℤ) → pos 0 ≤ℤ K → IsNoTighter low B C → IsTrue (fall_step m M K e x low C) → IsTrue (fall_step m M K e x low B)
fall_looser m M K e OfFlow low B C k h t = absurd cc
fall_looser m M K e OfFrom true B C k h t = left_down K B C e.v.lo m k h t
fall_looser m M K e OfFrom false B C k h t = left_up K B C e.v.hi M k h t
fall_looser m M K e OfTo true B C k h t = right_down K B C e.u.lo M k h t
fall_looser m M K e OfTo false B C k h t = right_up K B C e.u.hi m k h t

order_looser : (e : ArcEnds) (x : ArcVar) (low : Bool) (B C : ℤ) → IsNoTighter low B C → IsTrue (order_step e x low C) → IsTrue (order_step e x low B)
order_looser e OfFlow low B C h t = absurd cc
order_looser e OfFrom true B C h t = absurd cc
order_looser e OfFrom false B C h t = omega (arith, linear)
order_looser e OfTo true B C h t = omega (arith, linear)
order_looser e OfTo false B C h t = absurd cc

rise_looser : (M K : ℤ) (e : ArcEnds) (x : ArcVar) (low : Bool) (B C : ℤ) → pos 0 ≤ℤ K → IsNoTighter low B C → IsTrue (rise_step M K e x low C) → IsTrue (rise_step M K e x low B)
rise_looser M K e OfFlow low B C k h t = absurd cc
rise_looser M K e OfFrom true B C k h t = right_down K B C e.v.lo M k h t
rise_looser M K e OfFrom false B C k h t = absurd cc
rise_looser M K e OfTo true B C k h t = absurd cc
rise_looser M K e OfTo false B C k h t = left_up K B C e.u.hi M k h t

ratio_looser : (num den : ℤ) (e : ArcEnds) (x : ArcVar) (low : Bool) (B C : ℤ) → IsNoTighter low B C → IsTrue (ratio_step num den e x low C) → IsTrue (ratio_step num den e x low B)
ratio_looser num den e OfFlow low B C h t = absurd cc
ratio_looser num den e OfFrom true B C h t = omega (arith, linear, mul_le_left (square num) B C (square_nonneg num) h)
ratio_looser num den e OfFrom false B C h t = absurd cc
ratio_looser num den e OfTo true B C h t = absurd cc
ratio_looser num den e OfTo false B C h t = omega (arith, linear, mul_le_left (square den) C B (square_nonneg den) h)

and_looser : (a b c d : Bool) → (IsTrue a → IsTrue c) → (IsTrue b → IsTrue d) → IsTrue (a && b) → IsTrue (c && d)
and_looser a b c d f g t = let s = and_parts a b t in and_from c d (f s.0) (g s.1)

sign_looser : (m K : ℤ) (e : ArcEnds) (x : ArcVar) (low : Bool) (B C : ℤ) → IsNoTighter low B C → IsTrue (sign_step m K e x low C) → IsTrue (sign_step m K e x low B)
sign_looser m K e OfFlow true B C h t = and_looser (int_le C (pos 0)) (not (at_least K e.v.hi e.u.lo m)) (int_le B (pos 0)) (not (at_least K e.v.hi e.u.lo m)) (λ s. omega (arith, linear)) (λ s. s) t
sign_looser m K e OfFlow false B C h t = and_looser (int_le (pos 0) C) (not (at_least K e.u.hi e.v.lo m)) (int_le (pos 0) B) (not (at_least K e.u.hi e.v.lo m)) (λ s. omega (arith, linear)) (λ s. s) t
sign_looser m K e OfFrom low B C h t = absurd cc
sign_looser m K e OfTo low B C h t = absurd cc

reach_looser : (M K : ℤ) (e : ArcEnds) (x : ArcVar) (low : Bool) (B C : ℤ) → pos 0 ≤ℤ K → IsNoTighter low B C → IsTrue (reach_step M K e x low C) → IsTrue (reach_step M K e x low B)
reach_looser M K e OfFlow low B C k h t = absurd cc
reach_looser M K e OfFrom true B C k h t = right_down K B C e.v.lo M k h t
reach_looser M K e OfFrom false B C k h t = left_up K B C e.v.hi M k h t
reach_looser M K e OfTo true B C k h t = right_down K B C e.u.lo M k h t
reach_looser M K e OfTo false B C k h t = left_up K B C e.u.hi M k h t

along_looser : (e : ArcEnds) (x : ArcVar) (low : Bool) (B C : ℤ) → IsNoTighter low B C → IsTrue (along_step e x low C) → IsTrue (along_step e x low B)
along_looser e OfFlow low B C h t = absurd cc
along_looser e OfFrom true B C h t = and_looser (int_le (pos 0) e.q.lo) (int_le C e.v.lo) (int_le (pos 0) e.q.lo) (int_le B e.v.lo) (λ s. s) (λ s. omega (arith, linear)) t
along_looser e OfFrom false B C h t = and_looser (int_le e.q.hi (pos 0)) (int_le e.v.hi C) (int_le e.q.hi (pos 0)) (int_le e.v.hi B) (λ s. s) (λ s. omega (arith, linear)) t
along_looser e OfTo true B C h t = and_looser (int_le e.q.hi (pos 0)) (int_le C e.u.lo) (int_le e.q.hi (pos 0)) (int_le B e.u.lo) (λ s. s) (λ s. omega (arith, linear)) t
along_looser e OfTo false B C h t = and_looser (int_le (pos 0) e.q.lo) (int_le e.u.hi C) (int_le (pos 0) e.q.lo) (int_le e.u.hi B) (λ s. s) (λ s. omega (arith, linear)) t

drop_looser : (m K : ℤ) (e : ArcEnds) (x : ArcVar) (low : Bool) (B C : ℤ) → pos 0 ≤ℤ K → IsNoTighter low B C → IsTrue (drop_step m K e x low C) → IsTrue (drop_step m K e x low B)
drop_looser m K e OfFlow low B C k h t = absurd cc
drop_looser m K e OfFrom true B C k h t = and_looser (int_le (pos 1) e.q.lo) (at_most K C e.v.lo m) (int_le (pos 1) e.q.lo) (at_most K B e.v.lo m) (λ s. s) (left_down K B C e.v.lo m k h) t
drop_looser m K e OfFrom false B C k h t = and_looser (int_le e.q.hi (negsuc 0)) (at_most K e.v.hi C m) (int_le e.q.hi (negsuc 0)) (at_most K e.v.hi B m) (λ s. s) (right_up K B C e.v.hi m k h) t
drop_looser m K e OfTo true B C k h t = and_looser (int_le e.q.hi (negsuc 0)) (at_most K C e.u.lo m) (int_le e.q.hi (negsuc 0)) (at_most K B e.u.lo m) (λ s. s) (left_down K B C e.u.lo m k h) t
drop_looser m K e OfTo false B C k h t = and_looser (int_le (pos 1) e.q.lo) (at_most K e.u.hi C m) (int_le (pos 1) e.q.lo) (at_most K e.u.hi B m) (λ s. s) (right_up K B C e.u.hi m k h) t

pub arc_looser : (rule : Rule) (form : LawForm) (K : ℤ) (e : ArcEnds) (x : ArcVar) (low : Bool) (B C : ℤ) → IsForm form → pos 0 <ℤ K → IsNoTighter low B C → IsTrue (arc_step rule form K e x low C) → IsTrue (arc_step rule form K e x low B)
arc_looser Pipe (Drags law) K e x low B C i k h t = pipe_looser law K e x low B C i k h t
arc_looser Equal Equals K e x low B C i k h t = equal_looser e x low B C h t
arc_looser Zero Shuts K e x low B C i k h t = zero_looser x low B C h t
arc_looser Way (Reduces in_min out_max m M) K e x low B C i k h t = way_looser x low B C h t
arc_looser Way (Raises in_min out_max num den M) K e x low B C i k h t = way_looser x low B C h t
arc_looser Inner (Reduces in_min out_max m M) K e x low B C i k h t = inner_looser in_min out_max K x low B C h t
arc_looser Inner (Raises in_min out_max num den M) K e x low B C i k h t = inner_looser in_min out_max K x low B C h t
arc_looser Fall (Reduces in_min out_max m M) K e x low B C i k h t = fall_looser m M K e x low B C (omega (arith, linear)) h t
arc_looser Order (Raises in_min out_max num den M) K e x low B C i k h t = order_looser e x low B C h t
arc_looser Rise (Raises in_min out_max num den M) K e x low B C i k h t = rise_looser M K e x low B C (omega (arith, linear)) h t
arc_looser Ratio (Raises in_min out_max num den M) K e x low B C i k h t = ratio_looser num den e x low B C h t
arc_looser Sign (Loses m M) K e x low B C i k h t = sign_looser m K e x low B C h t
arc_looser Reach (Loses m M) K e x low B C i k h t = reach_looser M K e x low B C (omega (arith, linear)) h t
arc_looser Along (Loses m M) K e x low B C i k h t = along_looser e x low B C h t
arc_looser Drop (Loses m M) K e x low B C i k h t = drop_looser m K e x low B C (omega (arith, linear)) h t
arc_looser rule form K e x low B C i k h t = absurd cc

-- ---- the rule of a node
leaving_looser : (node : NodeRow) (K : ℤ) (ql qh : ℕ → ℤ) (n : ℕ) (arcs : List ArcRow) (a : ℕ) (low : Bool) (B C : ℤ) → IsNoTighter low B C → IsTrue (leaving_step node K ql qh n arcs a low C) → IsTrue (leaving_step node K ql qh n arcs a low B)
leaving_looser node K ql qh n arcs a true B C h t = omega (arith, linear)
leaving_looser node K ql qh n arcs a false B C h t = omega (arith, linear)

entering_looser : (node : NodeRow) (K : ℤ) (ql qh : ℕ → ℤ) (n : ℕ) (arcs : List ArcRow) (a : ℕ) (low : Bool) (B C : ℤ) → IsNoTighter low B C → IsTrue (entering_step node K ql qh n arcs a low C) → IsTrue (entering_step node K ql qh n arcs a low B)
entering_looser node K ql qh n arcs a true B C h t = omega (arith, linear)
entering_looser node K ql qh n arcs a false B C h t = omega (arith, linear)

cond_looser : (f s a b c d : Bool) → (IsTrue a → IsTrue c) → (IsTrue b → IsTrue d) → IsTrue (cond f a (cond s b false)) → IsTrue (cond f c (cond s d false))
cond_looser true s a b c d p q t = p t
cond_looser false true a b c d p q t = q t
cond_looser false false a b c d p q t = absurd cc

flow_looser : (p : Network) (b : PartBox) (n a : ℕ) (low : Bool) (B C : ℤ) (node : NodeRow) (row : ArcRow) → IsNoTighter low B C → IsTrue (flow_step p b n a low C node row) → IsTrue (flow_step p b n a low B node row)
flow_looser p b n a low B C node row h t =
    cond_looser (row.from == n) (row.to == n) (leaving_step node b.scale (flow_lo b.bounds) (flow_hi b.bounds) n p.arcs a low C) (entering_step node b.scale (flow_lo b.bounds) (flow_hi b.bounds) n p.arcs a low C)
    (leaving_step node b.scale (flow_lo b.bounds) (flow_hi b.bounds) n p.arcs a low B) (entering_step node b.scale (flow_lo b.bounds) (flow_hi b.bounds) n p.arcs a low B)
    (leaving_looser node b.scale (flow_lo b.bounds) (flow_hi b.bounds) n p.arcs a low B C h) (entering_looser node b.scale (flow_lo b.bounds) (flow_hi b.bounds) n p.arcs a low B C h) t

-- ---- where there is something in an option
pub some_from : {A : Type 0} (o : Option A) (f : A → Bool) (y : A) → o ≡ Some y → IsTrue (f y) → IsTrue (option_map_or f o false)
some_from o f y e h = ap (λ z. option_map_or f z false) e ∙ h

node_looser : (p : Network) (b : PartBox) (n : ℕ) (v : Var) (low : Bool) (B C : ℤ) (node : NodeRow) → IsNoTighter low B C → IsTrue (node_step p b n v low C node) → IsTrue (node_step p b n v low B node)
node_looser p b n (Square m) low B C node h t = absurd cc
node_looser p b n (Flow a) low B C node h t =
    let found = some_is (slice_get p.arcs a) (flow_step p b n a low C node) t in
    some_from (slice_get p.arcs a) (flow_step p b n a low B node) found.0 found.1 (flow_looser p b n a low B C node found.0 h found.2)

law_looser : (p : Network) (b : PartBox) (rule : Rule) (a : ℕ) (v : Var) (low : Bool) (B C : ℤ) → IsWithin p → pos 0 <ℤ b.scale → IsNoTighter low B C → IsTrue (law_step p b rule a v low C) → IsTrue (law_step p b rule a v low B)
law_looser p b rule a v low B C w k h t =
    let found = some_is (slice_get p.arcs a) (row_step p b rule a v low C) t in
    let row = found.0 in
    let e = arc_ends b.bounds a row in
    let fixed = some_is (fixed_form p b.part a row) (form_step rule b.scale e (arc_var a row v) low C) found.2 in
    let form = fixed.0 in
    let var = some_is (arc_var a row v) (λ y. arc_step rule form b.scale e y low C) fixed.2 in
    let state = map_is (form_of row.kind) (fixed_state p b.part a row) form fixed.1 in
    let is_form : IsForm form = rw (← state.2) (row_form p a row state.0 w found.1) in
    some_from (slice_get p.arcs a) (row_step p b rule a v low B) row found.1
    (some_from (fixed_form p b.part a row) (form_step rule b.scale e (arc_var a row v) low B) form fixed.1
    (some_from (arc_var a row v) (λ y. arc_step rule form b.scale e y low B) var.0 var.1
    (arc_looser rule form b.scale e var.0 low B C is_form k h var.2)))

balance_looser : (p : Network) (b : PartBox) (n : ℕ) (v : Var) (low : Bool) (B C : ℤ) → IsNoTighter low B C → IsTrue (balance_step p b n v low C) → IsTrue (balance_step p b n v low B)
balance_looser p b n v low B C h t =
    let found = some_is (slice_get p.nodes n) (node_step p b n v low C) t in
    some_from (slice_get p.nodes n) (node_step p b n v low B) found.0 found.1 (node_looser p b n v low B C found.0 h found.2)

rule_looser : (p : Network) (b : PartBox) (rule : Rule) (place : ℕ) (v : Var) (low : Bool) (B C : ℤ) → IsWithin p → pos 0 <ℤ b.scale → IsNoTighter low B C → IsTrue (rule_holds p b rule place v low C) → IsTrue (rule_holds p b rule place v low B)
rule_looser p b Balance place v low B C w k h t = balance_looser p b place v low B C h t
rule_looser p b rule place v low B C w k h t = law_looser p b rule place v low B C w k h t

pub rules_loosen : RulesLoosen
rules_loosen p b rule place v low B C w k h t = rule_looser p b rule place v low B C w (omega (arith, linear)) h t

pub steps_loosen : StepsLoosen
steps_loosen p b s B w k a h t =
    let x = and_parts (is_var p s.var && is_allowed b.bounds s.rule s.var s.low s.value) (rule_holds p b s.rule s.place s.var s.low s.value) t in
    let y = and_parts (is_var p s.var) (is_allowed b.bounds s.rule s.var s.low s.value) x.0 in
    and_from (is_var p s.var && is_allowed b.bounds s.rule s.var s.low B) (rule_holds p b s.rule s.place s.var s.low B)
    (and_from (is_var p s.var) (is_allowed b.bounds s.rule s.var s.low B) y.0 a) (rules_loosen p b s.rule s.place s.var s.low B s.value w k h x.1)
