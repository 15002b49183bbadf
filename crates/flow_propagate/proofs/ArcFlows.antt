-- Steps of an arc on its flow.
use Rattle.std.proofs.Common.{◌≡◌, ℕ, ◌+◌, ◌*◌, ◌<◌, refl, sym, ap, ◌∙◌, subst, arith, ℤ, pos, ◌-ℤ◌, ◌*ℤ◌, Bool, true, false, cond, ◌&&◌, not, ◌==◌, int_le, IsTrue, Some, None, length, eq-eqb}
use Rattle.std.specs.Prelude.{slice_get}
use borrow.Author.Tests.{eqb-true, lt-ltb}
use Rattle.std.proofs.lemmas.Option.{slice_get_within}
use Rattle.std.proofs.lemmas.Bool.{and_parts}
use Rattle.gas_model.specs.declared.rows.ArcRow.{ArcRow}
use Rattle.gas_model.specs.declared.law_forms.PipeLaw.{PipeLaw}
use Rattle.gas_model.specs.declared.rows.Ends.{Ends}
use Rattle.base_types.specs.declared.variables.Var.{Var}
use Rattle.base_types.specs.declared.variables.Var.TheVariants.{Flow, Square}
use Rattle.gas_model.specs.Rows.{Network}
use Rattle.gas_model.specs.Curves.{at_least}
use Rattle.gas_model.specs.declared.law_forms.LawForm.{LawForm}
use Rattle.gas_model.specs.declared.law_forms.LawForm.TheVariants.{Drags, Equals, Shuts, Loses, Reduces, Raises, Never}
use Rattle.tree_cert.specs.declared.line.Rule.{Rule}
use Rattle.tree_cert.specs.declared.line.Rule.TheVariants.{Pipe, Equal, Zero, Way, Inner, Fall, Order, Rise, Ratio, Sign, Reach, Along, Drop}
use Rattle.tree_cert.specs.declared.line.Step.{Step}
use Rattle.tree_rules.specs.declared.arc_vars.ArcEnds.{ArcEnds}
use Rattle.tree_rules.specs.declared.arc_vars.ArcVar.{ArcVar}
use Rattle.tree_rules.specs.declared.arc_vars.ArcVar.TheVariants.{OfFlow}
use Rattle.tree_rules.specs.ArcRules.{arc_step, keeps_sign}
use Rattle.tree_rules.specs.Rules.{PartBox, arc_ends, arc_var, fixed_form}
use Rattle.tight_steps.specs.declared.law.Law.TheVariants.{AtArc}
use Rattle.tight_steps.specs.declared.best.NewEnd.{NewEnd}
use Rattle.tight_steps.specs.Best.{CanShrink, HasNoBest, IsBound}
use Rattle.tight_steps.specs.NewEnds.{HasNoEnd, IsFirstEnd}
use Rattle.tight_steps.specs.Moves.{is_balance, is_of_law, is_flow, flow_number, rule_number, allows, HasNoMove, IsFirstMove, IsMove}
use Rattle.tight_steps.proofs.ArcMoves.{HasForm, ArcMove, arc_move, unfixed_move, tight_step, no_step_by}
use Rattle.flow_propagate.specs.FlowRules.{flow_rule}
use Rattle.flow_propagate.specs.Drops.{IsLeastFlow, IsGreatestFlow}

-- ---- the one rule
only_rule : (rule : Rule) (form : LawForm) (K : ℤ) (e : ArcEnds) (low : Bool) (C : ℤ) → IsTrue (arc_step rule form K e OfFlow low C) → flow_rule form ≡ Some rule
only_rule Pipe (Drags law) K e low C t = refl
only_rule Zero Shuts K e low C t = refl
only_rule Sign (Loses l h) K e low C t = refl
only_rule Way (Reduces a b l h) K e low C t = refl
only_rule Way (Raises a b n d r) K e low C t = refl
only_rule Equal Equals K e low C t = absurd cc
only_rule Inner (Reduces a b l h) K e low C t = absurd cc
only_rule Inner (Raises a b n d r) K e low C t = absurd cc
only_rule Fall (Reduces a b l h) K e low C t = absurd cc
only_rule Order (Raises a b n d r) K e low C t = absurd cc
only_rule Rise (Raises a b n d r) K e low C t = absurd cc
only_rule Ratio (Raises a b n d r) K e low C t = absurd cc
only_rule Reach (Loses l h) K e low C t = absurd cc
only_rule Along (Loses l h) K e low C t = absurd cc
only_rule Drop (Loses l h) K e low C t = absurd cc
only_rule rule form K e low C t = absurd cc

-- it is none of the balance
arc_rule : (form : LawForm) (rule : Rule) → flow_rule form ≡ Some rule → IsTrue (not (is_balance rule))
arc_rule (Drags law) rule e = subst (λ (r : Rule). IsTrue (not (is_balance r))) (let s : Pipe ≡ rule = cc in s) refl
arc_rule Shuts rule e = subst (λ (r : Rule). IsTrue (not (is_balance r))) (let s : Zero ≡ rule = cc in s) refl
arc_rule (Loses l h) rule e = subst (λ (r : Rule). IsTrue (not (is_balance r))) (let s : Sign ≡ rule = cc in s) refl
arc_rule (Reduces a b l h) rule e = subst (λ (r : Rule). IsTrue (not (is_balance r))) (let s : Way ≡ rule = cc in s) refl
arc_rule (Raises a b n d r) rule e = subst (λ (k : Rule). IsTrue (not (is_balance k))) (let s : Way ≡ rule = cc in s) refl
arc_rule Equals rule e = absurd cc
arc_rule Never rule e = absurd cc

-- ---- bounds of the rules
pub greatest_bound : (law : PipeLaw) (K C : ℤ) (e : ArcEnds) (own : Ends) → IsGreatestFlow law.drag (law.drag.den *ℤ K *ℤ (e.u.lo -ℤ e.v.hi)) C → IsBound true own (allows Pipe (Drags law) K e OfFlow true) C
greatest_bound law K C e own g = record { is = λ z w. (λ t. sym (g.is z) ∙ t, λ t. g.is z ∙ t) }

pub least_bound : (law : PipeLaw) (K C : ℤ) (e : ArcEnds) (own : Ends) → IsLeastFlow law.drag (law.drag.den *ℤ K *ℤ (e.u.hi -ℤ e.v.lo)) C → IsBound false own (allows Pipe (Drags law) K e OfFlow false) C
least_bound law K C e own g = record { is = λ z w. (λ t. sym (g.is z) ∙ t, λ t. g.is z ∙ t) }

-- a condition of which one part speaks of the value
first_part : (a b : Bool) → IsTrue b → (IsTrue (a && b) → IsTrue a) × (IsTrue a → IsTrue (a && b))
first_part a b h = (λ t. (and_parts a b t).0, λ t. ap (λ (x : Bool). x && b) t ∙ h)

zero_of : (K : ℤ) (e : ArcEnds) (low : Bool) → IsBound low e.q (allows Zero Shuts K e OfFlow low) (pos 0)
zero_of K e true = record { is = λ z w. (λ t. t, λ t. t) }
zero_of K e false = record { is = λ z w. (λ t. t, λ t. t) }

sign_of : (K : ℤ) (e : ArcEnds) (l h : ℤ) (low : Bool) → CanShrink low e.q (allows Sign (Loses l h) K e OfFlow low) → IsBound low e.q (allows Sign (Loses l h) K e OfFlow low) (pos 0)
sign_of K e l h true c = record { is = λ z w. first_part (int_le z (pos 0)) (not (at_least K e.v.hi e.u.lo l)) (and_parts (int_le c.value (pos 0)) (not (at_least K e.v.hi e.u.lo l)) c.allowed).1 }
sign_of K e l h false c = record { is = λ z w. first_part (int_le (pos 0) z) (not (at_least K e.u.hi e.v.lo l)) (and_parts (int_le (pos 0) c.value) (not (at_least K e.u.hi e.v.lo l)) c.allowed).1 }

way_reduces : (K : ℤ) (e : ArcEnds) (a b l h : ℤ) (low : Bool) → CanShrink low e.q (allows Way (Reduces a b l h) K e OfFlow low) → IsBound low e.q (allows Way (Reduces a b l h) K e OfFlow low) (pos 0)
way_reduces K e a b l h true c = record { is = λ z w. (λ t. t, λ t. t) }
way_reduces K e a b l h false c = let t : false ≡ true = c.allowed in absurd cc

way_raises : (K : ℤ) (e : ArcEnds) (a b n d r : ℤ) (low : Bool) → CanShrink low e.q (allows Way (Raises a b n d r) K e OfFlow low) → IsBound low e.q (allows Way (Raises a b n d r) K e OfFlow low) (pos 0)
way_raises K e a b n d r true c = record { is = λ z w. (λ t. t, λ t. t) }
way_raises K e a b n d r false c = let t : false ≡ true = c.allowed in absurd cc

abbrev BoundBy : LawForm → ℤ → ArcEnds → Bool → ℤ → Rule → Type 0
BoundBy form K e low C rule = CanShrink low e.q (allows rule form K e OfFlow low) → IsBound low e.q (allows rule form K e OfFlow low) C

-- each law but that of a resistance stops flows at 0
pub zero_bound : (form : LawForm) (K : ℤ) (e : ArcEnds) (low : Bool) → ((law : PipeLaw) → form ≡ Drags law → ⊥) → (rule : Rule) → flow_rule form ≡ Some rule → CanShrink low e.q (allows rule form K e OfFlow low) → IsBound low e.q (allows rule form K e OfFlow low) (pos 0)
zero_bound (Drags law) K e low n rule s = absurd (n law refl)
zero_bound Shuts K e low n rule s = subst (BoundBy Shuts K e low (pos 0)) (let r : Zero ≡ rule = cc in r) (λ c. zero_of K e low)
zero_bound (Loses l h) K e low n rule s = subst (BoundBy (Loses l h) K e low (pos 0)) (let r : Sign ≡ rule = cc in r) (sign_of K e l h low)
zero_bound (Reduces a b l h) K e low n rule s = subst (BoundBy (Reduces a b l h) K e low (pos 0)) (let r : Way ≡ rule = cc in r) (way_reduces K e a b l h low)
zero_bound (Raises a b k d m) K e low n rule s = subst (BoundBy (Raises a b k d m) K e low (pos 0)) (let r : Way ≡ rule = cc in r) (way_raises K e a b k d m low)
zero_bound Equals K e low n rule s = absurd cc
zero_bound Never K e low n rule s = absurd cc

pub pipe_bound : (law : PipeLaw) (K : ℤ) (e : ArcEnds) (low : Bool) (C : ℤ) → IsBound low e.q (allows Pipe (Drags law) K e OfFlow low) C → (rule : Rule) → flow_rule (Drags law) ≡ Some rule → CanShrink low e.q (allows rule (Drags law) K e OfFlow low) → IsBound low e.q (allows rule (Drags law) K e OfFlow low) C
pipe_bound law K e low C h rule s = subst (BoundBy (Drags law) K e low C) (let r : Pipe ≡ rule = cc in r) (λ c. h)

-- ---- steps
-- a flow of an arc is its own
flow_var : (a : ℕ) (row : ArcRow) (v : Var) (x : ArcVar) → IsTrue (is_flow v) → arc_var a row v ≡ Some x → (x ≡ OfFlow) × (v ≡ Flow a)
flow_var a row (Square n) x t e = absurd cc
flow_var a row (Flow i) x t e = by (i == a) (eqb-true i a) e
  where
    by : (s : Bool) → (s ≡ true → i ≡ a) → cond s (Some OfFlow) None ≡ Some x → (x ≡ OfFlow) × (Flow i ≡ Flow a)
    by true f e = ((cc), ap Flow (f refl))
    by false f e = absurd cc

pub unfixed_none : (p : Network) (b : PartBox) (a : ℕ) (row : ArcRow) → slice_get p.arcs a ≡ Some row → fixed_form p b.part a row ≡ None → HasNoMove p b (AtArc a) is_flow
unfixed_none p b a row r f = record { none = λ s l k m. unfixed_move p b a row s r f l m }

moved : (p : Network) (b : PartBox) (a : ℕ) (row : ArcRow) (form : LawForm) (s : Step) → HasForm p b a row form → IsTrue (is_of_law (AtArc a) s.rule s.place) → IsTrue (is_flow s.var) → IsMove p b s → (m : ArcMove b a row form s) × (m.x ≡ OfFlow) × (flow_rule form ≡ Some s.rule)
moved p b a row form s h l k move =
    let m = arc_move p b a row form s h l move in
    let v = flow_var a row s.var m.x k m.is in
    let t = and_parts (keeps_sign s.rule s.value) (arc_step s.rule form b.scale (arc_ends b.bounds a row) m.x s.low s.value) m.allowed in
    let here : IsTrue (arc_step s.rule form b.scale (arc_ends b.bounds a row) OfFlow s.low s.value) = subst (λ (x : ArcVar). IsTrue (arc_step s.rule form b.scale (arc_ends b.bounds a row) x s.low s.value)) v.0 t.1 in
    (m, v.0, only_rule s.rule form b.scale (arc_ends b.bounds a row) s.low s.value here)

pub ruleless_none : (p : Network) (b : PartBox) (a : ℕ) (row : ArcRow) (form : LawForm) → HasForm p b a row form → flow_rule form ≡ None → HasNoMove p b (AtArc a) is_flow
ruleless_none p b a row form h e = record { none = λ s l k m. let x = moved p b a row form s h l k m in let y : None ≡ Some s.rule = sym e ∙ x.2 in absurd cc }

-- no step is at an end without a best value
no_step : (p : Network) (b : PartBox) (a : ℕ) (row : ArcRow) (form : LawForm) (rule : Rule) (low : Bool) (s : Step) → HasForm p b a row form → flow_rule form ≡ Some rule → HasNoBest low (arc_ends b.bounds a row).q (allows rule form b.scale (arc_ends b.bounds a row) OfFlow low)
    → IsTrue (is_of_law (AtArc a) s.rule s.place) → IsTrue (is_flow s.var) → s.low ≡ low → IsMove p b s → ⊥
no_step p b a row form rule low s h r none l k e m =
    let x = moved p b a row form s h l k m in
    let same : s.rule ≡ rule = cc (x.2, r) in
    no_step_by b a row form s rule OfFlow low x.0 same x.1 e none

both_ends : (low : Bool) → (low ≡ true → ⊥) → (low ≡ false → ⊥) → ⊥
both_ends true h k = h refl
both_ends false h k = k refl

pub endless_none : (p : Network) (b : PartBox) (a : ℕ) (row : ArcRow) (form : LawForm) (rule : Rule) (E : ArcEnds) → HasForm p b a row form → flow_rule form ≡ Some rule → E ≡ arc_ends b.bounds a row → HasNoEnd E.q (allows rule form b.scale E OfFlow) → HasNoMove p b (AtArc a) is_flow
endless_none p b a row form rule E h r e n =
    let here : HasNoEnd (arc_ends b.bounds a row).q (allows rule form b.scale (arc_ends b.bounds a row) OfFlow) = subst (λ (x : ArcEnds). HasNoEnd x.q (allows rule form b.scale x OfFlow)) e n in
    record { none = λ s l k m. both_ends s.low (λ q. no_step p b a row form rule true s h r (here.none true) l k q m) (λ q. no_step p b a row form rule false s h r (here.none false) l k q m) }

-- of two steps by one rule on one flow the first is at the lower end
lower_first : (n m : Bool) (x y : ℕ) → x ≡ y → x + cond n 0 14 < y + cond m 0 14 → (n ≡ true) × (m ≡ false)
lower_first true true x y e h = absurd (omega arith)
lower_first true false x y e h = (refl, refl)
lower_first false true x y e h = absurd (omega arith)
lower_first false false x y e h = absurd (omega arith)

pub first_end : (p : Network) (b : PartBox) (a : ℕ) (row : ArcRow) (form : LawForm) (rule : Rule) (E : ArcEnds) (m : NewEnd) → HasForm p b a row form → flow_rule form ≡ Some rule → E ≡ arc_ends b.bounds a row → IsFirstEnd E.q (allows rule form b.scale E OfFlow) m
    → IsFirstMove p b (AtArc a) is_flow flow_number (record { var = Flow a; low = m.low; value = m.value; rule = rule; place = a })
first_end p b a row form rule E m h r e f =
    let own = arc_ends b.bounds a row in
    let here : IsFirstEnd own.q (allows rule form b.scale own OfFlow) m = subst (λ (x : ArcEnds). IsFirstEnd x.q (allows rule form b.scale x OfFlow) m) e f in
    let var : arc_var a row (Flow a) ≡ Some OfFlow = ap (λ (t : Bool). cond t (Some OfFlow) None) (same a) in
    let inside = lt-ltb a (length p.arcs) (slice_get_within p.arcs a row h.row_is) in
    let t = tight_step p b a row form rule (Flow a) m.low m.value OfFlow h (arc_rule form rule r) inside var here.best in
    record {
      of_law = ap (λ (x : Bool). x && (a == a)) (arc_rule form rule r) ∙ same a;
      of_kind = refl;
      shrinks = t.1;
      tightest = t.0;
      first = λ s l k before move.
          let x = moved p b a row form s h l k move in
          let rules : s.rule ≡ rule = cc (x.2, r) in
          let number : flow_number s.var ≡ a = ap flow_number (flow_var a row s.var x.0.x k x.0.is).1 in
          let ranks : rule_number s.rule ≡ rule_number rule = ap rule_number rules in
          let order : 28 * flow_number s.var + cond s.low 0 14 + rule_number s.rule < 28 * a + cond m.low 0 14 + rule_number rule = before in
          let q = lower_first s.low m.low (28 * flow_number s.var + rule_number s.rule) (28 * a + rule_number rule) (omega (arith, number, ranks)) (omega (arith, order)) in
          no_step p b a row form rule true s h r (here.first q.1) l k q.0 move;
    }
  where
    same : (n : ℕ) → (n == n) ≡ true
    same n = eq-eqb n n refl
