-- Steps by the law of an arc, taken apart and put together.
use Rattle.std.proofs.Common.{◌≡◌, ◌≢◌, ℕ, refl, sym, ap, ◌∙◌, subst, ℤ, Bool, true, false, cond, ◌&&◌, not, ◌==◌, IsTrue, Some, None}
use Rattle.std.specs.Prelude.{slice_get}
use Rattle.std.specs.Option.{option_map_or}
use Rattle.std.proofs.lemmas.Bool.{and_parts, and_from}
use borrow.Author.Tests.{eqb-true}
use Rattle.gas_model.specs.declared.rows.ArcRow.{ArcRow}
use Rattle.gas_model.specs.declared.rows.Ends.{Ends}
use Rattle.base_types.specs.declared.variables.Var.{Var}
use Rattle.base_types.specs.declared.variables.Var.TheVariants.{Flow, Square}
use Rattle.gas_model.specs.Rows.{Network}
use Rattle.gas_model.specs.Boxes.{Bounds, ends_of, is_var, may_become}
use Rattle.gas_model.specs.declared.law_forms.LawForm.{LawForm}
use Rattle.tree_cert.specs.declared.line.Rule.{Rule}
use Rattle.tree_cert.specs.declared.line.Rule.TheVariants.{Balance, Pipe, Equal, Zero, Way, Inner, Fall, Order, Rise, Ratio, Sign, Reach, Along, Drop}
use Rattle.tree_cert.specs.declared.line.Step.{Step}
use Rattle.tree_rules.specs.declared.arc_vars.ArcEnds.{ArcEnds}
use Rattle.tree_rules.specs.declared.arc_vars.ArcVar.{ArcVar}
use Rattle.tree_rules.specs.declared.arc_vars.ArcVar.TheVariants.{OfFlow, OfFrom, OfTo}
use Rattle.tree_rules.specs.ArcRules.{arc_step, keeps_sign}
use Rattle.tree_rules.specs.Looser.{IsTightest, with_value}
use Rattle.tree_rules.specs.Rules.{PartBox, arc_ends, arc_var, fixed_form, form_step, row_step, law_step, rule_holds, is_allowed, step_holds}
use Rattle.tree_rules.proofs.StepSound.{some_is}
use Rattle.tree_rules.proofs.Loosening.{some_from}
use Rattle.tight_steps.specs.declared.law.Law.TheVariants.{AtArc}
use Rattle.tight_steps.specs.Best.{shrinks, IsBest, HasNoBest}
use Rattle.tight_steps.specs.Moves.{is_balance, is_of_law, ends_at, allows, IsMove}

-- ---- the parts of a step
pub record StepParts (p : Network) (b : PartBox) (s : Step) : Type 0 where
  pub var : IsTrue (is_var p s.var)
  pub within : IsTrue (may_become s.low s.value (ends_of b.bounds s.var))
  pub sign : IsTrue (keeps_sign s.rule s.value)
  pub rule : IsTrue (rule_holds p b s.rule s.place s.var s.low s.value)

pub step_parts : (p : Network) (b : PartBox) (s : Step) → IsTrue (step_holds p b s) → StepParts p b s
step_parts p b s t =
    let x = and_parts (is_var p s.var && is_allowed b.bounds s.rule s.var s.low s.value) (rule_holds p b s.rule s.place s.var s.low s.value) t in
    let y = and_parts (is_var p s.var) (is_allowed b.bounds s.rule s.var s.low s.value) x.0 in
    let z = and_parts (may_become s.low s.value (ends_of b.bounds s.var)) (keeps_sign s.rule s.value) y.1 in
    record { var = y.0; within = z.0; sign = z.1; rule = x.1 }

pub step_from : (p : Network) (b : PartBox) (s : Step) → StepParts p b s → IsTrue (step_holds p b s)
step_from p b s h =
    and_from (is_var p s.var && is_allowed b.bounds s.rule s.var s.low s.value) (rule_holds p b s.rule s.place s.var s.low s.value)
    (and_from (is_var p s.var) (is_allowed b.bounds s.rule s.var s.low s.value) h.var (and_from (may_become s.low s.value (ends_of b.bounds s.var)) (keeps_sign s.rule s.value) h.within h.sign)) h.rule

-- a rule of an arc
pub rule_at_arc : (p : Network) (b : PartBox) (rule : Rule) (a : ℕ) (v : Var) (low : Bool) (C : ℤ) → IsTrue (not (is_balance rule)) → rule_holds p b rule a v low C ≡ law_step p b rule a v low C
rule_at_arc p b Balance a v low C t = absurd cc
rule_at_arc p b Pipe a v low C t = refl
rule_at_arc p b Equal a v low C t = refl
rule_at_arc p b Zero a v low C t = refl
rule_at_arc p b Way a v low C t = refl
rule_at_arc p b Inner a v low C t = refl
rule_at_arc p b Fall a v low C t = refl
rule_at_arc p b Order a v low C t = refl
rule_at_arc p b Rise a v low C t = refl
rule_at_arc p b Ratio a v low C t = refl
rule_at_arc p b Sign a v low C t = refl
rule_at_arc p b Reach a v low C t = refl
rule_at_arc p b Along a v low C t = refl
rule_at_arc p b Drop a v low C t = refl

-- ---- which variable of an arc it is
cond_some : {A : Type 0} (t : Bool) (x y : A) → cond t (Some x) None ≡ Some y → (t ≡ true) × (x ≡ y)
cond_some true x y e = (refl, cc)
cond_some false x y e = absurd cc

own_end : (b : Bounds) (v w : Var) (E : ArcEnds) (x y : ArcVar) → v ≡ w → x ≡ y → ends_at E x ≡ ends_of b w → ends_at E y ≡ ends_of b v
own_end b v w E x y e s h = ap (ends_at E) (sym s) ∙ h ∙ ap (ends_of b) (sym e)

square_own : (b : Bounds) (a n : ℕ) (row : ArcRow) (x : ArcVar) (t s : Bool) → (t ≡ true → n ≡ row.from) → (s ≡ true → n ≡ row.to) → cond t (Some OfFrom) (cond s (Some OfTo) None) ≡ Some x → ends_at (arc_ends b a row) x ≡ ends_of b (Square n)
square_own b a n row x true s f g e = own_end b (Square n) (Square row.from) (arc_ends b a row) OfFrom x (ap Square (f refl)) (cc) refl
square_own b a n row x false true f g e = own_end b (Square n) (Square row.to) (arc_ends b a row) OfTo x (ap Square (g refl)) (cc) refl
square_own b a n row x false false f g e = absurd cc

pub own_is : (b : Bounds) (a : ℕ) (row : ArcRow) (v : Var) (x : ArcVar) → arc_var a row v ≡ Some x → ends_at (arc_ends b a row) x ≡ ends_of b v
own_is b a row (Flow i) x e =
    let h = cond_some (i == a) OfFlow x e in
    own_end b (Flow i) (Flow a) (arc_ends b a row) OfFlow x (ap Flow (eqb-true i a h.0)) h.1 refl
own_is b a row (Square n) x e = square_own b a n row x (n == row.from) (n == row.to) (eqb-true n row.from) (eqb-true n row.to) e

-- ---- steps of an arc
-- a step by a rule of the law of an arc, taken apart
pub record ArcMove (b : PartBox) (a : ℕ) (row : ArcRow) (form : LawForm) (s : Step) : Type 0 where
  pub x : ArcVar
  pub is : arc_var a row s.var ≡ Some x
  pub within : IsTrue (may_become s.low s.value (ends_at (arc_ends b.bounds a row) x))
  pub allowed : IsTrue (allows s.rule form b.scale (arc_ends b.bounds a row) x s.low s.value)
  pub shrinks : IsTrue (shrinks s.low s.value (ends_at (arc_ends b.bounds a row) x))

-- the law of an arc in which the state is fixed
pub record HasForm (p : Network) (b : PartBox) (a : ℕ) (row : ArcRow) (form : LawForm) : Type 0 where
  pub row_is : slice_get p.arcs a ≡ Some row
  pub form_is : fixed_form p b.part a row ≡ Some form

pub law_says : (p : Network) (b : PartBox) (rule : Rule) (a : ℕ) (v : Var) (low : Bool) (C : ℤ) (row : ArcRow) (form : LawForm) → HasForm p b a row form → IsTrue (law_step p b rule a v low C)
    → (x : ArcVar) × (arc_var a row v ≡ Some x) × IsTrue (arc_step rule form b.scale (arc_ends b.bounds a row) x low C)
law_says p b rule a v low C row form h t =
    let t1 : IsTrue (row_step p b rule a v low C row) = ap (λ o. option_map_or (row_step p b rule a v low C) o false) (sym h.row_is) ∙ t in
    let t2 : IsTrue (form_step rule b.scale (arc_ends b.bounds a row) (arc_var a row v) low C form) = ap (λ o. option_map_or (form_step rule b.scale (arc_ends b.bounds a row) (arc_var a row v) low C) o false) (sym h.form_is) ∙ t1 in
    some_is (arc_var a row v) (λ y. arc_step rule form b.scale (arc_ends b.bounds a row) y low C) t2

pub law_from : (p : Network) (b : PartBox) (rule : Rule) (a : ℕ) (v : Var) (low : Bool) (C : ℤ) (row : ArcRow) (form : LawForm) (x : ArcVar) → HasForm p b a row form → arc_var a row v ≡ Some x
    → IsTrue (arc_step rule form b.scale (arc_ends b.bounds a row) x low C) → IsTrue (law_step p b rule a v low C)
law_from p b rule a v low C row form x h e t =
    some_from (slice_get p.arcs a) (row_step p b rule a v low C) row h.row_is
    (some_from (fixed_form p b.part a row) (form_step rule b.scale (arc_ends b.bounds a row) (arc_var a row v) low C) form h.form_is
    (some_from (arc_var a row v) (λ y. arc_step rule form b.scale (arc_ends b.bounds a row) y low C) x e t))

-- the parts of a rule's law, which is that of the arc a
pub place_is : (a : ℕ) (rule : Rule) (place : ℕ) → IsTrue (is_of_law (AtArc a) rule place) → IsTrue (not (is_balance rule)) × (place ≡ a)
place_is a rule place t = let h = and_parts (not (is_balance rule)) (place == a) t in (h.0, eqb-true place a h.1)

pub arc_move : (p : Network) (b : PartBox) (a : ℕ) (row : ArcRow) (form : LawForm) (s : Step) → HasForm p b a row form → IsTrue (is_of_law (AtArc a) s.rule s.place) → IsMove p b s → ArcMove b a row form s
arc_move p b a row form s h l m =
    let parts = step_parts p b s m.holds in
    let place = place_is a s.rule s.place l in
    let holds : IsTrue (rule_holds p b s.rule a s.var s.low s.value) = subst (λ (n : ℕ). IsTrue (rule_holds p b s.rule n s.var s.low s.value)) place.1 parts.rule in
    let law = law_says p b s.rule a s.var s.low s.value row form h (sym (rule_at_arc p b s.rule a s.var s.low s.value place.0) ∙ holds) in
    let own = sym (own_is b.bounds a row s.var law.0 law.1) in
    record {
      x = law.0;
      is = law.1;
      within = subst (λ (e : Ends). IsTrue (may_become s.low s.value e)) own parts.within;
      allowed = and_from (keeps_sign s.rule s.value) (arc_step s.rule form b.scale (arc_ends b.bounds a row) law.0 s.low s.value) parts.sign law.2;
      shrinks = subst (λ (e : Ends). IsTrue (shrinks s.low s.value e)) own m.shrinks;
    }

-- there is none before the state is fixed
pub unfixed_move : (p : Network) (b : PartBox) (a : ℕ) (row : ArcRow) (s : Step) → slice_get p.arcs a ≡ Some row → fixed_form p b.part a row ≡ None → IsTrue (is_of_law (AtArc a) s.rule s.place) → IsMove p b s → ⊥
unfixed_move p b a row s r f l m =
    let parts = step_parts p b s m.holds in
    let place = place_is a s.rule s.place l in
    let holds : IsTrue (rule_holds p b s.rule a s.var s.low s.value) = subst (λ (n : ℕ). IsTrue (rule_holds p b s.rule n s.var s.low s.value)) place.1 parts.rule in
    let t : IsTrue (law_step p b s.rule a s.var s.low s.value) = sym (rule_at_arc p b s.rule a s.var s.low s.value place.0) ∙ holds in
    let t1 : IsTrue (row_step p b s.rule a s.var s.low s.value row) = ap (λ o. option_map_or (row_step p b s.rule a s.var s.low s.value) o false) (sym r) ∙ t in
    let t2 : IsTrue false = ap (λ o. option_map_or (form_step s.rule b.scale (arc_ends b.bounds a row) (arc_var a row s.var) s.low s.value) o false) (sym f) ∙ t1 in
    absurd cc

-- the step to the best value of a rule is the tightest
pub tight_step : (p : Network) (b : PartBox) (a : ℕ) (row : ArcRow) (form : LawForm) (rule : Rule) (v : Var) (low : Bool) (C : ℤ) (x : ArcVar) → HasForm p b a row form → IsTrue (not (is_balance rule)) → IsTrue (is_var p v) → arc_var a row v ≡ Some x
    → IsBest low (ends_at (arc_ends b.bounds a row) x) (allows rule form b.scale (arc_ends b.bounds a row) x low) C
    → IsTightest p b (record { var = v; low = low; value = C; rule = rule; place = a }) × IsTrue (shrinks low C (ends_of b.bounds v))
tight_step p b a row form rule v low C x h n i e best =
    let E = arc_ends b.bounds a row in
    let own = own_is b.bounds a row v x e in
    let t = and_parts (keeps_sign rule C) (arc_step rule form b.scale E x low C) best.allowed in
    let law : IsTrue (law_step p b rule a v low C) = law_from p b rule a v low C row form x h e t.1 in
    let s : Step = record { var = v; low = low; value = C; rule = rule; place = a } in (
      record {
        holds = step_from p b s (record { var = i; within = subst (λ (z : Ends). IsTrue (may_become low C z)) own best.within; sign = t.0; rule = rule_at_arc p b rule a v low C n ∙ law });
        tightest = λ B d.
            let parts = step_parts p b (with_value s B) d in
            let there = law_says p b rule a v low B row form h (sym (rule_at_arc p b rule a v low B n) ∙ parts.rule) in
            let same : there.0 ≡ x = cc (there.1, e) in
            let here : IsTrue (arc_step rule form b.scale E x low B) = subst (λ (y : ArcVar). IsTrue (arc_step rule form b.scale E y low B)) same there.2 in
            best.tightest B (subst (λ (z : Ends). IsTrue (may_become low B z)) (sym own) parts.within) (and_from (keeps_sign rule B) (arc_step rule form b.scale E x low B) parts.sign here);
      },
      subst (λ (z : Ends). IsTrue (shrinks low C z)) own best.shrinks,
    )

-- no step is by a rule, at an end, that has no best value there
pub no_step_by : (b : PartBox) (a : ℕ) (row : ArcRow) (form : LawForm) (s : Step) (rule : Rule) (x : ArcVar) (low : Bool) → (m : ArcMove b a row form s) → s.rule ≡ rule → m.x ≡ x → s.low ≡ low
    → HasNoBest low (ends_at (arc_ends b.bounds a row) x) (allows rule form b.scale (arc_ends b.bounds a row) x low) → ⊥
no_step_by b a row form s rule x low m r y l none =
    let E = arc_ends b.bounds a row in
    let n1 : HasNoBest low (ends_at E x) (allows s.rule form b.scale E x low) = subst (λ (k : Rule). HasNoBest low (ends_at E x) (allows k form b.scale E x low)) (sym r) none in
    let n2 : HasNoBest low (ends_at E m.x) (allows s.rule form b.scale E m.x low) = subst (λ (k : ArcVar). HasNoBest low (ends_at E k) (allows s.rule form b.scale E k low)) (sym y) n1 in
    let n3 : HasNoBest s.low (ends_at E m.x) (allows s.rule form b.scale E m.x s.low) = subst (λ (k : Bool). HasNoBest k (ends_at E m.x) (allows s.rule form b.scale E m.x k)) (sym l) n2 in
    n3.none s.value m.within m.allowed m.shrinks
