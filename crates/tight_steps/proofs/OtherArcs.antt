-- The law of an arc stays quiet where a variable changes that it doesn't mention.
use Rattle.std.proofs.Common.{◌≡◌, ◌≢◌, ℕ, refl, sym, ap, ◌∙◌, subst, ℤ, Bool, true, false, cond, not, ◌&&◌, ◌==◌, IsTrue, Some, None, eq-eqb}
use Rattle.std.specs.Prelude.{slice_get}
use Rattle.std.specs.Option.{option_map_or}
use Rattle.std.proofs.lemmas.List.{get_or-set_other}
use Rattle.std.proofs.lemmas.Bool.{and_parts, and_from}
use Rattle.gas_model.specs.declared.rows.ArcRow.{ArcRow}
use Rattle.gas_model.specs.declared.rows.Ends.{Ends}
use Rattle.base_types.specs.declared.variables.Var.{Var}
use Rattle.base_types.specs.declared.variables.Var.TheVariants.{Flow, Square}
use Rattle.gas_model.specs.Rows.{Network}
use Rattle.gas_model.specs.Boxes.{Bounds, ends_of, no_ends, is_var, may_become, tightened, with_end}
use Rattle.gas_model.specs.declared.law_forms.LawForm.{LawForm}
use Rattle.gas_model.specs.declared.law_forms.LawForm.TheVariants.{Drags, Equals, Shuts, Loses, Reduces, Raises, Never}
use Rattle.tree_cert.specs.declared.line.Rule.{Rule}
use Rattle.tree_cert.specs.declared.line.Rule.TheVariants.{Balance, Pipe, Equal, Zero, Way, Inner, Fall, Order, Rise, Ratio, Sign, Reach, Along, Drop}
use Rattle.tree_cert.specs.declared.line.Step.{Step}
use Rattle.tree_rules.specs.declared.arc_vars.ArcEnds.{ArcEnds}
use Rattle.tree_rules.specs.declared.arc_vars.ArcVar.{ArcVar}
use Rattle.tree_rules.specs.declared.arc_vars.ArcVar.TheVariants.{OfFlow, OfFrom, OfTo}
use Rattle.tree_rules.specs.ArcRules.{arc_step, arc_closing, keeps_sign}
use Rattle.tree_rules.specs.Rules.{PartBox, arc_ends, arc_var, fixed_form, form_step, row_step, law_step, rule_holds, row_closing, closing_at}
use Rattle.tree_rules.proofs.StepSound.{some_is}
use Rattle.tree_rules.proofs.Loosening.{some_from}
use Rattle.box_rules.proofs.OtherRules.{equals_closing_else, shuts_closing_else, never_step_else, never_closing_else}
use Rattle.tight_steps.specs.declared.law.Law.TheVariants.{AtArc}
use Rattle.tight_steps.specs.Best.{shrinks}
use Rattle.tight_steps.specs.Moves.{is_balance, is_of_law, ends_at, IsMove}
use Rattle.tight_steps.specs.Mentions.{form_mentions, arc_mentions, mentions}
use Rattle.tight_steps.specs.Frame.{with_value}
use Rattle.tight_steps.proofs.ArcMoves.{step_parts, step_from, rule_at_arc, own_is, ArcMove, HasForm, law_from, arc_move, place_is}

-- ---- the ends of another variable
pub same_ends : (b : Bounds) (v w : Var) (low : Bool) (C : ℤ) → (v ≡ w → ⊥) → ends_of (tightened b w low C) v ≡ ends_of b v
same_ends b (Flow i) (Flow a) low C n = get_or-set_other b.flows a i (with_end low C (ends_of b (Flow a))) no_ends (λ e. n (ap Flow e))
same_ends b (Flow i) (Square m) low C n = refl
same_ends b (Square i) (Flow a) low C n = refl
same_ends b (Square i) (Square m) low C n = get_or-set_other b.squares m i (with_end low C (ends_of b (Square m))) no_ends (λ e. n (ap Square e))

-- ---- which variables of an arc are mentioned
pub squares_alike : (form : LawForm) → form_mentions form OfFrom ≡ form_mentions form OfTo
squares_alike (Drags law) = refl
squares_alike Equals = refl
squares_alike Shuts = refl
squares_alike (Loses l h) = refl
squares_alike (Reduces a b l h) = refl
squares_alike (Raises a b n d r) = refl
squares_alike Never = refl

-- the variable of a row is one of the arc, and the law says of it what it says of that
pub record Found (a : ℕ) (row : ArcRow) (form : LawForm) (v : Var) (y : ArcVar) : Type 0 where
  pub x : ArcVar
  pub is : arc_var a row v ≡ Some x
  pub alike : form_mentions form x ≡ form_mentions form y

found_to : (a : ℕ) (row : ArcRow) (form : LawForm) (t : Bool) → (x : ArcVar) × (cond t (Some OfFrom) (cond (row.to == row.to) (Some OfTo) None) ≡ Some x) × (form_mentions form x ≡ form_mentions form OfTo)
found_to a row form true = (OfFrom, refl, squares_alike form)
found_to a row form false = (OfTo, ap (λ (t : Bool). cond t (Some OfTo) None) (eq-eqb row.to row.to refl), refl)

found_from : (a : ℕ) (row : ArcRow) (form : LawForm) → Found a row form (Square row.from) OfFrom
found_from a row form = record { x = OfFrom; is = ap (λ (t : Bool). cond t (Some OfFrom) (cond (row.from == row.to) (Some OfTo) None)) (eq-eqb row.from row.from refl); alike = refl }

found_flow : (a : ℕ) (row : ArcRow) (form : LawForm) → Found a row form (Flow a) OfFlow
found_flow a row form = record { x = OfFlow; is = ap (λ (t : Bool). cond t (Some OfFlow) None) (eq-eqb a a refl); alike = refl }

found_square : (a : ℕ) (row : ArcRow) (form : LawForm) → Found a row form (Square row.to) OfTo
found_square a row form = let f = found_to a row form (row.to == row.from) in record { x = f.0; is = f.1; alike = f.2 }

unlike : (a : ℕ) (row : ArcRow) (form : LawForm) (v w : Var) (y : ArcVar) → Found a row form v y → form_mentions form y ≡ true → option_map_or (form_mentions form) (arc_var a row w) false ≡ false → v ≡ w → ⊥
unlike a row form v w y f m n e =
    let here : arc_var a row w ≡ Some f.x = ap (arc_var a row) (sym e) ∙ f.is in
    let said : form_mentions form f.x ≡ false = ap (λ o. option_map_or (form_mentions form) o false) (sym here) ∙ n in
    let x : true ≡ false = sym m ∙ sym f.alike ∙ said in
    absurd cc

-- the ends of the variables that the law mentions are the same
pub agrees : (b : Bounds) (a : ℕ) (row : ArcRow) (form : LawForm) (w : Var) (low : Bool) (C : ℤ) → option_map_or (form_mentions form) (arc_var a row w) false ≡ false
    → (y : ArcVar) → form_mentions form y ≡ true → ends_at (arc_ends (tightened b w low C) a row) y ≡ ends_at (arc_ends b a row) y
agrees b a row form w low C n OfFlow m = same_ends b (Flow a) w low C (unlike a row form (Flow a) w OfFlow (found_flow a row form) m n)
agrees b a row form w low C n OfFrom m = same_ends b (Square row.from) w low C (unlike a row form (Square row.from) w OfFrom (found_from a row form) m n)
agrees b a row form w low C n OfTo m = same_ends b (Square row.to) w low C (unlike a row form (Square row.to) w OfTo (found_square a row form) m n)

-- ---- conditions that read the same ends
ends_eq : (E F : ArcEnds) → E.q ≡ F.q → E.u ≡ F.u → E.v ≡ F.v → E ≡ F
ends_eq E F p q r =
    let f : Ends → ArcEnds = λ (z : Ends). record { q = z; u = E.u; v = E.v } in
    let g : Ends → ArcEnds = λ (z : Ends). record { q = F.q; u = z; v = E.v } in
    let h : Ends → ArcEnds = λ (z : Ends). record { q = F.q; u = F.u; v = z } in
    ap f p ∙ ap g q ∙ ap h r

equals_q : (rule : Rule) (K : ℤ) (E : ArcEnds) (q : Ends) (x : ArcVar) (low : Bool) (C : ℤ) → arc_step rule Equals K E x low C ≡ arc_step rule Equals K (record { q = q; u = E.u; v = E.v }) x low C
equals_q Equal K E q OfFlow low C = refl
equals_q Equal K E q OfFrom true C = refl
equals_q Equal K E q OfFrom false C = refl
equals_q Equal K E q OfTo true C = refl
equals_q Equal K E q OfTo false C = refl
equals_q rule K E q x low C = refl

shuts_any : (rule : Rule) (K : ℤ) (E F : ArcEnds) (x : ArcVar) (low : Bool) (C : ℤ) → arc_step rule Shuts K E x low C ≡ arc_step rule Shuts K F x low C
shuts_any Zero K E F x low C = refl
shuts_any rule K E F x low C = refl

abbrev Agreed : LawForm → ArcEnds → ArcEnds → Type 0
Agreed form E F = (y : ArcVar) → form_mentions form y ≡ true → ends_at E y ≡ ends_at F y

all_agree : (form : LawForm) (E F : ArcEnds) → Agreed form E F → form_mentions form OfFlow ≡ true → form_mentions form OfFrom ≡ true → form_mentions form OfTo ≡ true → E ≡ F
all_agree form E F h p q r = ends_eq E F (h OfFlow p) (h OfFrom q) (h OfTo r)

step_agrees : (rule : Rule) (form : LawForm) (K : ℤ) (E F : ArcEnds) (x : ArcVar) (low : Bool) (C : ℤ) → Agreed form E F → arc_step rule form K E x low C ≡ arc_step rule form K F x low C
step_agrees rule (Drags law) K E F x low C h = ap (λ (e : ArcEnds). arc_step rule (Drags law) K e x low C) (all_agree (Drags law) E F h refl refl refl)
step_agrees rule (Loses l m) K E F x low C h = ap (λ (e : ArcEnds). arc_step rule (Loses l m) K e x low C) (all_agree (Loses l m) E F h refl refl refl)
step_agrees rule (Reduces a b l m) K E F x low C h = ap (λ (e : ArcEnds). arc_step rule (Reduces a b l m) K e x low C) (all_agree (Reduces a b l m) E F h refl refl refl)
step_agrees rule (Raises a b n d r) K E F x low C h = ap (λ (e : ArcEnds). arc_step rule (Raises a b n d r) K e x low C) (all_agree (Raises a b n d r) E F h refl refl refl)
step_agrees rule Equals K E F x low C h =
    equals_q rule K E F.q x low C ∙ ap (λ (e : ArcEnds). arc_step rule Equals K e x low C) (ends_eq (record { q = F.q; u = E.u; v = E.v }) F refl (h OfFrom refl) (h OfTo refl))
step_agrees rule Shuts K E F x low C h = shuts_any rule K E F x low C
step_agrees rule Never K E F x low C h = never_step_else rule K E x low C ∙ sym (never_step_else rule K F x low C)

closing_agrees : (rule : Rule) (form : LawForm) (K : ℤ) (E F : ArcEnds) → Agreed form E F → arc_closing rule form K E ≡ arc_closing rule form K F
closing_agrees rule (Drags law) K E F h = ap (arc_closing rule (Drags law) K) (all_agree (Drags law) E F h refl refl refl)
closing_agrees rule (Loses l m) K E F h = ap (arc_closing rule (Loses l m) K) (all_agree (Loses l m) E F h refl refl refl)
closing_agrees rule (Reduces a b l m) K E F h = ap (arc_closing rule (Reduces a b l m) K) (all_agree (Reduces a b l m) E F h refl refl refl)
closing_agrees rule (Raises a b n d r) K E F h = ap (arc_closing rule (Raises a b n d r) K) (all_agree (Raises a b n d r) E F h refl refl refl)
closing_agrees rule Equals K E F h = equals_closing_else rule K E ∙ sym (equals_closing_else rule K F)
closing_agrees rule Shuts K E F h = shuts_closing_else rule K E ∙ sym (shuts_closing_else rule K F)
closing_agrees rule Never K E F h = never_closing_else rule K E ∙ sym (never_closing_else rule K F)

-- a step is on a variable that its law mentions
equals_mention : (rule : Rule) (K : ℤ) (E : ArcEnds) (x : ArcVar) (low : Bool) (C : ℤ) → IsTrue (arc_step rule Equals K E x low C) → form_mentions Equals x ≡ true
equals_mention Equal K E OfFlow low C t = absurd cc
equals_mention Equal K E OfFrom low C t = refl
equals_mention Equal K E OfTo low C t = refl
equals_mention rule K E x low C t = absurd cc

shuts_mention : (rule : Rule) (K : ℤ) (E : ArcEnds) (x : ArcVar) (low : Bool) (C : ℤ) → IsTrue (arc_step rule Shuts K E x low C) → form_mentions Shuts x ≡ true
shuts_mention Zero K E OfFlow low C t = refl
shuts_mention Zero K E OfFrom low C t = absurd cc
shuts_mention Zero K E OfTo low C t = absurd cc
shuts_mention rule K E x low C t = absurd cc

step_mentions : (rule : Rule) (form : LawForm) (K : ℤ) (E : ArcEnds) (x : ArcVar) (low : Bool) (C : ℤ) → IsTrue (arc_step rule form K E x low C) → form_mentions form x ≡ true
step_mentions rule (Drags law) K E x low C t = refl
step_mentions rule (Loses l m) K E x low C t = refl
step_mentions rule (Reduces a b l m) K E x low C t = refl
step_mentions rule (Raises a b n d r) K E x low C t = refl
step_mentions rule Equals K E x low C t = equals_mention rule K E x low C t
step_mentions rule Shuts K E x low C t = shuts_mention rule K E x low C t
step_mentions rule Never K E x low C t = let e : true ≡ false = sym t ∙ never_step_else rule K E x low C in absurd cc

-- ---- the law of an arc
unsaid : (p : Network) (b : PartBox) (a : ℕ) (row : ArcRow) (form : LawForm) (w : Var) → HasForm p b a row form → mentions p b.part (AtArc a) w ≡ false → option_map_or (form_mentions form) (arc_var a row w) false ≡ false
unsaid p b a row form w h n =
    let n1 : arc_mentions p b.part a w row ≡ false = ap (λ o. option_map_or (arc_mentions p b.part a w) o false) (sym h.row_is) ∙ n in
    ap (λ o. option_map_or (λ f. option_map_or (form_mentions f) (arc_var a row w) false) o false) (sym h.form_is) ∙ n1

pub move_from : (p : Network) (b : PartBox) (a : ℕ) (row : ArcRow) (form : LawForm) (s : Step) → HasForm p b a row form → IsTrue (is_of_law (AtArc a) s.rule s.place) → IsTrue (is_var p s.var) → ArcMove b a row form s → IsMove p b s
move_from p b a row form s h l i m =
    let place = place_is a s.rule s.place l in
    let own = own_is b.bounds a row s.var m.x m.is in
    let t = and_parts (keeps_sign s.rule s.value) (arc_step s.rule form b.scale (arc_ends b.bounds a row) m.x s.low s.value) m.allowed in
    let law : IsTrue (law_step p b s.rule a s.var s.low s.value) = law_from p b s.rule a s.var s.low s.value row form m.x h m.is t.1 in
    record {
      holds = step_from p b s (record {
        var = i;
        within = subst (λ (z : Ends). IsTrue (may_become s.low s.value z)) own m.within;
        sign = t.0;
        rule = rule_at_arc p b s.rule s.place s.var s.low s.value place.0 ∙ subst (λ (n : ℕ). IsTrue (law_step p b s.rule n s.var s.low s.value)) (sym place.1) law;
      });
      shrinks = subst (λ (z : Ends). IsTrue (shrinks s.low s.value z)) own m.shrinks;
    }

-- where a rule of an arc holds, its state is fixed
has_form : (p : Network) (b : PartBox) (rule : Rule) (a : ℕ) (v : Var) (low : Bool) (C : ℤ) → IsTrue (law_step p b rule a v low C) → (row : ArcRow) × (form : LawForm) × HasForm p b a row form
has_form p b rule a v low C t =
    let found = some_is (slice_get p.arcs a) (row_step p b rule a v low C) t in
    let fixed = some_is (fixed_form p b.part a found.0) (form_step rule b.scale (arc_ends b.bounds a found.0) (arc_var a found.0 v) low C) found.2 in
    (found.0, fixed.0, record { row_is = found.1; form_is = fixed.1 })

pub arc_no_move : (p : Network) (b : PartBox) (a : ℕ) (w : Var) (low : Bool) (C : ℤ) → mentions p b.part (AtArc a) w ≡ false → ((s : Step) → IsTrue (is_of_law (AtArc a) s.rule s.place) → IsMove p b s → ⊥)
    → (s : Step) → IsTrue (is_of_law (AtArc a) s.rule s.place) → IsMove p (with_value b w low C) s → ⊥
arc_no_move p b a w low C n quiet s l m =
    let new = with_value b w low C in
    let parts = step_parts p new s m.holds in
    let place = place_is a s.rule s.place l in
    let law : IsTrue (law_step p new s.rule a s.var s.low s.value) = sym (rule_at_arc p new s.rule a s.var s.low s.value place.0) ∙ subst (λ (k : ℕ). IsTrue (rule_holds p new s.rule k s.var s.low s.value)) place.1 parts.rule in
    let has = has_form p new s.rule a s.var s.low s.value law in
    let row = has.0 in
    let form = has.1 in
    let old : HasForm p b a row form = record { row_is = has.2.row_is; form_is = has.2.form_is } in
    let move = arc_move p new a row form s has.2 l m in
    let same : Agreed form (arc_ends new.bounds a row) (arc_ends b.bounds a row) = agrees b.bounds a row form w low C (unsaid p b a row form w old n) in
    let t = and_parts (keeps_sign s.rule s.value) (arc_step s.rule form b.scale (arc_ends new.bounds a row) move.x s.low s.value) move.allowed in
    let mentioned = step_mentions s.rule form b.scale (arc_ends new.bounds a row) move.x s.low s.value t.1 in
    let own = same move.x mentioned in
    let there : ArcMove b a row form s = record {
      x = move.x;
      is = move.is;
      within = subst (λ (z : Ends). IsTrue (may_become s.low s.value z)) own move.within;
      allowed = and_from (keeps_sign s.rule s.value) (arc_step s.rule form b.scale (arc_ends b.bounds a row) move.x s.low s.value) t.0 (sym (step_agrees s.rule form b.scale (arc_ends new.bounds a row) (arc_ends b.bounds a row) move.x s.low s.value same) ∙ t.1);
      shrinks = subst (λ (z : Ends). IsTrue (shrinks s.low s.value z)) own move.shrinks;
    } in
    quiet s l (move_from p b a row form s old l parts.var there)

-- ---- its closings
pub closing_at_arc : (p : Network) (b : PartBox) (rule : Rule) (a : ℕ) → IsTrue (not (is_balance rule)) → closing_at p b rule a ≡ option_map_or (row_closing p b rule a) (slice_get p.arcs a) false
closing_at_arc p b Balance a t = absurd cc
closing_at_arc p b Pipe a t = refl
closing_at_arc p b Equal a t = refl
closing_at_arc p b Zero a t = refl
closing_at_arc p b Way a t = refl
closing_at_arc p b Inner a t = refl
closing_at_arc p b Fall a t = refl
closing_at_arc p b Order a t = refl
closing_at_arc p b Rise a t = refl
closing_at_arc p b Ratio a t = refl
closing_at_arc p b Sign a t = refl
closing_at_arc p b Reach a t = refl
closing_at_arc p b Along a t = refl
closing_at_arc p b Drop a t = refl

pub arc_no_closing : (p : Network) (b : PartBox) (a : ℕ) (w : Var) (low : Bool) (C : ℤ) → mentions p b.part (AtArc a) w ≡ false → ((rule : Rule) (place : ℕ) → IsTrue (is_of_law (AtArc a) rule place) → IsTrue (closing_at p b rule place) → ⊥)
    → (rule : Rule) (place : ℕ) → IsTrue (is_of_law (AtArc a) rule place) → IsTrue (closing_at p (with_value b w low C) rule place) → ⊥
arc_no_closing p b a w low C n quiet rule place l t =
    let new = with_value b w low C in
    let at = place_is a rule place l in
    let here : IsTrue (closing_at p new rule a) = subst (λ (k : ℕ). IsTrue (closing_at p new rule k)) at.1 t in
    let found = some_is (slice_get p.arcs a) (row_closing p new rule a) (sym (closing_at_arc p new rule a at.0) ∙ here) in
    let row = found.0 in
    let fixed = some_is (fixed_form p b.part a row) (λ form. arc_closing rule form b.scale (arc_ends new.bounds a row)) found.2 in
    let form = fixed.0 in
    let old : HasForm p b a row form = record { row_is = found.1; form_is = fixed.1 } in
    let same : Agreed form (arc_ends new.bounds a row) (arc_ends b.bounds a row) = agrees b.bounds a row form w low C (unsaid p b a row form w old n) in
    let there : IsTrue (arc_closing rule form b.scale (arc_ends b.bounds a row)) = sym (closing_agrees rule form b.scale (arc_ends new.bounds a row) (arc_ends b.bounds a row) same) ∙ fixed.2 in
    let before : IsTrue (closing_at p b rule a) = closing_at_arc p b rule a at.0 ∙ some_from (slice_get p.arcs a) (row_closing p b rule a) row found.1 (some_from (fixed_form p b.part a row) (λ f. arc_closing rule f b.scale (arc_ends b.bounds a row)) form fixed.1 there) in
    quiet rule place l (subst (λ (k : ℕ). IsTrue (closing_at p b rule k)) (sym at.1) before)
