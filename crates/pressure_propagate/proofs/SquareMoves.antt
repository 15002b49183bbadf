-- Steps of an arc on its squares.
use Rattle.std.proofs.Common.{◌≡◌, ◌≢◌, ◌⊎◌, inl, inr, ℕ, ◌+◌, ◌*◌, ◌<◌, refl, sym, ap, ◌∙◌, subst, arith, ℤ, Bool, true, false, cond, ◌&&◌, not, ◌==◌, IsTrue, Some, None, length, eq-eqb, ne_eqb, get_or, List}
use Rattle.std.specs.Prelude.{slice_get}
use Rattle.std.proofs.lemmas.Bool.{and_parts}
use borrow.Author.Tests.{lt-ltb}
use Rattle.gas_model.specs.declared.rows.ArcRow.{ArcRow}
use Rattle.base_types.specs.declared.variables.Var.{Var}
use Rattle.base_types.specs.declared.variables.Var.TheVariants.{Flow, Square}
use Rattle.gas_model.specs.Rows.{Network}
use Rattle.gas_model.specs.Within.{IsWithin}
use Rattle.gas_model.specs.declared.law_forms.LawForm.{LawForm}
use Rattle.tree_cert.specs.declared.line.Rule.{Rule}
use Rattle.tree_cert.specs.declared.line.Rule.TheVariants.{Balance, Pipe, Equal, Zero, Way, Inner, Fall, Order, Rise, Ratio, Sign, Reach, Along, Drop}
use Rattle.tree_cert.specs.declared.line.Step.{Step}
use Rattle.tree_rules.specs.declared.arc_vars.ArcEnds.{ArcEnds}
use Rattle.tree_rules.specs.declared.arc_vars.ArcVar.{ArcVar}
use Rattle.tree_rules.specs.declared.arc_vars.ArcVar.TheVariants.{OfFrom, OfTo}
use Rattle.tree_rules.specs.ArcRules.{arc_step, keeps_sign}
use Rattle.tree_rules.specs.Rules.{PartBox, arc_ends, arc_var, fixed_form}
use Rattle.tight_steps.specs.declared.law.Law.TheVariants.{AtArc}
use Rattle.tight_steps.specs.Best.{IsBest, HasNoBest, shrinks}
use Rattle.tight_steps.specs.Moves.{is_balance, is_of_law, is_square, square_number, turn_of, rule_number, ends_at, allows, HasNoMove, IsFirstMove, IsMove}
use Rattle.tight_steps.proofs.ArcMoves.{HasForm, ArcMove, arc_move, unfixed_move, tight_step, no_step_by}
use Rattle.pressure_propagate.specs.SquareRules.{square_rules, square_at, HasNoRule, IsFirstRule, HasNoRuleEnd, IsFirstRuleEnd}
use Rattle.pressure_propagate.specs.declared.ends.RuleEnd.{RuleEnd}
use Rattle.pressure_propagate.specs.declared.ends.RuleValue.{RuleValue}
use Rattle.pressure_propagate.proofs.RuleLists.{StandsIn, ascend, MovesNoSquare, moves_or_not, squares_ascend, AreDone, all_done, done_before}

-- ---- the rules of one end
-- a rule has no best value at an end of a square
abbrev pub Leaves : LawForm → ℤ → ArcEnds → (from low : Bool) → Rule → Type 0
Leaves form K e from low rule = HasNoBest low (ends_at e (square_at from)) (allows rule form K e (square_at from) low)

-- a rule that never moves squares has none
still : (form : LawForm) (K : ℤ) (e : ArcEnds) (from low : Bool) (rule : Rule) → MovesNoSquare rule form → Leaves form K e from low rule
still form K e from low rule h = record {
  none = λ C w t s.
      let parts = and_parts (keeps_sign rule C) (arc_step rule form K e (square_at from) low C) t in
      let x : false ≡ true = sym (h K e from low C) ∙ parts.1 in
      absurd cc;
}

pub no_rule : (form : LawForm) (K : ℤ) (e : ArcEnds) (from low : Bool) (rules : List Rule) (k : ℕ) → rules ≡ square_rules form → length rules ≡ k → AreDone (Leaves form K e from low) rules k → HasNoRule form K e (square_at from) low
no_rule form K e from low rules k same l h = record {
  none = λ rule.
      elim (moves_or_not rule form) [
        | inl stands ↦ all_done (Leaves form K e from low) rules k l h rule (subst (λ (z : List Rule). StandsIn z rule) (sym same) stands)
        | inr never ↦ still form K e from low rule never
      ];
}

pub rule_found : (form : LawForm) (K : ℤ) (e : ArcEnds) (from low : Bool) (rules : List Rule) (k : ℕ) (rule : Rule) (value : ℤ) → rules ≡ square_rules form → k < length rules → get_or rules k Balance ≡ rule → AreDone (Leaves form K e from low) rules k
    → IsBest low (ends_at e (square_at from)) (allows rule form K e (square_at from) low) value → IsFirstRule form K e (square_at from) low (record { rule = rule; value = value })
rule_found form K e from low rules k rule value same l is h best = record {
  best = best;
  first = λ other n.
      elim (moves_or_not other form) [
        | inl stands ↦ done_before (Leaves form K e from low) rules k rule (subst (λ (z : List Rule). ascend z ≡ true) (sym same) (squares_ascend form)) l is h other (subst (λ (z : List Rule). StandsIn z other) (sym same) stands) n
        | inr never ↦ still form K e from low other never
      ];
}

-- ---- both ends
pub low_found : (form : LawForm) (K : ℤ) (e : ArcEnds) (x : ArcVar) (m : RuleValue) → IsFirstRule form K e x true m → IsFirstRuleEnd form K e x (record { low = true; rule = m.rule; value = m.value })
low_found form K e x m h = record { best = record { best = h.best; first = h.first }; first = λ t. absurd cc }

pub high_found : (form : LawForm) (K : ℤ) (e : ArcEnds) (x : ArcVar) (m : RuleValue) → HasNoRule form K e x true → IsFirstRule form K e x false m → IsFirstRuleEnd form K e x (record { low = false; rule = m.rule; value = m.value })
high_found form K e x m n h = record { best = record { best = h.best; first = h.first }; first = λ t. n }

pub neither_found : (form : LawForm) (K : ℤ) (e : ArcEnds) (x : ArcVar) → HasNoRule form K e x true → HasNoRule form K e x false → HasNoRuleEnd form K e x
neither_found form K e x n m = record { none = λ low. by low }
  where
    by : (low : Bool) → HasNoRule form K e x low
    by true = n
    by false = m

-- ---- which square it is
-- a square of an arc is that at its `from`, which is counted first, or that at its `to`
pub record SquareOf (row : ArcRow) (v : Var) (x : ArcVar) : Type 0 where
  pub from : Bool
  pub is : x ≡ square_at from
  pub number : square_number row v ≡ cond from 0 1

square_by : (row : ArcRow) (n : ℕ) (x : ArcVar) (t s : Bool) → t ≡ (n == row.from) → cond t (Some OfFrom) (cond s (Some OfTo) None) ≡ Some x → SquareOf row (Square n) x
square_by row n x true s h e = record { from = true; is = cc; number = ap (λ (z : Bool). cond z 0 1) (sym h) }
square_by row n x false true h e = record { from = false; is = cc; number = ap (λ (z : Bool). cond z 0 1) (sym h) }
square_by row n x false false h e = absurd cc

square_of : (a : ℕ) (row : ArcRow) (v : Var) (x : ArcVar) → IsTrue (is_square v) → arc_var a row v ≡ Some x → SquareOf row v x
square_of a row (Flow i) x t e = absurd cc
square_of a row (Square n) x t e = square_by row n x (n == row.from) (n == row.to) refl e

-- ---- steps
rule_below : (rule : Rule) → rule_number rule < 14
rule_below Balance = omega arith
rule_below Pipe = omega arith
rule_below Equal = omega arith
rule_below Zero = omega arith
rule_below Way = omega arith
rule_below Inner = omega arith
rule_below Fall = omega arith
rule_below Order = omega arith
rule_below Rise = omega arith
rule_below Ratio = omega arith
rule_below Sign = omega arith
rule_below Reach = omega arith
rule_below Along = omega arith
rule_below Drop = omega arith

-- no rule of an arc is the balance
no_balance : (rule : Rule) (form : LawForm) (K : ℤ) (e : ArcEnds) (x : ArcVar) (low : Bool) (C : ℤ) → IsTrue (arc_step rule form K e x low C) → IsTrue (not (is_balance rule))
no_balance Balance form K e x low C t = absurd cc
no_balance rule form K e x low C t = refl

pub unfixed_none : (p : Network) (b : PartBox) (a : ℕ) (row : ArcRow) → slice_get p.arcs a ≡ Some row → fixed_form p b.part a row ≡ None → HasNoMove p b (AtArc a) is_square
unfixed_none p b a row r f = record { none = λ s l k m. unfixed_move p b a row s r f l m }

-- a step on a square of an arc, with the square
record Moved (b : PartBox) (a : ℕ) (row : ArcRow) (form : LawForm) (s : Step) : Type 0 where
  pub move : ArcMove b a row form s
  pub of : SquareOf row s.var move.x

moved : (p : Network) (b : PartBox) (a : ℕ) (row : ArcRow) (form : LawForm) (s : Step) → HasForm p b a row form → IsTrue (is_of_law (AtArc a) s.rule s.place) → IsTrue (is_square s.var) → IsMove p b s → Moved b a row form s
moved p b a row form s h l k m =
    let x = arc_move p b a row form s h l m in
    record { move = x; of = square_of a row s.var x.x k x.is }

-- no step is by a rule without a best value
no_step : (b : PartBox) (a : ℕ) (row : ArcRow) (form : LawForm) (s : Step) (from : Bool) → (m : Moved b a row form s) → m.of.from ≡ from → Leaves form b.scale (arc_ends b.bounds a row) from s.low s.rule → ⊥
no_step b a row form s from m e none = no_step_by b a row form s s.rule (square_at from) s.low m.move refl (m.of.is ∙ ap square_at e) refl none

-- a square at which no rule moves an end
no_square : (b : PartBox) (a : ℕ) (row : ArcRow) (form : LawForm) (s : Step) (from : Bool) → (m : Moved b a row form s) → m.of.from ≡ from → HasNoRuleEnd form b.scale (arc_ends b.bounds a row) (square_at from) → ⊥
no_square b a row form s from m e n = no_step b a row form s from m e ((n.none s.low).none s.rule)

either : (from : Bool) → (from ≡ true → ⊥) → (from ≡ false → ⊥) → ⊥
either true h k = h refl
either false h k = k refl

pub neither_square : (p : Network) (b : PartBox) (a : ℕ) (row : ArcRow) (form : LawForm) (E : ArcEnds) → HasForm p b a row form → E ≡ arc_ends b.bounds a row → HasNoRuleEnd form b.scale E OfFrom → HasNoRuleEnd form b.scale E OfTo → HasNoMove p b (AtArc a) is_square
neither_square p b a row form E h e n m =
    let u : HasNoRuleEnd form b.scale (arc_ends b.bounds a row) OfFrom = subst (λ (z : ArcEnds). HasNoRuleEnd form b.scale z OfFrom) e n in
    let v : HasNoRuleEnd form b.scale (arc_ends b.bounds a row) OfTo = subst (λ (z : ArcEnds). HasNoRuleEnd form b.scale z OfTo) e m in
    record {
      none = λ s l k move.
          let x = moved p b a row form s h l k move in
          either x.of.from (λ t. no_square b a row form s true x t u) (λ t. no_square b a row form s false x t v);
    }

-- of two steps on one square the first is at the lower end, or by the earlier rule
first_by : (n m : Bool) (x y : ℕ) → x < 14 → y < 14 → cond n 0 14 + x < cond m 0 14 + y → ((n ≡ m) × (x < y)) ⊎ ((n ≡ true) × (m ≡ false))
first_by true true x y p q h = inl (refl, omega (arith, h))
first_by false false x y p q h = inl (refl, omega (arith, h))
first_by true false x y p q h = inr (refl, refl)
first_by false true x y p q h = absurd (omega (arith, h))

-- no rule before the found one moves this end
not_before : (form : LawForm) (K : ℤ) (e : ArcEnds) (from : Bool) (m : RuleEnd) (low : Bool) (rule : Rule) → IsFirstRuleEnd form K e (square_at from) m → cond low 0 14 + rule_number rule < cond m.low 0 14 + rule_number m.rule → Leaves form K e from low rule
not_before form K e from m low rule f h =
    elim (first_by low m.low (rule_number rule) (rule_number m.rule) (rule_below rule) (rule_below m.rule) h) [
      | inl same ↦ subst (λ (z : Bool). Leaves form K e from z rule) (sym same.0) (f.best.first rule same.1)
      | inr lower ↦ subst (λ (z : Bool). Leaves form K e from z rule) (sym lower.0) ((f.first lower.1).none rule)
    ]

-- the step that an end of a square makes
abbrev pub square_step : (n a : ℕ) → RuleEnd → Step
square_step n a m = record { var = Square n; low = m.low; value = m.value; rule = m.rule; place = a }

-- the found one is the tightest of its rule
found_tight : (p : Network) (b : PartBox) (a : ℕ) (row : ArcRow) (form : LawForm) (from : Bool) (n : ℕ) (m : RuleEnd) → HasForm p b a row form → n < length p.nodes → arc_var a row (Square n) ≡ Some (square_at from)
    → IsFirstRuleEnd form b.scale (arc_ends b.bounds a row) (square_at from) m
    → ((s : Step) → IsTrue (is_of_law (AtArc a) s.rule s.place) → IsTrue (is_square s.var) → turn_of (square_number row) s < turn_of (square_number row) (square_step n a m) → IsMove p b s → ⊥)
    → IsFirstMove p b (AtArc a) is_square (square_number row) (square_step n a m)
found_tight p b a row form from n m h l var f first =
    let E = arc_ends b.bounds a row in
    let law = no_balance m.rule form b.scale E (square_at from) m.low m.value (and_parts (keeps_sign m.rule m.value) (arc_step m.rule form b.scale E (square_at from) m.low m.value) f.best.best.allowed).1 in
    let t = tight_step p b a row form m.rule (Square n) m.low m.value (square_at from) h law (lt-ltb n (length p.nodes) l) var f.best.best in
    record {
      of_law = ap (λ (x : Bool). x && (a == a)) law ∙ same a;
      of_kind = refl;
      shrinks = t.1;
      tightest = t.0;
      first = first;
    }
  where
    same : (n : ℕ) → (n == n) ≡ true
    same n = eq-eqb n n refl

is_first : (n m : ℕ) → n ≡ m → (n == m) ≡ true
is_first n m e = eq-eqb n m e

from_var : (a : ℕ) (row : ArcRow) → arc_var a row (Square row.from) ≡ Some OfFrom
from_var a row = ap (λ (t : Bool). cond t (Some OfFrom) (cond (row.from == row.to) (Some OfTo) None)) (is_first row.from row.from refl)

to_var : (a : ℕ) (row : ArcRow) → row.from ≢ row.to → arc_var a row (Square row.to) ≡ Some OfTo
to_var a row n =
    ap (λ (t : Bool). cond t (Some OfFrom) (cond (row.to == row.to) (Some OfTo) None)) (ne_eqb row.to row.from (λ e. n (sym e)))
    ∙ ap (λ (t : Bool). cond t (Some OfTo) None) (is_first row.to row.to refl)

from_number : (row : ArcRow) → square_number row (Square row.from) ≡ 0
from_number row = ap (λ (t : Bool). cond t 0 1) (is_first row.from row.from refl)

to_number : (row : ArcRow) → row.from ≢ row.to → square_number row (Square row.to) ≡ 1
to_number row n = ap (λ (t : Bool). cond t 0 1) (ne_eqb row.to row.from (λ e. n (sym e)))

pub from_square : (p : Network) (b : PartBox) (a : ℕ) (row : ArcRow) (form : LawForm) (E : ArcEnds) (m : RuleEnd) → IsWithin p → HasForm p b a row form → E ≡ arc_ends b.bounds a row → IsFirstRuleEnd form b.scale E OfFrom m
    → IsFirstMove p b (AtArc a) is_square (square_number row) (square_step row.from a m)
from_square p b a row form E m w h e f =
    let own = arc_ends b.bounds a row in
    let here : IsFirstRuleEnd form b.scale own OfFrom m = subst (λ (z : ArcEnds). IsFirstRuleEnd form b.scale z OfFrom m) e f in
    found_tight p b a row form true row.from m h (w.from a row h.row_is) (from_var a row) here
    (λ s l k before move.
    let x = moved p b a row form s h l k move in
    let order : 28 * square_number row s.var + cond s.low 0 14 + rule_number s.rule < 28 * square_number row (Square row.from) + cond m.low 0 14 + rule_number m.rule = before in
    either x.of.from
    (λ t.
    let number : square_number row s.var ≡ 0 = x.of.number ∙ ap (λ (z : Bool). cond z 0 1) t in
    no_step b a row form s true x t (not_before form b.scale own true m s.low s.rule here (omega (arith, order, number, from_number row))))
    (λ t.
    let number : square_number row s.var ≡ 1 = x.of.number ∙ ap (λ (z : Bool). cond z 0 1) t in
    beyond s.low m.low (rule_number s.rule) (rule_number m.rule) (rule_below m.rule) (omega (arith, order, number, from_number row))))
  where
    beyond : (n m : Bool) (x y : ℕ) → y < 14 → 28 + cond n 0 14 + x < cond m 0 14 + y → ⊥
    beyond true true x y p h = omega (arith, h)
    beyond true false x y p h = omega (arith, h)
    beyond false true x y p h = omega (arith, h)
    beyond false false x y p h = omega (arith, h)

pub to_square : (p : Network) (b : PartBox) (a : ℕ) (row : ArcRow) (form : LawForm) (E : ArcEnds) (m : RuleEnd) → IsWithin p → HasForm p b a row form → E ≡ arc_ends b.bounds a row → HasNoRuleEnd form b.scale E OfFrom → IsFirstRuleEnd form b.scale E OfTo m
    → IsFirstMove p b (AtArc a) is_square (square_number row) (square_step row.to a m)
to_square p b a row form E m w h e n f =
    let own = arc_ends b.bounds a row in
    let other : HasNoRuleEnd form b.scale own OfFrom = subst (λ (z : ArcEnds). HasNoRuleEnd form b.scale z OfFrom) e n in
    let here : IsFirstRuleEnd form b.scale own OfTo m = subst (λ (z : ArcEnds). IsFirstRuleEnd form b.scale z OfTo m) e f in
    found_tight p b a row form false row.to m h (w.to a row h.row_is) (to_var a row (w.apart a row h.row_is)) here
    (λ s l k before move.
    let x = moved p b a row form s h l k move in
    let order : 28 * square_number row s.var + cond s.low 0 14 + rule_number s.rule < 28 * square_number row (Square row.to) + cond m.low 0 14 + rule_number m.rule = before in
    either x.of.from
    (λ t. no_square b a row form s true x t other)
    (λ t.
    let number : square_number row s.var ≡ 1 = x.of.number ∙ ap (λ (z : Bool). cond z 0 1) t in
    no_step b a row form s false x t (not_before form b.scale own false m s.low s.rule here (omega (arith, order, number, to_number row (w.apart a row h.row_is))))))
