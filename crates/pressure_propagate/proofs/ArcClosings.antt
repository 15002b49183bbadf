-- The first closing of an arc.
use Rattle.std.proofs.Common.{◌≡◌, ◌⊎◌, inl, inr, ℕ, ◌<◌, refl, sym, ap, ◌∙◌, subst, ℤ, true, false, not, IsTrue, Some, None, length, get_or, List}
use Rattle.std.specs.Prelude.{slice_get}
use Rattle.std.specs.Option.{option_map_or}
use Rattle.gas_model.specs.declared.rows.ArcRow.{ArcRow}
use Rattle.gas_model.specs.Rows.{Network}
use Rattle.gas_model.specs.declared.law_forms.LawForm.{LawForm}
use Rattle.tree_cert.specs.declared.line.Rule.{Rule}
use Rattle.tree_cert.specs.declared.line.Rule.TheVariants.{Balance}
use Rattle.tree_cert.specs.declared.line.Closing.TheVariants.{At}
use Rattle.tree_rules.specs.declared.arc_vars.ArcEnds.{ArcEnds}
use Rattle.tree_rules.specs.ArcRules.{arc_closing}
use Rattle.tree_rules.specs.Rules.{PartBox, arc_ends, fixed_form, row_closing, closing_at}
use Rattle.tight_steps.specs.Moves.{is_balance}
use Rattle.tight_steps.proofs.ArcMoves.{HasForm}
use Rattle.tight_steps.proofs.OtherArcs.{closing_at_arc}
use Rattle.pressure_propagate.specs.SquareRules.{closing_rules, HasNoClosing, IsFirstClosing, ArcClosesNothing, IsFirstAtArc}
use Rattle.pressure_propagate.proofs.RuleLists.{StandsIn, ascend, ClosesNone, closes_or_not, closings_ascend, AreDone, all_done, done_before}

-- ---- the rules of a law
-- a rule leaves a point
abbrev pub Opens : LawForm → ℤ → ArcEnds → Rule → Type 0
Opens form K e rule = IsTrue (arc_closing rule form K e) → ⊥

still : (form : LawForm) (K : ℤ) (e : ArcEnds) (rule : Rule) → ClosesNone rule form → Opens form K e rule
still form K e rule h t = let x : false ≡ true = sym (h K e) ∙ t in absurd cc

pub opens_by : (form : LawForm) (K : ℤ) (e : ArcEnds) (rule : Rule) → arc_closing rule form K e ≡ false → Opens form K e rule
opens_by form K e rule h t = let x : false ≡ true = sym h ∙ t in absurd cc

pub no_closing : (form : LawForm) (K : ℤ) (e : ArcEnds) (rules : List Rule) (k : ℕ) → rules ≡ closing_rules form → length rules ≡ k → AreDone (Opens form K e) rules k → HasNoClosing form K e
no_closing form K e rules k same l h = record {
  none = λ rule.
      elim (closes_or_not rule form) [
        | inl stands ↦ all_done (Opens form K e) rules k l h rule (subst (λ (z : List Rule). StandsIn z rule) (sym same) stands)
        | inr never ↦ still form K e rule never
      ];
}

pub closing_found : (form : LawForm) (K : ℤ) (e : ArcEnds) (rules : List Rule) (k : ℕ) (rule : Rule) → rules ≡ closing_rules form → k < length rules → get_or rules k Balance ≡ rule → AreDone (Opens form K e) rules k → IsTrue (arc_closing rule form K e) → IsFirstClosing form K e rule
closing_found form K e rules k rule same l is h t = record {
  holds = t;
  first = λ other n.
      elim (closes_or_not other form) [
        | inl stands ↦ done_before (Opens form K e) rules k rule (subst (λ (z : List Rule). ascend z ≡ true) (sym same) (closings_ascend form)) l is h other (subst (λ (z : List Rule). StandsIn z other) (sym same) stands) n
        | inr never ↦ still form K e other never
      ];
}

-- ---- closings of an arc
pub unfixed_opens : (p : Network) (b : PartBox) (a : ℕ) (row : ArcRow) → slice_get p.arcs a ≡ Some row → fixed_form p b.part a row ≡ None → ArcClosesNothing p b a
unfixed_opens p b a row r f = record {
  none = λ rule n t.
      let t1 : IsTrue (option_map_or (row_closing p b rule a) (slice_get p.arcs a) false) = sym (closing_at_arc p b rule a n) ∙ t in
      let t2 : IsTrue (row_closing p b rule a row) = ap (λ o. option_map_or (row_closing p b rule a) o false) (sym r) ∙ t1 in
      let t3 : IsTrue false = ap (λ o. option_map_or (λ form. arc_closing rule form b.scale (arc_ends b.bounds a row)) o false) (sym f) ∙ t2 in
      absurd cc;
}

closing_says : (p : Network) (b : PartBox) (rule : Rule) (a : ℕ) (row : ArcRow) (form : LawForm) → HasForm p b a row form → IsTrue (not (is_balance rule)) → closing_at p b rule a ≡ arc_closing rule form b.scale (arc_ends b.bounds a row)
closing_says p b rule a row form h n =
    closing_at_arc p b rule a n
    ∙ ap (λ o. option_map_or (row_closing p b rule a) o false) h.row_is
    ∙ ap (λ o. option_map_or (λ f. arc_closing rule f b.scale (arc_ends b.bounds a row)) o false) h.form_is

no_balance : (rule : Rule) (form : LawForm) (K : ℤ) (e : ArcEnds) → IsTrue (arc_closing rule form K e) → IsTrue (not (is_balance rule))
no_balance Balance form K e t = absurd cc
no_balance rule form K e t = refl

pub none_closes : (p : Network) (b : PartBox) (a : ℕ) (row : ArcRow) (form : LawForm) (E : ArcEnds) → HasForm p b a row form → E ≡ arc_ends b.bounds a row → HasNoClosing form b.scale E → ArcClosesNothing p b a
none_closes p b a row form E h e n =
    let here : HasNoClosing form b.scale (arc_ends b.bounds a row) = subst (λ (z : ArcEnds). HasNoClosing form b.scale z) e n in
    record { none = λ rule arc t. here.none rule (sym (closing_says p b rule a row form h arc) ∙ t) }

pub first_closes : (p : Network) (b : PartBox) (a : ℕ) (row : ArcRow) (form : LawForm) (E : ArcEnds) (rule : Rule) → HasForm p b a row form → E ≡ arc_ends b.bounds a row → IsFirstClosing form b.scale E rule → IsFirstAtArc p b a (At rule a)
first_closes p b a row form E rule h e f =
    let here : IsFirstClosing form b.scale (arc_ends b.bounds a row) rule = subst (λ (z : ArcEnds). IsFirstClosing form b.scale z rule) e f in
    let arc = no_balance rule form b.scale (arc_ends b.bounds a row) here.holds in
    record {
      rule = rule;
      is = refl;
      of_arc = arc;
      holds = closing_says p b rule a row form h arc ∙ here.holds;
      first = λ other n l t. here.first other l (sym (closing_says p b other a row form h n) ∙ t);
    }
