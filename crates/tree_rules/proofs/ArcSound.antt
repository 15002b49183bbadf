-- A step by the law of an arc keeps every point, over any denominator, and a closing has none.
use Rattle.std.proofs.Common.{subst, ℤ, pos, ◌*ℤ◌, ◌≤ℤ◌, ◌<ℤ◌, Bool, true, false, IsTrue}
use Rattle.integer_laws.proofs.Ring.{mul_comm, mul_pos}
use Rattle.gas_model.specs.declared.law_forms.LawForm.{LawForm}
use Rattle.gas_model.specs.Laws.{meets_form}
use Rattle.gas_model.specs.Boxes.{IsBetween}
use Rattle.tree_cert.specs.declared.line.Rule.{Rule}
use Rattle.tree_rules.specs.declared.arc_vars.ArcEnds.{ArcEnds}
use Rattle.tree_rules.specs.declared.arc_vars.ArcVar.{ArcVar}
use Rattle.tree_rules.specs.declared.arc_vars.ArcVar.TheVariants.{OfFlow, OfFrom, OfTo}
use Rattle.tree_rules.specs.ArcRules.{arc_step, arc_closing}
use Rattle.tree_rules.proofs.UnitSound.{IsForm, Inside, Beyond, value_of, step_beyond, closing_none}
use Rattle.tree_rules.proofs.Scaled.{scaled, meets_up, step_up, closing_up}

-- the flow q / d and the squares u / d and v / d lie between the ends, which count units of 1/K
pub record ArcWithin (K d q u v : ℤ) (e : ArcEnds) : Type 0 where
  pub flow : IsBetween K d q e.q
  pub from : IsBetween K d u e.u
  pub to : IsBetween K d v e.v

-- the fraction n / d lies on the inner side of the end C
abbrev pub Keeps : (K d n : ℤ) → (low : Bool) → (C : ℤ) → Type 0
Keeps K d n true C = (d *ℤ C) ≤ℤ (K *ℤ n)
Keeps K d n false C = (K *ℤ n) ≤ℤ (d *ℤ C)

inside_of : (K d q u v : ℤ) (e : ArcEnds) → ArcWithin K d q u v e → Inside (K *ℤ q) (K *ℤ u) (K *ℤ v) (scaled d e)
inside_of K d q u v e w = record {
  q_lo = w.flow.above;
  q_hi = w.flow.below;
  u_lo = w.from.above;
  u_hi = w.from.below;
  v_lo = w.to.above;
  v_hi = w.to.below;
}

keeps_of : (K d q u v : ℤ) (x : ArcVar) (low : Bool) (C : ℤ) → Beyond low (d *ℤ C) (value_of x (K *ℤ q) (K *ℤ u) (K *ℤ v)) → Keeps K d (value_of x q u v) low C
keeps_of K d q u v OfFlow true C h = h
keeps_of K d q u v OfFlow false C h = h
keeps_of K d q u v OfFrom true C h = h
keeps_of K d q u v OfFrom false C h = h
keeps_of K d q u v OfTo true C h = h
keeps_of K d q u v OfTo false C h = h

pub arc_step_keeps : (rule : Rule) (form : LawForm) (K d q u v : ℤ) (e : ArcEnds) (x : ArcVar) (low : Bool) (C : ℤ) → IsForm form → pos 0 <ℤ K → pos 0 <ℤ d → IsTrue (meets_form form d q u v) → ArcWithin K d q u v e → IsTrue (arc_step rule form K e x low C) → Keeps K d (value_of x q u v) low C
arc_step_keeps rule form K d q u v e x low C i k p h w t =
    let box = subst (λ (N : ℤ). IsTrue (arc_step rule form N (scaled d e) x low (d *ℤ C))) (mul_comm d K) (step_up rule form d K e x low C p t) in
    keeps_of K d q u v x low C (step_beyond rule form (K *ℤ d) (K *ℤ q) (K *ℤ u) (K *ℤ v) (scaled d e) x low (d *ℤ C) i (mul_pos K d k p) (meets_up form K d q u v k h) (inside_of K d q u v e w) box)

pub arc_closing_none : (rule : Rule) (form : LawForm) (K d q u v : ℤ) (e : ArcEnds) → IsForm form → pos 0 <ℤ K → pos 0 <ℤ d → IsTrue (meets_form form d q u v) → ArcWithin K d q u v e → IsTrue (arc_closing rule form K e) → ⊥
arc_closing_none rule form K d q u v e i k p h w t =
    let box = subst (λ (N : ℤ). IsTrue (arc_closing rule form N (scaled d e))) (mul_comm d K) (closing_up rule form d K e p t) in
    closing_none rule form (K *ℤ d) (K *ℤ q) (K *ℤ u) (K *ℤ v) (scaled d e) i (mul_pos K d k p) (meets_up form K d q u v k h) (inside_of K d q u v e w) box
