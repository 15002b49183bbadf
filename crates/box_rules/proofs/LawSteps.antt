-- A step and a closing by the law of an arc, from what is found of its law, its ends and its variable.
use Rattle.std.proofs.Common.{◌≡◌, ℕ, ℤ, Bool, false, Some, None, ap, ◌∙◌}
use Rattle.std.specs.Option.{option_map_or}
use Rattle.gas_model.specs.declared.rows.ArcRow.{ArcRow}
use Rattle.base_types.specs.declared.variables.Var.{Var}
use Rattle.gas_model.specs.Rows.{Network}
use Rattle.gas_model.specs.declared.law_forms.LawForm.{LawForm}
use Rattle.tree_cert.specs.declared.line.Rule.{Rule}
use Rattle.tree_rules.specs.declared.arc_vars.ArcEnds.{ArcEnds}
use Rattle.tree_rules.specs.declared.arc_vars.ArcVar.{ArcVar}
use Rattle.tree_rules.specs.ArcRules.{arc_step, arc_closing}
use Rattle.tree_rules.specs.Rules.{PartBox, arc_ends, arc_var, fixed_form, form_step, row_step, row_closing}

pub no_law_step : (p : Network) (b : PartBox) (rule : Rule) (a : ℕ) (var : Var) (low : Bool) (C : ℤ) (row : ArcRow) → None ≡ fixed_form p b.part a row → false ≡ row_step p b rule a var low C row
no_law_step p b rule a var low C row f = ap (λ o. option_map_or (form_step rule b.scale (arc_ends b.bounds a row) (arc_var a row var) low C) o false) f

pub no_var_step : (p : Network) (b : PartBox) (rule : Rule) (a : ℕ) (var : Var) (low : Bool) (C : ℤ) (row : ArcRow) (F : LawForm) → Some F ≡ fixed_form p b.part a row → None ≡ arc_var a row var → false ≡ row_step p b rule a var low C row
no_var_step p b rule a var low C row F f s =
    ap (λ o. option_map_or (λ y. arc_step rule F b.scale (arc_ends b.bounds a row) y low C) o false) s
    ∙ ap (λ o. option_map_or (form_step rule b.scale (arc_ends b.bounds a row) (arc_var a row var) low C) o false) f

pub law_step_is : (p : Network) (b : PartBox) (rule : Rule) (a : ℕ) (var : Var) (low : Bool) (C : ℤ) (row : ArcRow) (F : LawForm) (K : ℤ) (E : ArcEnds) (Y : ArcVar)
    → Some F ≡ fixed_form p b.part a row → K ≡ b.scale → E ≡ arc_ends b.bounds a row → Some Y ≡ arc_var a row var → arc_step rule F K E Y low C ≡ row_step p b rule a var low C row
law_step_is p b rule a var low C row F K E Y f k e s =
    ap (λ (K : ℤ). arc_step rule F K E Y low C) k
    ∙ ap (λ (E : ArcEnds). arc_step rule F b.scale E Y low C) e
    ∙ ap (λ o. option_map_or (λ y. arc_step rule F b.scale (arc_ends b.bounds a row) y low C) o false) s
    ∙ ap (λ o. option_map_or (form_step rule b.scale (arc_ends b.bounds a row) (arc_var a row var) low C) o false) f

pub no_law_closing : (p : Network) (b : PartBox) (rule : Rule) (a : ℕ) (row : ArcRow) → None ≡ fixed_form p b.part a row → false ≡ row_closing p b rule a row
no_law_closing p b rule a row f = ap (λ o. option_map_or (λ form. arc_closing rule form b.scale (arc_ends b.bounds a row)) o false) f

pub law_closing_is : (p : Network) (b : PartBox) (rule : Rule) (a : ℕ) (row : ArcRow) (F : LawForm) (K : ℤ) (E : ArcEnds)
    → Some F ≡ fixed_form p b.part a row → K ≡ b.scale → E ≡ arc_ends b.bounds a row → arc_closing rule F K E ≡ row_closing p b rule a row
law_closing_is p b rule a row F K E f k e =
    ap (λ (K : ℤ). arc_closing rule F K E) k
    ∙ ap (λ (E : ArcEnds). arc_closing rule F b.scale E) e
    ∙ ap (λ o. option_map_or (λ form. arc_closing rule form b.scale (arc_ends b.bounds a row)) o false) f
