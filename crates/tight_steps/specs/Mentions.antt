-- The variables that a law mentions.
use Rattle.std.specs.Prelude.{ℕ, ◌||◌, ◌==◌, Bool, true, false, slice_get}
use Rattle.std.specs.Option.{option_map_or}
use Rattle.gas_model.specs.declared.rows.ArcRow.{ArcRow}
use Rattle.gas_model.specs.declared.rows.PartState.{PartState}
use Rattle.base_types.specs.declared.variables.Var.{Var}
use Rattle.base_types.specs.declared.variables.Var.TheVariants.{Flow, Square}
use Rattle.gas_model.specs.Rows.{Network}
use Rattle.gas_model.specs.Points.{touches}
use Rattle.gas_model.specs.declared.law_forms.LawForm.{LawForm}
use Rattle.gas_model.specs.declared.law_forms.LawForm.TheVariants.{Equals, Shuts, Never}
use Rattle.tree_rules.specs.declared.arc_vars.ArcVar.{ArcVar}
use Rattle.tree_rules.specs.declared.arc_vars.ArcVar.TheVariants.{OfFlow}
use Rattle.tree_rules.specs.Rules.{arc_var, fixed_form}
use Rattle.tight_steps.specs.declared.law.Law.{Law}
use Rattle.tight_steps.specs.declared.law.Law.TheVariants.{AtNode, AtArc}

-- equal squares are a law of two squares, a flow of 0 is one of the flow, and each other law is one of all three
abbrev pub form_mentions : LawForm → ArcVar → Bool
form_mentions Equals OfFlow = false
form_mentions Equals x = true
form_mentions Shuts OfFlow = true
form_mentions Shuts x = false
form_mentions Never x = false
form_mentions form x = true

abbrev pub arc_mentions : Network → PartState → ℕ → Var → ArcRow → Bool
arc_mentions p part a var row = option_map_or (λ form. option_map_or (form_mentions form) (arc_var a row var) false) (fixed_form p part a row) false

-- the law of a node mentions the flows of its arcs, the shut ones too; the law of an arc mentions nothing before the
-- arc's state is fixed
abbrev pub mentions : Network → PartState → Law → Var → Bool
mentions p part (AtNode n) (Flow a) = option_map_or (touches n) (slice_get p.arcs a) false
mentions p part (AtNode n) (Square m) = false
mentions p part (AtArc a) var = option_map_or (arc_mentions p part a var) (slice_get p.arcs a) false
