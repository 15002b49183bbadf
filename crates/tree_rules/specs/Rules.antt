-- The steps that are allowed in a box, and the closings that hold there.
use Rattle.std.specs.Prelude.{ℕ, ◌==◌, ℤ, List, Bool, true, false, not, ◌&&◌, ◌||◌, if◌then◌else◌, Option, Some, None, option_map, slice_get}
use Rattle.std.specs.Option.{option_map_or}
use Rattle.gas_model.specs.declared.rows.NodeRow.{NodeRow}
use Rattle.gas_model.specs.declared.rows.ArcRow.{ArcRow}
use Rattle.base_types.specs.declared.states.ArcState.{ArcState}
use Rattle.gas_model.specs.declared.rows.PartState.{PartState}
use Rattle.base_types.specs.declared.variables.Var.{Var}
use Rattle.base_types.specs.declared.variables.Var.TheVariants.{Flow, Square}
use Rattle.gas_model.specs.Rows.{Network}
use Rattle.gas_model.specs.declared.law_forms.LawForm.{LawForm}
use Rattle.gas_model.specs.Laws.{form_of, is_shut}
use Rattle.gas_model.specs.Choices.{fixed_state}
use Rattle.gas_model.specs.Boxes.{Bounds, ends_of, is_var, is_empty, may_become, tightened}
use Rattle.tree_cert.specs.declared.line.Rule.{Rule}
use Rattle.tree_cert.specs.declared.line.Rule.TheVariants.{Balance}
use Rattle.tree_cert.specs.declared.line.Step.{Step}
use Rattle.tree_cert.specs.declared.line.Closing.{Closing}
use Rattle.tree_cert.specs.declared.line.Closing.TheVariants.{Empty, Cut, At}
use Rattle.tree_rules.specs.declared.arc_vars.ArcEnds.{ArcEnds}
use Rattle.tree_rules.specs.declared.arc_vars.ArcVar.{ArcVar}
use Rattle.tree_rules.specs.declared.arc_vars.ArcVar.TheVariants.{OfFlow, OfFrom, OfTo}
use Rattle.tree_rules.specs.ArcRules.{arc_step, arc_closing, keeps_sign}
use Rattle.tree_rules.specs.NodeRules.{leaving_step, entering_step, balance_closing, are_cut_nodes, crosses, all_arcs, is_unbalanced}

-- a part state and the ends of all variables, which count units of 1 / scale
pub record PartBox : Type 0 where
  pub scale : ℤ
  pub part : PartState
  pub bounds : Bounds

-- the ends of the flow of the arc i
abbrev pub flow_lo : Bounds → ℕ → ℤ
flow_lo b i = (ends_of b (Flow i)).lo

abbrev pub flow_hi : Bounds → ℕ → ℤ
flow_hi b i = (ends_of b (Flow i)).hi

-- the ends of the variables of the arc a
abbrev pub arc_ends : Bounds → ℕ → ArcRow → ArcEnds
arc_ends b a row = record { q = ends_of b (Flow a); u = ends_of b (Square row.from); v = ends_of b (Square row.to) }

-- which variable of the arc a it is, if it is one
abbrev pub arc_var : ℕ → ArcRow → Var → Option ArcVar
arc_var a row (Flow i) = if i == a then Some OfFlow else None
arc_var a row (Square n) = if n == row.from then Some OfFrom else if n == row.to then Some OfTo else None

-- the law of the arc a in its state, if that is fixed
abbrev pub fixed_form : Network → PartState → ℕ → ArcRow → Option LawForm
fixed_form p part a row = option_map (form_of row.kind) (fixed_state p part a row)

-- by the law of an arc the end of a variable may become C
abbrev pub form_step : Rule → ℤ → ArcEnds → Option ArcVar → (low : Bool) → (C : ℤ) → LawForm → Bool
form_step rule K e x low C form = option_map_or (λ y. arc_step rule form K e y low C) x false

abbrev pub row_step : Network → PartBox → Rule → ℕ → Var → (low : Bool) → (C : ℤ) → ArcRow → Bool
row_step p b rule a var low C row =
    option_map_or (form_step rule b.scale (arc_ends b.bounds a row) (arc_var a row var) low C) (fixed_form p b.part a row) false

abbrev pub law_step : Network → PartBox → Rule → ℕ → Var → (low : Bool) → (C : ℤ) → Bool
law_step p b rule a var low C = option_map_or (row_step p b rule a var low C) (slice_get p.arcs a) false

-- by the balance of the node n the end of the flow of the arc a may become C
abbrev pub flow_step : Network → PartBox → ℕ → ℕ → (low : Bool) → (C : ℤ) → NodeRow → ArcRow → Bool
flow_step p b n a low C node row =
    if row.from == n then leaving_step node b.scale (flow_lo b.bounds) (flow_hi b.bounds) n p.arcs a low C
    else if row.to == n then entering_step node b.scale (flow_lo b.bounds) (flow_hi b.bounds) n p.arcs a low C
    else false

abbrev pub node_step : Network → PartBox → ℕ → Var → (low : Bool) → (C : ℤ) → NodeRow → Bool
node_step p b n (Flow a) low C node = option_map_or (flow_step p b n a low C node) (slice_get p.arcs a) false
node_step p b n (Square m) low C node = false

abbrev pub balance_step : Network → PartBox → ℕ → Var → (low : Bool) → (C : ℤ) → Bool
balance_step p b n var low C = option_map_or (node_step p b n var low C) (slice_get p.nodes n) false

-- the condition of a rule at a node or an arc on the value C of an end
abbrev pub rule_holds : Network → PartBox → Rule → (place : ℕ) → Var → (low : Bool) → (C : ℤ) → Bool
rule_holds p b Balance n var low C = balance_step p b n var low C
rule_holds p b rule a var low C = law_step p b rule a var low C

-- the value may be given: the end moves inward and at most one past the other end, and the value has the sign of its rule
abbrev pub is_allowed : Bounds → Rule → Var → (low : Bool) → (C : ℤ) → Bool
is_allowed b rule var low C = may_become low C (ends_of b var) && keeps_sign rule C

-- the step is allowed in the box
abbrev pub step_holds : Network → PartBox → Step → Bool
step_holds p b s = is_var p s.var && is_allowed b.bounds s.rule s.var s.low s.value && rule_holds p b s.rule s.place s.var s.low s.value

-- the box after a step
abbrev pub stepped : PartBox → Step → PartBox
stepped b s = record { scale = b.scale; part = b.part; bounds = tightened b.bounds s.var s.low s.value }

abbrev pub after_step : Network → PartBox → Step → Option PartBox
after_step p b s = if step_holds p b s then Some (stepped b s) else None

-- the nodes of a list are joined to others by shut arcs alone, and can't balance together
abbrev pub cuts : Network → PartState → List ℕ → Bool
cuts p part ns =
    are_cut_nodes p.nodes ns && all_arcs (λ a row. not (crosses ns row) || is_shut (fixed_state p part a row)) 0 p.arcs && is_unbalanced p.nodes ns

abbrev pub row_closing : Network → PartBox → Rule → ℕ → ArcRow → Bool
row_closing p b rule a row = option_map_or (λ form. arc_closing rule form b.scale (arc_ends b.bounds a row)) (fixed_form p b.part a row) false

-- by a rule at a node or an arc no point of the box is left
abbrev pub closing_at : Network → PartBox → Rule → (place : ℕ) → Bool
closing_at p b Balance n = option_map_or (λ node. balance_closing node b.scale (flow_lo b.bounds) (flow_hi b.bounds) n p.arcs) (slice_get p.nodes n) false
closing_at p b rule a = option_map_or (row_closing p b rule a) (slice_get p.arcs a) false

-- the closing holds in the box
abbrev pub closing_holds : Network → PartBox → Closing → Bool
closing_holds p b (Empty var) = is_var p var && is_empty (ends_of b.bounds var)
closing_holds p b (Cut ns) = cuts p b.part ns
closing_holds p b (At rule place) = closing_at p b rule place
