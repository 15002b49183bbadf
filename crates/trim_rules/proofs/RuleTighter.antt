-- What holds in a box by a rule, or by a closing, holds in each tighter one.
use Rattle.std.proofs.Common.{◌≡◌, ℕ, subst, arith, ℤ, Bool, true, false, cond, ◌==◌, IsTrue, slice_get, Some}
use Rattle.std.specs.Option.{option_map_or}
use Rattle.std.proofs.lemmas.Bool.{and_parts, and_from}
use Rattle.integer_laws.proofs.Ring.{linear}
use Rattle.gas_model.specs.declared.rows.ArcRow.{ArcRow}
use Rattle.gas_model.specs.declared.rows.NodeRow.{NodeRow}
use Rattle.gas_model.specs.declared.law_forms.LawForm.{LawForm}
use Rattle.base_types.specs.declared.variables.Var.{Var}
use Rattle.base_types.specs.declared.variables.Var.TheVariants.{Flow, Square}
use Rattle.gas_model.specs.Rows.{Network}
use Rattle.gas_model.specs.Laws.{form_of}
use Rattle.gas_model.specs.Choices.{fixed_state}
use Rattle.gas_model.specs.Boxes.{ends_of, is_var, is_empty}
use Rattle.gas_model.specs.Within.{IsWithin}
use Rattle.tree_cert.specs.declared.line.Closing.{Closing}
use Rattle.tree_cert.specs.declared.line.Closing.TheVariants.{Empty, Cut, At}
use Rattle.tree_cert.specs.declared.line.Rule.{Rule}
use Rattle.tree_cert.specs.declared.line.Rule.TheVariants.{Balance}
use Rattle.tree_rules.specs.ArcRules.{arc_step, arc_closing}
use Rattle.tree_rules.specs.NodeRules.{leaving_step, entering_step, balance_closing}
use Rattle.tree_rules.specs.Rules.{PartBox, flow_lo, flow_hi, arc_ends, arc_var, fixed_form, form_step, row_step, law_step, flow_step, node_step, balance_step, rule_holds, cuts, row_closing, closing_at, closing_holds}
use Rattle.tree_rules.proofs.UnitSound.{IsForm}
use Rattle.tree_rules.proofs.StepSound.{row_form, some_is, map_is}
use Rattle.tree_rules.proofs.Loosening.{some_from}
use Rattle.trim_rules.specs.Tighter.{IsTighter}
use Rattle.trim_rules.specs.Theorems.{RulesTighten, ClosingsTighten}
use Rattle.trim_rules.proofs.ArcTighter.{AreArcWithin, arc_tighter, closing_tighter}
use Rattle.trim_rules.proofs.NodeTighter.{AtMost, leaving_tighter, entering_tighter, balance_tighter}

-- the law of an arc by its number, in its state if that is fixed
pub form_is : (p : Network) (b : PartBox) (a : ℕ) (row : ArcRow) (form : LawForm) → IsWithin p → slice_get p.arcs a ≡ Some row → fixed_form p b.part a row ≡ Some form → IsForm form
form_is p b a row form w at e =
    let state = map_is (form_of row.kind) (fixed_state p b.part a row) form e in
    rw (← state.2) (row_form p a row state.0 w at)

by_side : (f s a b c d : Bool) → (IsTrue a → IsTrue c) → (IsTrue b → IsTrue d) → IsTrue (cond f a (cond s b false)) → IsTrue (cond f c (cond s d false))
by_side true s a b c d p q t = p t
by_side false true a b c d p q t = q t
by_side false false a b c d p q t = absurd cc

module _ (p : Network) (b inner : PartBox) (w : IsWithin p) (tighter : IsTighter p b inner) where
  arc_within : (a : ℕ) (row : ArcRow) → AreArcWithin (arc_ends b.bounds a row) (arc_ends inner.bounds a row)
  arc_within a row = record { q = tighter.within (Flow a); u = tighter.within (Square row.from); v = tighter.within (Square row.to) }

  lows : AtMost (flow_lo b.bounds) (flow_lo inner.bounds)
  lows = record { at = λ i. (tighter.within (Flow i)).lo }

  highs : AtMost (flow_hi inner.bounds) (flow_hi b.bounds)
  highs = record { at = λ i. (tighter.within (Flow i)).hi }

  law_tighter : (rule : Rule) (a : ℕ) (v : Var) (low : Bool) (C : ℤ) → IsTrue (law_step p b rule a v low C) → IsTrue (law_step p inner rule a v low C)
  law_tighter rule a v low C t =
      let found = some_is (slice_get p.arcs a) (row_step p b rule a v low C) t in
      let row = found.0 in
      let e = arc_ends b.bounds a row in
      let f = arc_ends inner.bounds a row in
      let fixed = some_is (fixed_form p b.part a row) (form_step rule b.scale e (arc_var a row v) low C) found.2 in
      let form = fixed.0 in
      let var = some_is (arc_var a row v) (λ y. arc_step rule form b.scale e y low C) fixed.2 in
      let here : fixed_form p inner.part a row ≡ Some form = subst (λ z. fixed_form p z a row ≡ Some form) tighter.part fixed.1 in
      let held : IsTrue (arc_step rule form b.scale f var.0 low C) = arc_tighter rule form b.scale e f var.0 low C (form_is p b a row form w found.1 fixed.1) (omega (arith, linear, tighter.units)) (arc_within a row) var.2 in
      some_from (slice_get p.arcs a) (row_step p inner rule a v low C) row found.1
      (some_from (fixed_form p inner.part a row) (form_step rule inner.scale f (arc_var a row v) low C) form here
      (some_from (arc_var a row v) (λ y. arc_step rule form inner.scale f y low C) var.0 var.1
      (subst (λ (K : ℤ). IsTrue (arc_step rule form K f var.0 low C)) tighter.scale held)))

  leaves : (node : NodeRow) (n a : ℕ) (low : Bool) (C : ℤ) → IsTrue (leaving_step node b.scale (flow_lo b.bounds) (flow_hi b.bounds) n p.arcs a low C) → IsTrue (leaving_step node inner.scale (flow_lo inner.bounds) (flow_hi inner.bounds) n p.arcs a low C)
  leaves node n a low C t =
      subst (λ (K : ℤ). IsTrue (leaving_step node K (flow_lo inner.bounds) (flow_hi inner.bounds) n p.arcs a low C)) tighter.scale
      (leaving_tighter node b.scale (flow_lo b.bounds) (flow_hi b.bounds) (flow_lo inner.bounds) (flow_hi inner.bounds) n p.arcs lows highs a low C t)

  enters : (node : NodeRow) (n a : ℕ) (low : Bool) (C : ℤ) → IsTrue (entering_step node b.scale (flow_lo b.bounds) (flow_hi b.bounds) n p.arcs a low C) → IsTrue (entering_step node inner.scale (flow_lo inner.bounds) (flow_hi inner.bounds) n p.arcs a low C)
  enters node n a low C t =
      subst (λ (K : ℤ). IsTrue (entering_step node K (flow_lo inner.bounds) (flow_hi inner.bounds) n p.arcs a low C)) tighter.scale
      (entering_tighter node b.scale (flow_lo b.bounds) (flow_hi b.bounds) (flow_lo inner.bounds) (flow_hi inner.bounds) n p.arcs lows highs a low C t)

  flow_tighter : (n a : ℕ) (low : Bool) (C : ℤ) (node : NodeRow) (row : ArcRow) → IsTrue (flow_step p b n a low C node row) → IsTrue (flow_step p inner n a low C node row)
  flow_tighter n a low C node row t = by_side (row.from == n) (row.to == n) _ _ _ _ (leaves node n a low C) (enters node n a low C) t

  node_tighter : (n : ℕ) (v : Var) (low : Bool) (C : ℤ) (node : NodeRow) → IsTrue (node_step p b n v low C node) → IsTrue (node_step p inner n v low C node)
  node_tighter n (Square m) low C node t = absurd cc
  node_tighter n (Flow a) low C node t =
      let found = some_is (slice_get p.arcs a) (flow_step p b n a low C node) t in
      some_from (slice_get p.arcs a) (flow_step p inner n a low C node) found.0 found.1 (flow_tighter n a low C node found.0 found.2)

  sum_tighter : (n : ℕ) (v : Var) (low : Bool) (C : ℤ) → IsTrue (balance_step p b n v low C) → IsTrue (balance_step p inner n v low C)
  sum_tighter n v low C t =
      let found = some_is (slice_get p.nodes n) (node_step p b n v low C) t in
      some_from (slice_get p.nodes n) (node_step p inner n v low C) found.0 found.1 (node_tighter n v low C found.0 found.2)

  pub rule_tighter : (rule : Rule) (place : ℕ) (v : Var) (low : Bool) (C : ℤ) → IsTrue (rule_holds p b rule place v low C) → IsTrue (rule_holds p inner rule place v low C)
  rule_tighter Balance place v low C t = sum_tighter place v low C t
  rule_tighter rule place v low C t = law_tighter rule place v low C t

  -- ---- closings
  law_closes : (rule : Rule) (a : ℕ) → IsTrue (option_map_or (row_closing p b rule a) (slice_get p.arcs a) false) → IsTrue (option_map_or (row_closing p inner rule a) (slice_get p.arcs a) false)
  law_closes rule a t =
      let found = some_is (slice_get p.arcs a) (row_closing p b rule a) t in
      let row = found.0 in
      let e = arc_ends b.bounds a row in
      let f = arc_ends inner.bounds a row in
      let fixed = some_is (fixed_form p b.part a row) (λ form. arc_closing rule form b.scale e) found.2 in
      let form = fixed.0 in
      let here : fixed_form p inner.part a row ≡ Some form = subst (λ z. fixed_form p z a row ≡ Some form) tighter.part fixed.1 in
      let held : IsTrue (arc_closing rule form b.scale f) = closing_tighter rule form b.scale e f (form_is p b a row form w found.1 fixed.1) (omega (arith, linear, tighter.units)) (arc_within a row) fixed.2 in
      some_from (slice_get p.arcs a) (row_closing p inner rule a) row found.1
      (some_from (fixed_form p inner.part a row) (λ form. arc_closing rule form inner.scale f) form here
      (subst (λ (K : ℤ). IsTrue (arc_closing rule form K f)) tighter.scale held))

  node_closes : (n : ℕ) → IsTrue (closing_at p b Balance n) → IsTrue (closing_at p inner Balance n)
  node_closes n t =
      let found = some_is (slice_get p.nodes n) (λ node. balance_closing node b.scale (flow_lo b.bounds) (flow_hi b.bounds) n p.arcs) t in
      some_from (slice_get p.nodes n) (λ node. balance_closing node inner.scale (flow_lo inner.bounds) (flow_hi inner.bounds) n p.arcs) found.0 found.1
      (subst (λ (K : ℤ). IsTrue (balance_closing found.0 K (flow_lo inner.bounds) (flow_hi inner.bounds) n p.arcs)) tighter.scale
      (balance_tighter found.0 b.scale (flow_lo b.bounds) (flow_hi b.bounds) (flow_lo inner.bounds) (flow_hi inner.bounds) n p.arcs lows highs found.2))

  closes_at : (rule : Rule) (place : ℕ) → IsTrue (closing_at p b rule place) → IsTrue (closing_at p inner rule place)
  closes_at Balance place t = node_closes place t
  closes_at rule place t = law_closes rule place t

  still_empty : (v : Var) → IsTrue (is_empty (ends_of b.bounds v)) → IsTrue (is_empty (ends_of inner.bounds v))
  still_empty v t = let e = tighter.within v in omega (arith, linear, e.lo, e.hi)

  pub closing_holds_too : (c : Closing) → IsTrue (closing_holds p b c) → IsTrue (closing_holds p inner c)
  closing_holds_too (Empty v) t =
      let tests = and_parts (is_var p v) (is_empty (ends_of b.bounds v)) t in
      and_from (is_var p v) (is_empty (ends_of inner.bounds v)) tests.0 (still_empty v tests.1)
  closing_holds_too (Cut ns) t = subst (λ z. IsTrue (cuts p z ns)) tighter.part t
  closing_holds_too (At rule place) t = closes_at rule place t

pub rules_tighten : RulesTighten
rules_tighten p b inner rule place v low C w tighter t = rule_tighter p b inner w tighter rule place v low C t

pub closings_tighten : ClosingsTighten
closings_tighten p b inner c w tighter t = closing_holds_too p b inner w tighter c t
