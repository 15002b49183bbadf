-- The condition of a step holds wherever it reads the same.
use Rattle.std.proofs.Common.{◌≡◌, ℕ, refl, sym, ap, ◌∙◌, subst, ℤ, ◌+ℤ◌, ◌-ℤ◌, ◌*ℤ◌, Bool, true, false, cond, not, ◌==◌, int_le, IsTrue, List, [], ◌∷◌, map, slice_get, Option, Some, option_map}
use Rattle.std.specs.Option.{option_map_or}
use Rattle.gas_model.specs.declared.rows.ArcRow.{ArcRow}
use Rattle.gas_model.specs.declared.rows.NodeRow.{NodeRow}
use Rattle.base_types.specs.declared.variables.Var.{Var}
use Rattle.base_types.specs.declared.variables.Var.TheVariants.{Flow, Square}
use Rattle.gas_model.specs.Rows.{Network}
use Rattle.gas_model.specs.declared.law_forms.LawForm.{LawForm}
use Rattle.tree_cert.specs.declared.line.Rule.{Rule}
use Rattle.tree_cert.specs.declared.line.Rule.TheVariants.{Balance}
use Rattle.tree_rules.specs.declared.arc_vars.ArcEnds.{ArcEnds}
use Rattle.tree_rules.specs.declared.arc_vars.ArcVar.{ArcVar}
use Rattle.tree_rules.specs.declared.arc_vars.ArcVar.TheVariants.{OfFlow, OfFrom, OfTo}
use Rattle.tree_rules.specs.ArcRules.{arc_step}
use Rattle.tree_rules.specs.NodeRules.{leaving_step, entering_step}
use Rattle.tree_rules.specs.Rules.{PartBox, flow_lo, flow_hi, arc_ends, arc_var, fixed_form, form_step, row_step, law_step, flow_step, node_step, balance_step, rule_holds}
use Rattle.tree_rules.proofs.StepSound.{some_is}
use Rattle.core_rules.specs.Reads.{Item, Supply, Law, End, ArcEnd, arc_reads, reads_law, law_items, var_of, end_item, var_reads, row_reads, law_reads, leaves, enters, but, flows_where, flow_reads, node_reads, step_reads}
use Rattle.core_rules.specs.Cores.{blank_node, end_at, kind_of, supply_of, ReadsSame, Each, Alike}
use Rattle.core_rules.specs.Theorems.{StepsReadNoMore}
use Rattle.core_rules.proofs.ArcReads.{arc_end, EndsSame, arc_same, blank_form, blank_same}
use Rattle.core_rules.proofs.Shapes.{each_parts, matched, twin_of, twin_form}
use Rattle.core_rules.proofs.FlowReads.{out_same, in_same, other_out_same, other_in_same}

pub some_holds : {A : Type 0} (o : Option A) (f : A → Bool) (y : A) → o ≡ Some y → IsTrue (f y) → IsTrue (option_map_or f o false)
some_holds o f y e t = ap (λ z. option_map_or f z false) e ∙ t

var_same : (a : ℕ) (row row2 : ArcRow) (v : Var) → row.from ≡ row2.from → row.to ≡ row2.to → arc_var a row v ≡ arc_var a row2 v
var_same a row row2 (Flow i) f t = refl
var_same a row row2 (Square n) f t = rw (f, t) refl

-- ---- sums of a condition
le_out : (C K m O I L l P J : ℤ) → K ≡ L → m ≡ l → O ≡ P → I ≡ J → IsTrue (int_le C (K *ℤ m -ℤ O +ℤ I)) → IsTrue (int_le C (L *ℤ l -ℤ P +ℤ J))
le_out C K m O I L l P J a b c d t = cc

ge_out : (C K m O I L l P J : ℤ) → K ≡ L → m ≡ l → O ≡ P → I ≡ J → IsTrue (int_le (K *ℤ m -ℤ O +ℤ I) C) → IsTrue (int_le (L *ℤ l -ℤ P +ℤ J) C)
ge_out C K m O I L l P J a b c d t = cc

le_in : (C K m O I L l P J : ℤ) → K ≡ L → m ≡ l → O ≡ P → I ≡ J → IsTrue (int_le C (O -ℤ I -ℤ K *ℤ m)) → IsTrue (int_le C (P -ℤ J -ℤ L *ℤ l))
le_in C K m O I L l P J a b c d t = cc

ge_in : (C K m O I L l P J : ℤ) → K ≡ L → m ≡ l → O ≡ P → I ≡ J → IsTrue (int_le (O -ℤ I -ℤ K *ℤ m) C) → IsTrue (int_le (P -ℤ J -ℤ L *ℤ l) C)
ge_in C K m O I L l P J a b c d t = cc

some_same : {A B : Type 0} (f : A → B) (o q : Option A) (x y : A) → o ≡ Some x → q ≡ Some y → option_map f o ≡ option_map f q → f x ≡ f y
some_same f o q x y a b h =
    let e : Some (f x) ≡ Some (f y) = ap (option_map f) (sym a) ∙ h ∙ ap (option_map f) b in cc

module _ (p p2 : Network) (b b2 : PartBox) (alike : Alike p p2 b b2) where
  abbrev R : Item → Type 0
  R i = ReadsSame p p2 b b2 i

  -- ---- the law of an arc
  end_says : (a : ℕ) (row row2 : ArcRow) (x : ArcVar) (low : Bool) → row.from ≡ row2.from → row.to ≡ row2.to → R (End (var_of a row x) low) → arc_end (arc_ends b.bounds a row) x low ≡ arc_end (arc_ends b2.bounds a row2) x low
  end_says a row row2 OfFlow true f t h = h
  end_says a row row2 OfFlow false f t h = h
  end_says a row row2 OfFrom true f t h = h ∙ ap (λ n. end_at b2.bounds (Square n) true) f
  end_says a row row2 OfFrom false f t h = h ∙ ap (λ n. end_at b2.bounds (Square n) false) f
  end_says a row row2 OfTo true f t h = h ∙ ap (λ n. end_at b2.bounds (Square n) true) t
  end_says a row row2 OfTo false f t h = h ∙ ap (λ n. end_at b2.bounds (Square n) false) t

  pub ends_say : (a : ℕ) (row row2 : ArcRow) (ys : List ArcEnd) → row.from ≡ row2.from → row.to ≡ row2.to → Each R (map (end_item a row) ys) → EndsSame (arc_ends b.bounds a row) (arc_ends b2.bounds a row2) ys
  ends_say a row row2 [] f t h = tt
  ends_say a row row2 (y ∷ ys) f t h = (end_says a row row2 y.of y.low f t h.0, ends_say a row row2 ys f t h.1)

  pub kinds_same : (a : ℕ) (row row2 : ArcRow) → slice_get p.arcs a ≡ Some row → slice_get p2.arcs a ≡ Some row2 → R (Law a) → row.kind ≡ row2.kind
  kinds_same a row row2 e e2 h = some_same kind_of (slice_get p.arcs a) (slice_get p2.arcs a) row row2 e e2 h

  pub supplies_same : (n : ℕ) (low : Bool) (node node2 : NodeRow) → slice_get p.nodes n ≡ Some node → slice_get p2.nodes n ≡ Some node2 → R (Supply n low) → supply_of low node ≡ supply_of low node2
  supplies_same n low node node2 e e2 h = some_same (supply_of low) (slice_get p.nodes n) (slice_get p2.nodes n) node node2 e e2 h

  forms_step : (rule : Rule) (form form2 : LawForm) (a : ℕ) (row row2 : ArcRow) (K : ℤ) (e : ArcEnds) (x : ArcVar) (low : Bool) (C : ℤ) (r : Bool) → reads_law rule ≡ r → Each R (cond r (Law a ∷ []) [])
      → slice_get p.arcs a ≡ Some row → slice_get p2.arcs a ≡ Some row2 → (row.kind ≡ row2.kind → form ≡ form2) → blank_form form ≡ blank_form form2 → IsTrue (arc_step rule form K e x low C) → IsTrue (arc_step rule form2 K e x low C)
  forms_step rule form form2 a row row2 K e x low C true is h at at2 same blank t =
      subst (λ (f : LawForm). IsTrue (arc_step rule f K e x low C)) (same (kinds_same a row row2 at at2 h.0)) t
  forms_step rule form form2 a row row2 K e x low C false is h at at2 same blank t = blank_same rule form form2 K e x low C is blank t

  law_same : (rule : Rule) (a : ℕ) (v : Var) (low : Bool) (C : ℤ) → Each R (law_reads p rule a v low) → IsTrue (law_step p b rule a v low C) → IsTrue (law_step p2 b2 rule a v low C)
  law_same rule a v low C h t =
      let found = some_is (slice_get p.arcs a) (row_step p b rule a v low C) t in
      let row = found.0 in
      let fixed = some_is (fixed_form p b.part a row) (form_step rule b.scale (arc_ends b.bounds a row) (arc_var a row v) low C) found.2 in
      let form = fixed.0 in
      let var = some_is (arc_var a row v) (λ y. arc_step rule form b.scale (arc_ends b.bounds a row) y low C) fixed.2 in
      let y = var.0 in
      let twin = twin_of p p2 a row alike.shape found.1 in
      let row2 = twin.row2 in
      let other = twin_form p p2 b.part a row row2 form alike.shape twin.kind fixed.1 in
      let reads : Each R (row_reads rule a v low row) = subst (λ (o : Option ArcRow). Each R (option_map_or (row_reads rule a v low) o [])) found.1 h in
      let parts = each_parts R (law_items rule a) (option_map_or (var_reads rule a row low) (arc_var a row v) []) reads in
      let ends : Each R (var_reads rule a row low y) = subst (λ (o : Option ArcVar). Each R (option_map_or (var_reads rule a row low) o [])) var.1 parts.1 in
      let here = arc_same rule form b.scale (arc_ends b.bounds a row) (arc_ends b2.bounds a row2) y low C (ends_say a row row2 (arc_reads rule y low) twin.from twin.to ends) var.2 in
      let there = forms_step rule form other.form2 a row row2 b.scale (arc_ends b2.bounds a row2) y low C (reads_law rule) refl parts.0 found.1 twin.is other.same other.blank here in
      let scaled : IsTrue (arc_step rule other.form2 b2.scale (arc_ends b2.bounds a row2) y low C) = subst (λ (K : ℤ). IsTrue (arc_step rule other.form2 K (arc_ends b2.bounds a row2) y low C)) alike.scale there in
      let is_var : arc_var a row2 v ≡ Some y = sym (var_same a row row2 v twin.from twin.to) ∙ var.1 in
      let is_form : fixed_form p2 b2.part a row2 ≡ Some other.form2 = subst (λ z. fixed_form p2 z a row2 ≡ Some other.form2) alike.part other.is in
      some_holds (slice_get p2.arcs a) (row_step p2 b2 rule a v low C) row2 twin.is
      (some_holds (fixed_form p2 b2.part a row2) (form_step rule b2.scale (arc_ends b2.bounds a row2) (arc_var a row2 v) low C) other.form2 is_form
      (some_holds (arc_var a row2 v) (λ z. arc_step rule other.form2 b2.scale (arc_ends b2.bounds a row2) z low C) y is_var scaled))

  -- ---- the balance of a node
  leaving_same : (node node2 : NodeRow) (n a : ℕ) (low : Bool) (C : ℤ) → supply_of low node ≡ supply_of low node2 → Each R (flows_where (but a (leaves n)) (not low) 0 p.arcs) → Each R (flows_where (enters n) low 0 p.arcs)
      → IsTrue (leaving_step node b.scale (flow_lo b.bounds) (flow_hi b.bounds) n p.arcs a low C) → IsTrue (leaving_step node2 b2.scale (flow_lo b2.bounds) (flow_hi b2.bounds) n p2.arcs a low C)
  leaving_same node node2 n a true C s o i t =
      le_out C _ _ _ _ _ _ _ _ alike.scale s (other_out_same p p2 b b2 a n false p.arcs p2.arcs alike.shape.arcs o) (in_same p p2 b b2 n true p.arcs p2.arcs alike.shape.arcs i) t
  leaving_same node node2 n a false C s o i t =
      ge_out C _ _ _ _ _ _ _ _ alike.scale s (other_out_same p p2 b b2 a n true p.arcs p2.arcs alike.shape.arcs o) (in_same p p2 b b2 n false p.arcs p2.arcs alike.shape.arcs i) t

  entering_same : (node node2 : NodeRow) (n a : ℕ) (low : Bool) (C : ℤ) → supply_of (not low) node ≡ supply_of (not low) node2 → Each R (flows_where (leaves n) low 0 p.arcs) → Each R (flows_where (but a (enters n)) (not low) 0 p.arcs)
      → IsTrue (entering_step node b.scale (flow_lo b.bounds) (flow_hi b.bounds) n p.arcs a low C) → IsTrue (entering_step node2 b2.scale (flow_lo b2.bounds) (flow_hi b2.bounds) n p2.arcs a low C)
  entering_same node node2 n a true C s o i t =
      le_in C _ _ _ _ _ _ _ _ alike.scale s (out_same p p2 b b2 n true p.arcs p2.arcs alike.shape.arcs o) (other_in_same p p2 b b2 a n false p.arcs p2.arcs alike.shape.arcs i) t
  entering_same node node2 n a false C s o i t =
      ge_in C _ _ _ _ _ _ _ _ alike.scale s (out_same p p2 b b2 n false p.arcs p2.arcs alike.shape.arcs o) (other_in_same p p2 b b2 a n true p.arcs p2.arcs alike.shape.arcs i) t

  by_side : (t s : Bool) (X Y : List Item) (P P2 Q Q2 : Bool) → (Each R X → IsTrue P → IsTrue P2) → (Each R Y → IsTrue Q → IsTrue Q2) → Each R (cond t X (cond s Y [])) → IsTrue (cond t P (cond s Q false)) → IsTrue (cond t P2 (cond s Q2 false))
  by_side true s X Y P P2 Q Q2 f g h k = f h k
  by_side false true X Y P P2 Q Q2 f g h k = g h k
  by_side false false X Y P P2 Q Q2 f g h k = absurd cc

  flow_same : (n a : ℕ) (low : Bool) (C : ℤ) (node node2 : NodeRow) (row row2 : ArcRow) → slice_get p.nodes n ≡ Some node → slice_get p2.nodes n ≡ Some node2 → row.from ≡ row2.from → row.to ≡ row2.to
      → Each R (flow_reads p n a low row) → IsTrue (flow_step p b n a low C node row) → IsTrue (flow_step p2 b2 n a low C node2 row2)
  flow_same n a low C node node2 row row2 at at2 from to h t =
      let here = by_side (row.from == n) (row.to == n) _ _ _ (leaving_step node2 b2.scale (flow_lo b2.bounds) (flow_hi b2.bounds) n p2.arcs a low C) _ (entering_step node2 b2.scale (flow_lo b2.bounds) (flow_hi b2.bounds) n p2.arcs a low C)
      (λ e k.
      let parts = each_parts R (flows_where (but a (leaves n)) (not low) 0 p.arcs) (flows_where (enters n) low 0 p.arcs) e.1 in
      leaving_same node node2 n a low C (supplies_same n low node node2 at at2 e.0) parts.0 parts.1 k)
      (λ e k.
      let parts = each_parts R (flows_where (leaves n) low 0 p.arcs) (flows_where (but a (enters n)) (not low) 0 p.arcs) e.1 in
      entering_same node node2 n a low C (supplies_same n (not low) node node2 at at2 e.0) parts.0 parts.1 k)
      h t in
      ap (λ (m : ℕ). cond (m == n) (leaving_step node2 b2.scale (flow_lo b2.bounds) (flow_hi b2.bounds) n p2.arcs a low C) (cond (row2.to == n) (entering_step node2 b2.scale (flow_lo b2.bounds) (flow_hi b2.bounds) n p2.arcs a low C) false)) (sym from)
      ∙ ap (λ (m : ℕ). cond (row.from == n) (leaving_step node2 b2.scale (flow_lo b2.bounds) (flow_hi b2.bounds) n p2.arcs a low C) (cond (m == n) (entering_step node2 b2.scale (flow_lo b2.bounds) (flow_hi b2.bounds) n p2.arcs a low C) false)) (sym to)
      ∙ here

  node_same : (n : ℕ) (v : Var) (low : Bool) (C : ℤ) → Each R (node_reads p n v low) → IsTrue (balance_step p b n v low C) → IsTrue (balance_step p2 b2 n v low C)
  node_same n (Square m) low C h t =
      let found = some_is (slice_get p.nodes n) (node_step p b n (Square m) low C) t in
      absurd (let f : false ≡ true = found.2 in cc)
  node_same n (Flow a) low C h t =
      let found = some_is (slice_get p.nodes n) (node_step p b n (Flow a) low C) t in
      let node = found.0 in
      let arc = some_is (slice_get p.arcs a) (flow_step p b n a low C node) found.2 in
      let row = arc.0 in
      let twin = twin_of p p2 a row alike.shape arc.1 in
      let mate = matched blank_node p.nodes p2.nodes n node alike.shape.nodes found.1 in
      let reads : Each R (flow_reads p n a low row) = subst (λ (o : Option ArcRow). Each R (option_map_or (flow_reads p n a low) o [])) arc.1 h in
      some_holds (slice_get p2.nodes n) (node_step p2 b2 n (Flow a) low C) mate.0 mate.1
      (some_holds (slice_get p2.arcs a) (flow_step p2 b2 n a low C mate.0) twin.row2 twin.is
      (flow_same n a low C node mate.0 row twin.row2 found.1 mate.1 twin.from twin.to reads arc.2))

  pub rule_same : (rule : Rule) (place : ℕ) (v : Var) (low : Bool) (C : ℤ) → Each R (step_reads p rule place v low) → IsTrue (rule_holds p b rule place v low C) → IsTrue (rule_holds p2 b2 rule place v low C)
  rule_same Balance place v low C h t = node_same place v low C h t
  rule_same rule place v low C h t = law_same rule place v low C h t

pub steps_read_no_more : StepsReadNoMore
steps_read_no_more p p2 b b2 rule place v low C alike h t = rule_same p p2 b b2 alike rule place v low C h t
