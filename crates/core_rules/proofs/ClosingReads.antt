-- A closing holds wherever it reads the same.
use Rattle.std.proofs.Common.{◌≡◌, ℕ, ◌+◌, refl, sym, ap, ◌∙◌, subst, arith, ℤ, pos, ◌-ℤ◌, ◌*ℤ◌, Bool, true, false, cond, not, ◌&&◌, ◌||◌, nat_lt, int_lt, IsTrue, List, [], ◌∷◌, length, map, slice_get, Option, Some, None, option_map}
use Rattle.std.specs.Option.{option_map_or}
use Rattle.std.specs.List.{list_all}
use Rattle.std.proofs.lemmas.Bool.{and_parts, and_from}
use Rattle.std.proofs.lemmas.List.{length-map}
use Rattle.integer_laws.proofs.Ring.{linear}
use Rattle.gas_model.specs.declared.rows.ArcRow.{ArcRow}
use Rattle.gas_model.specs.declared.rows.NodeRow.{NodeRow}
use Rattle.base_types.specs.declared.variables.Var.{Var}
use Rattle.base_types.specs.declared.variables.Var.TheVariants.{Flow, Square}
use Rattle.gas_model.specs.Rows.{Network}
use Rattle.gas_model.specs.Boxes.{ends_of, is_var, is_empty}
use Rattle.gas_model.specs.Choices.{fixed_state}
use Rattle.gas_model.specs.Laws.{is_shut}
use Rattle.gas_model.specs.declared.law_forms.LawForm.{LawForm}
use Rattle.gas_model.specs.declared.law_forms.LawForm.TheVariants.{Drags, Loses, Reduces, Raises}
use Rattle.tree_cert.specs.Spelling.{ascends_after}
use Rattle.tree_cert.specs.declared.line.Closing.{Closing}
use Rattle.tree_cert.specs.declared.line.Closing.TheVariants.{Empty, Cut, At}
use Rattle.tree_cert.specs.declared.line.Rule.{Rule}
use Rattle.tree_cert.specs.declared.line.Rule.TheVariants.{Balance, Pipe, Fall, Rise, Ratio, Reach, Drop}
use Rattle.tree_rules.specs.declared.arc_vars.ArcEnds.{ArcEnds}
use Rattle.tree_rules.specs.ArcRules.{drops_too_little, drops_too_much, falls_too_little, falls_too_much, is_beyond_reach, is_beyond_reach_back, loses_too_little, loses_too_little_back, arc_closing}
use Rattle.tree_rules.specs.NodeRules.{takes_too_much, takes_too_little, balance_closing, are_cut_nodes, crosses, all_arcs, sum_nodes, least_supply, greatest_supply, brings_too_much, brings_too_little, is_unbalanced}
use Rattle.tree_rules.specs.Rules.{PartBox, flow_lo, flow_hi, arc_ends, fixed_form, cuts, row_closing, closing_at, closing_holds}
use Rattle.tree_rules.proofs.StepSound.{some_is}
use Rattle.core_rules.specs.Reads.{Item, Supply, Law, ArcEnd, reads_law, law_items, end_item, leaves, enters, flows_where, closing_ends, row_closing_reads, balance_reads, closing_at_reads, closing_reads}
use Rattle.core_rules.specs.Cores.{blank_arc, blank_node, supply_of, ReadsSame, Each, Alike}
use Rattle.core_rules.specs.Theorems.{ClosingsReadNoMore}
use Rattle.core_rules.proofs.ArcReads.{EndsSame}
use Rattle.core_rules.proofs.Shapes.{each_parts, matched, twin_of, twin_form, fixed_same}
use Rattle.core_rules.proofs.FlowReads.{out_same, in_same}
use Rattle.core_rules.proofs.Walk.{or_first, or_second}
use Rattle.core_rules.proofs.StepReads.{some_holds, ends_say, kinds_same, supplies_same}

-- ---- the law of an arc
first_or_second : (e e2 : ArcEnds) (t s t2 s2 : Bool) (X Y : List ArcEnd) → (EndsSame e e2 X → IsTrue t → IsTrue t2) → (EndsSame e e2 Y → IsTrue s → IsTrue s2) → EndsSame e e2 (cond t X Y) → IsTrue (t || s) → IsTrue (t2 || s2)
first_or_second e e2 true s t2 s2 X Y f g h k = ap (λ z. z || s2) (f h refl)
first_or_second e e2 false s true s2 X Y f g h k = refl
first_or_second e e2 false s false s2 X Y f g h k = g h k

closing_same : (rule : Rule) (form : LawForm) (K : ℤ) (e e2 : ArcEnds) → EndsSame e e2 (closing_ends rule form K e) → IsTrue (arc_closing rule form K e) → IsTrue (arc_closing rule form K e2)
closing_same Pipe (Drags law) K e e2 h t =
    first_or_second e e2 (drops_too_little law K e) (drops_too_much law K e) (drops_too_little law K e2) (drops_too_much law K e2) _ _
    (λ r k. let f = r.0 in let g = r.1.0 in let i = r.1.1.0 in cc) (λ r k. let f = r.0 in let g = r.1.0 in let i = r.1.1.0 in cc) h t
closing_same Fall (Reduces in_min out_max m M) K e e2 h t =
    first_or_second e e2 (falls_too_little m K e) (falls_too_much M K e) (falls_too_little m K e2) (falls_too_much M K e2) _ _
    (λ r k. let f = r.0 in let g = r.1.0 in cc) (λ r k. let f = r.0 in let g = r.1.0 in cc) h t
closing_same Rise (Raises in_min out_max num den M) K e e2 h t = let f = h.0 in let g = h.1.0 in cc
closing_same Ratio (Raises in_min out_max num den M) K e e2 h t = let f = h.0 in let g = h.1.0 in cc
closing_same Reach (Loses m M) K e e2 h t =
    first_or_second e e2 (is_beyond_reach M K e) (is_beyond_reach_back M K e) (is_beyond_reach M K e2) (is_beyond_reach_back M K e2) _ _
    (λ r k. let f = r.0 in let g = r.1.0 in cc) (λ r k. let f = r.0 in let g = r.1.0 in cc) h t
closing_same Drop (Loses m M) K e e2 h t =
    first_or_second e e2 (loses_too_little m K e) (loses_too_little_back m K e) (loses_too_little m K e2) (loses_too_little_back m K e2) _ _
    (λ r k. let f = r.0 in let g = r.1.0 in let i = r.1.1.0 in cc) (λ r k. let f = r.0 in let g = r.1.0 in let i = r.1.1.0 in cc) h t
closing_same rule form K e e2 h t = absurd cc

no_closing : (rule : Rule) (form : LawForm) (K : ℤ) (e : ArcEnds) → reads_law rule ≡ false → IsTrue (arc_closing rule form K e) → ⊥
no_closing Pipe (Drags law) K e r t = cc
no_closing Fall (Reduces in_min out_max m M) K e r t = cc
no_closing Rise (Raises in_min out_max num den M) K e r t = cc
no_closing Ratio (Raises in_min out_max num den M) K e r t = cc
no_closing Reach (Loses m M) K e r t = cc
no_closing Drop (Loses m M) K e r t = cc
no_closing rule form K e r t = cc

-- ---- cuts
cut_nodes_same : (nodes nodes2 : List NodeRow) (ns : List ℕ) → length nodes ≡ length nodes2 → IsTrue (are_cut_nodes nodes ns) → IsTrue (are_cut_nodes nodes2 ns)
cut_nodes_same nodes nodes2 [] l t = absurd cc
cut_nodes_same nodes nodes2 (n ∷ ns) l t = subst (λ (k : ℕ). IsTrue (ascends_after n ns && list_all (λ m. nat_lt m k) (n ∷ ns))) l t

all_arcs_same : (test test2 : ℕ → ArcRow → Bool) (i : ℕ) (rows rows2 : List ArcRow) → ((j : ℕ) (row row2 : ArcRow) → blank_arc row ≡ blank_arc row2 → test j row ≡ test2 j row2) → map blank_arc rows ≡ map blank_arc rows2
    → IsTrue (all_arcs test i rows) → IsTrue (all_arcs test2 i rows2)
all_arcs_same test test2 i [] [] f m t = refl
all_arcs_same test test2 i [] (row2 ∷ rows2) f m t = absurd cc
all_arcs_same test test2 i (row ∷ rows) [] f m t = absurd cc
all_arcs_same test test2 i (row ∷ rows) (row2 ∷ rows2) f m t =
    let first : blank_arc row ≡ blank_arc row2 = cc in
    let later : map blank_arc rows ≡ map blank_arc rows2 = cc in
    let b = and_parts (test i row) (all_arcs test (i + 1) rows) t in
    let rest = all_arcs_same test test2 (i + 1) rows rows2 f later b.1 in
    let here : IsTrue (test2 i row2) = sym (f i row row2 first) ∙ b.0 in
    and_from (test2 i row2) (all_arcs test2 (i + 1) rows2) here rest

cross_same : (ns : List ℕ) (row row2 : ArcRow) → row.from ≡ row2.from → row.to ≡ row2.to → crosses ns row ≡ crosses ns row2
cross_same ns row row2 f t = rw (f, t) refl

map_or_same : {A : Type 0} (f : A → ℤ) (o q : Option A) (z : ℤ) → option_map f o ≡ option_map f q → option_map_or f o z ≡ option_map_or f q z
map_or_same f None None z h = refl
map_or_same f None (Some y) z h = absurd cc
map_or_same f (Some x) None z h = absurd cc
map_or_same f (Some x) (Some y) z h = cc

less_same : (x y z w : ℤ) → x ≡ y → z ≡ w → IsTrue (int_lt x z) → IsTrue (int_lt y w)
less_same x y z w a b t = cc

apart_same : (K L m l O P I J : ℤ) → K ≡ L → m ≡ l → O ≡ P → I ≡ J → IsTrue (int_lt (K *ℤ m) (O -ℤ I)) → IsTrue (int_lt (L *ℤ l) (P -ℤ J))
apart_same K L m l O P I J a b c d t = cc

below_same : (K L m l O P I J : ℤ) → K ≡ L → m ≡ l → O ≡ P → I ≡ J → IsTrue (int_lt (O -ℤ I) (K *ℤ m)) → IsTrue (int_lt (P -ℤ J) (L *ℤ l))
below_same K L m l O P I J a b c d t = cc

module _ (p p2 : Network) (b b2 : PartBox) (alike : Alike p p2 b b2) where
  abbrev R : Item → Type 0
  R i = ReadsSame p p2 b b2 i

  forms_close : (rule : Rule) (form form2 : LawForm) (a : ℕ) (row row2 : ArcRow) (K : ℤ) (e : ArcEnds) (r : Bool) → reads_law rule ≡ r → Each R (cond r (Law a ∷ []) [])
      → slice_get p.arcs a ≡ Some row → slice_get p2.arcs a ≡ Some row2 → (row.kind ≡ row2.kind → form ≡ form2) → IsTrue (arc_closing rule form K e) → IsTrue (arc_closing rule form2 K e)
  forms_close rule form form2 a row row2 K e true is h at at2 same t =
      subst (λ (f : LawForm). IsTrue (arc_closing rule f K e)) (same (kinds_same p p2 b b2 alike a row row2 at at2 h.0)) t
  forms_close rule form form2 a row row2 K e false is h at at2 same t = absurd (no_closing rule form K e is t)

  law_closes : (rule : Rule) (a : ℕ) → Each R (option_map_or (row_closing_reads p b rule a) (slice_get p.arcs a) []) → IsTrue (option_map_or (row_closing p b rule a) (slice_get p.arcs a) false)
      → IsTrue (option_map_or (row_closing p2 b2 rule a) (slice_get p2.arcs a) false)
  law_closes rule a h t =
      let found = some_is (slice_get p.arcs a) (row_closing p b rule a) t in
      let row = found.0 in
      let e = arc_ends b.bounds a row in
      let fixed = some_is (fixed_form p b.part a row) (λ form. arc_closing rule form b.scale (arc_ends b.bounds a row)) found.2 in
      let form = fixed.0 in
      let twin = twin_of p p2 a row alike.shape found.1 in
      let row2 = twin.row2 in
      let e2 = arc_ends b2.bounds a row2 in
      let other = twin_form p p2 b.part a row row2 form alike.shape twin.kind fixed.1 in
      let reads : Each R (row_closing_reads p b rule a row) = subst (λ (o : Option ArcRow). Each R (option_map_or (row_closing_reads p b rule a) o [])) found.1 h in
      let parts = each_parts R (law_items rule a) (option_map_or (λ form. map (end_item a row) (closing_ends rule form b.scale (arc_ends b.bounds a row))) (fixed_form p b.part a row) []) reads in
      let ends : Each R (map (end_item a row) (closing_ends rule form b.scale (arc_ends b.bounds a row))) =
      subst (λ (o : Option LawForm). Each R (option_map_or (λ form. map (end_item a row) (closing_ends rule form b.scale (arc_ends b.bounds a row))) o [])) fixed.1 parts.1 in
      let here = closing_same rule form b.scale (arc_ends b.bounds a row) (arc_ends b2.bounds a row2) (ends_say p p2 b b2 alike a row row2 (closing_ends rule form b.scale (arc_ends b.bounds a row)) twin.from twin.to ends) fixed.2 in
      let there = forms_close rule form other.form2 a row row2 b.scale (arc_ends b2.bounds a row2) (reads_law rule) refl parts.0 found.1 twin.is other.same here in
      let scaled : IsTrue (arc_closing rule other.form2 b2.scale (arc_ends b2.bounds a row2)) = subst (λ (K : ℤ). IsTrue (arc_closing rule other.form2 K (arc_ends b2.bounds a row2))) alike.scale there in
      let is_form : fixed_form p2 b2.part a row2 ≡ Some other.form2 = subst (λ z. fixed_form p2 z a row2 ≡ Some other.form2) alike.part other.is in
      some_holds (slice_get p2.arcs a) (row_closing p2 b2 rule a) row2 twin.is
      (some_holds (fixed_form p2 b2.part a row2) (λ form. arc_closing rule form b2.scale (arc_ends b2.bounds a row2)) other.form2 is_form scaled)

  -- ---- the balance of a node
  by_much : (n : ℕ) (node node2 : NodeRow) (much : Bool) → slice_get p.nodes n ≡ Some node → slice_get p2.nodes n ≡ Some node2 → takes_too_much node b.scale (flow_lo b.bounds) (flow_hi b.bounds) n p.arcs ≡ much → Each R (balance_reads p n much)
      → IsTrue (much || takes_too_little node b.scale (flow_lo b.bounds) (flow_hi b.bounds) n p.arcs) → IsTrue (balance_closing node2 b2.scale (flow_lo b2.bounds) (flow_hi b2.bounds) n p2.arcs)
  by_much n node node2 true at at2 is h t =
      let parts = each_parts R (flows_where (leaves n) true 0 p.arcs) (flows_where (enters n) false 0 p.arcs) h.1 in
      or_first (takes_too_much node2 b2.scale (flow_lo b2.bounds) (flow_hi b2.bounds) n p2.arcs) _
      (apart_same _ _ _ _ _ _ _ _ alike.scale (supplies_same p p2 b b2 alike n false node node2 at at2 h.0) (out_same p p2 b b2 n true p.arcs p2.arcs alike.shape.arcs parts.0) (in_same p p2 b b2 n false p.arcs p2.arcs alike.shape.arcs parts.1) is)
  by_much n node node2 false at at2 is h t =
      let parts = each_parts R (flows_where (leaves n) false 0 p.arcs) (flows_where (enters n) true 0 p.arcs) h.1 in
      or_second (takes_too_much node2 b2.scale (flow_lo b2.bounds) (flow_hi b2.bounds) n p2.arcs) _
      (below_same _ _ _ _ _ _ _ _ alike.scale (supplies_same p p2 b b2 alike n true node node2 at at2 h.0) (out_same p p2 b b2 n false p.arcs p2.arcs alike.shape.arcs parts.0) (in_same p p2 b b2 n true p.arcs p2.arcs alike.shape.arcs parts.1) t)

  node_closes : (n : ℕ) → Each R (closing_at_reads p b Balance n) → IsTrue (closing_at p b Balance n) → IsTrue (closing_at p2 b2 Balance n)
  node_closes n h t =
      let found = some_is (slice_get p.nodes n) (λ node. balance_closing node b.scale (flow_lo b.bounds) (flow_hi b.bounds) n p.arcs) t in
      let node = found.0 in
      let mate = matched blank_node p.nodes p2.nodes n node alike.shape.nodes found.1 in
      let reads : Each R (balance_reads p n (takes_too_much node b.scale (flow_lo b.bounds) (flow_hi b.bounds) n p.arcs)) =
      subst (λ (o : Option NodeRow). Each R (option_map_or (λ node. balance_reads p n (takes_too_much node b.scale (flow_lo b.bounds) (flow_hi b.bounds) n p.arcs)) o [])) found.1 h in
      some_holds (slice_get p2.nodes n) (λ node. balance_closing node b2.scale (flow_lo b2.bounds) (flow_hi b2.bounds) n p2.arcs) mate.0 mate.1
      (by_much n node mate.0 (takes_too_much node b.scale (flow_lo b.bounds) (flow_hi b.bounds) n p.arcs) found.1 mate.1 refl reads found.2)

  closes_at : (rule : Rule) (place : ℕ) → Each R (closing_at_reads p b rule place) → IsTrue (closing_at p b rule place) → IsTrue (closing_at p2 b2 rule place)
  closes_at Balance n h t = node_closes n h t
  closes_at rule a h t = law_closes rule a h t

  -- ---- cuts
  least_same : (ns : List ℕ) → Each R (map (λ n. Supply n true) ns) → sum_nodes (least_supply p.nodes) ns ≡ sum_nodes (least_supply p2.nodes) ns
  least_same [] h = refl
  least_same (n ∷ ns) h =
      let here : least_supply p.nodes n ≡ least_supply p2.nodes n = map_or_same (supply_of true) (slice_get p.nodes n) (slice_get p2.nodes n) (pos 0) h.0 in
      omega (arith, linear, here, least_same ns h.1)

  greatest_same : (ns : List ℕ) → Each R (map (λ n. Supply n false) ns) → sum_nodes (greatest_supply p.nodes) ns ≡ sum_nodes (greatest_supply p2.nodes) ns
  greatest_same [] h = refl
  greatest_same (n ∷ ns) h =
      let here : greatest_supply p.nodes n ≡ greatest_supply p2.nodes n = map_or_same (supply_of false) (slice_get p.nodes n) (slice_get p2.nodes n) (pos 0) h.0 in
      omega (arith, linear, here, greatest_same ns h.1)

  unbalanced_same : (ns : List ℕ) (much : Bool) → brings_too_much p.nodes ns ≡ much → Each R (map (λ n. Supply n much) ns) → IsTrue (much || brings_too_little p.nodes ns) → IsTrue (is_unbalanced p2.nodes ns)
  unbalanced_same ns true is h t = or_first (brings_too_much p2.nodes ns) (brings_too_little p2.nodes ns) (less_same (pos 0) (pos 0) (sum_nodes (least_supply p.nodes) ns) (sum_nodes (least_supply p2.nodes) ns) refl (least_same ns h) is)
  unbalanced_same ns false is h t = or_second (brings_too_much p2.nodes ns) (brings_too_little p2.nodes ns) (less_same (sum_nodes (greatest_supply p.nodes) ns) (sum_nodes (greatest_supply p2.nodes) ns) (pos 0) (pos 0) (greatest_same ns h) refl t)

  shut_same : (ns : List ℕ) (j : ℕ) (row row2 : ArcRow) → blank_arc row ≡ blank_arc row2 → (not (crosses ns row) || is_shut (fixed_state p b.part j row)) ≡ (not (crosses ns row2) || is_shut (fixed_state p2 b2.part j row2))
  shut_same ns j row row2 s =
      let fixed : fixed_state p b.part j row ≡ fixed_state p2 b2.part j row2 =
      fixed_same p p2 b.part j row row2 alike.shape (ap (λ (r : ArcRow). r.kind) s) ∙ ap (λ z. fixed_state p2 z j row2) alike.part in
      ap (λ c. not c || is_shut (fixed_state p b.part j row)) (cross_same ns row row2 (ap (λ (r : ArcRow). r.from) s) (ap (λ (r : ArcRow). r.to) s))
      ∙ ap (λ z. not (crosses ns row2) || is_shut z) fixed

  cut_same : (ns : List ℕ) → Each R (map (λ n. Supply n (brings_too_much p.nodes ns)) ns) → IsTrue (cuts p b.part ns) → IsTrue (cuts p2 b2.part ns)
  cut_same ns h t =
      let tests = and_parts (are_cut_nodes p.nodes ns && all_arcs (λ a row. not (crosses ns row) || is_shut (fixed_state p b.part a row)) 0 p.arcs) (is_unbalanced p.nodes ns) t in
      let more = and_parts (are_cut_nodes p.nodes ns) (all_arcs (λ a row. not (crosses ns row) || is_shut (fixed_state p b.part a row)) 0 p.arcs) tests.0 in
      let count : length p.nodes ≡ length p2.nodes = sym (length-map p.nodes blank_node) ∙ ap length alike.shape.nodes ∙ length-map p2.nodes blank_node in
      and_from (are_cut_nodes p2.nodes ns && all_arcs (λ a row. not (crosses ns row) || is_shut (fixed_state p2 b2.part a row)) 0 p2.arcs) (is_unbalanced p2.nodes ns)
      (and_from (are_cut_nodes p2.nodes ns) (all_arcs (λ a row. not (crosses ns row) || is_shut (fixed_state p2 b2.part a row)) 0 p2.arcs)
      (cut_nodes_same p.nodes p2.nodes ns count more.0)
      (all_arcs_same _ _ 0 p.arcs p2.arcs (shut_same ns) alike.shape.arcs more.1))
      (unbalanced_same ns (brings_too_much p.nodes ns) refl h tests.1)

  -- ---- empty variables
  pub var_kept : (v : Var) → is_var p v ≡ is_var p2 v
  var_kept (Flow a) = ap (λ k. nat_lt a k) (sym (length-map p.arcs blank_arc) ∙ ap length alike.shape.arcs ∙ length-map p2.arcs blank_arc)
  var_kept (Square n) = ap (λ k. nat_lt n k) (sym (length-map p.nodes blank_node) ∙ ap length alike.shape.nodes ∙ length-map p2.nodes blank_node)

  pub holds_too : (c : Closing) → Each R (closing_reads p b c) → IsTrue (closing_holds p b c) → IsTrue (closing_holds p2 b2 c)
  holds_too (Empty v) h t =
      let tests = and_parts (is_var p v) (is_empty (ends_of b.bounds v)) t in
      and_from (is_var p2 v) (is_empty (ends_of b2.bounds v)) (sym (var_kept v) ∙ tests.0) (less_same (ends_of b.bounds v).hi (ends_of b2.bounds v).hi (ends_of b.bounds v).lo (ends_of b2.bounds v).lo h.1.0 h.0 tests.1)
  holds_too (Cut ns) h t = cut_same ns h t
  holds_too (At rule place) h t = closes_at rule place h t

pub closings_read_no_more : ClosingsReadNoMore
closings_read_no_more p p2 b b2 c alike h t = holds_too p p2 b b2 alike c h t
