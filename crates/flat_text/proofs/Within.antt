-- The rows that make a problem lie within their limits.
use Rattle.std.proofs.Common.{◌≡◌, ◌<◌, ℕ, suc, zero, Bool, true, false, List, [], ◌∷◌, ◌++◌, length, get_or, not, ◌&&◌, is_none, unwrap_or, Option, Some, None, refl, sym, ap, ◌∙◌, arith}
use Rattle.std.specs.Prelude.{◌==◌}
use Rattle.std.specs.List.{list_all, flat_map}
use Rattle.std.specs.Str.{bytes_eq}
use Rattle.std.proofs.lemmas.List.Quantifiers.{position-Some}
use Rattle.std.proofs.lemmas.Bool.{and_parts}
use Rattle.gas_model.specs.declared.rows.NodeRow.{NodeRow}
use Rattle.gas_model.specs.declared.rows.ArcText.{ArcText}
use Rattle.gas_model.specs.declared.rows.SetText.{SetText}
use Rattle.gas_model.specs.declared.rows.DecisionText.{DecisionText}
use Rattle.gas_model.specs.declared.rows.GroupText.{GroupText}
use Rattle.gas_model.specs.declared.rows.Rows.{Rows}
use Rattle.gas_model.specs.declared.rows.ModelFault.TheVariants as fault
use Rattle.base_types.specs.Ids.{is_id}
use Rattle.base_types.specs.Numbers.{is_pressure, is_flow}
use Rattle.gas_model.specs.Limits.{is_node_within, is_kind_within, is_arc_within}
use Rattle.base_types.specs.Names.{place, is_among}
use Rattle.gas_model.specs.Rows.{first_offence, node_id, node_ids, node_fault, text_id, text_ids, arc_fault, set_key, set_fault, decision_key, decision_fault, decided_by, group_ids, group_fault, rows_fault}
use Rattle.gas_model.proofs.Remade.{both_none, passed, at_place, not_false, clean_arc, clean_set, clean_rows}
use Rattle.flat_text.specs.declared.line.Item.{Item}
use Rattle.flat_text.specs.Line.{is_item_within}
use Rattle.flat_text.proofs.Grouped.{node_items, arc_items, set_items, decision_items, group_items, items_of}

-- ---- offences

all_index : {A : Type 0} (p : A → Bool) (xs : List A) (i : ℕ) (d : A) → list_all p xs ≡ true → i < length xs → p (get_or xs i d) ≡ true
all_index p [] i d h lt = absurd (omega arith)
all_index p (x ∷ xs) zero d h lt = (and_parts (p x) (list_all p xs) h).0
all_index p (x ∷ xs) (suc i) d h lt = all_index p xs i d (and_parts (p x) (list_all p xs) h).1 (omega arith)

below_length : (names : List (List ℕ)) (id : List ℕ) (o : Option ℕ) → place names id ≡ o → is_none o ≡ false → unwrap_or o 0 < length names
below_length names id None e h = absurd cc
below_length names id (Some i) e h = (position-Some (bytes_eq id) names i [] e).0

-- a name that has a place among ids is an id
id_named : (names : List (List ℕ)) (id : List ℕ) → list_all is_id names ≡ true → is_none (place names id) ≡ false → is_id id ≡ true
id_named names id all there =
    ap is_id (sym (at_place names id (place names id) refl there)) ∙ all_index is_id names (unwrap_or (place names id) 0) [] all (below_length names id (place names id) refl there)

-- each item lies within its limits
abbrev pub AreWithin : List Item → Type 0
AreWithin [] = Unit {0}
AreWithin (x ∷ xs) = (is_item_within x ≡ true) × AreWithin xs

within_append : (xs ys : List Item) → AreWithin xs → AreWithin ys → AreWithin (xs ++ ys)
within_append [] ys h k = k
within_append (x ∷ xs) ys h k = (h.0, within_append xs ys h.1 k)

-- ---- nodes

clean_node : (earlier : List (List ℕ)) (row : NodeRow) → node_fault earlier row ≡ None → is_node_within row ≡ true
clean_node earlier row clean = not_false (is_node_within row) (passed (not (is_node_within row)) (fault.OverLimit row.id) _ clean).0

node_named : (row : NodeRow) → is_node_within row ≡ true → is_id row.id ≡ true
node_named row e =
    let p = and_parts (is_id row.id && is_pressure row.p_min && is_pressure row.p_max && is_flow row.b_min) (is_flow row.b_max) e in
    let q = and_parts (is_id row.id && is_pressure row.p_min && is_pressure row.p_max) (is_flow row.b_min) p.0 in
    let r = and_parts (is_id row.id && is_pressure row.p_min) (is_pressure row.p_max) q.0 in
    (and_parts (is_id row.id) (is_pressure row.p_min) r.0).0

clean_nodes : (earlier : List (List ℕ)) (nodes : List NodeRow) → first_offence node_id node_fault earlier nodes ≡ None → AreWithin (node_items nodes) × (list_all is_id (node_ids nodes) ≡ true)
clean_nodes earlier [] clean = (tt, refl)
clean_nodes earlier (row ∷ nodes) clean =
    let c = both_none (node_fault earlier row) _ clean in
    let within = clean_node earlier row c.0 in
    let others = clean_nodes (earlier ++ row.id ∷ []) nodes c.1 in
    ((within, others.0), rw (node_named row within) others.1)

-- ---- arcs

arc_named : (a : ArcText) → is_arc_within a ≡ true → is_id a.id ≡ true
arc_named a e =
    let p = and_parts (is_id a.id && is_flow a.q_min && is_flow a.q_max) (is_kind_within a.kind) e in
    let q = and_parts (is_id a.id && is_flow a.q_min) (is_flow a.q_max) p.0 in
    (and_parts (is_id a.id) (is_flow a.q_min) q.0).0

clean_arcs : (names earlier : List (List ℕ)) (arcs : List ArcText) → list_all is_id names ≡ true → first_offence text_id (arc_fault names) earlier arcs ≡ None → AreWithin (arc_items arcs) × (list_all is_id (text_ids arcs) ≡ true)
clean_arcs names earlier [] ids clean = (tt, refl)
clean_arcs names earlier (a ∷ arcs) ids clean =
    let c = both_none (arc_fault names earlier a) _ clean in
    let is = clean_arc names earlier a c.0 in
    let others = clean_arcs names (earlier ++ a.id ∷ []) arcs ids c.1 in
    ((rw (is.within, id_named names a.from ids is.from, id_named names a.to ids is.to) refl, others.0), rw (arc_named a is.within) others.1)

-- ---- groups

module _ (arcs : List ArcText) (named : list_all is_id (text_ids arcs) ≡ true) where
  sets_clean : (group : List ℕ) (decided earlier : List (List ℕ)) (sets : List SetText) → first_offence set_key (set_fault arcs group decided) earlier sets ≡ None → AreWithin (set_items sets)
  sets_clean group decided earlier [] clean = tt
  sets_clean group decided earlier (s ∷ sets) clean =
      let c = both_none (set_fault arcs group decided earlier s) _ clean in
      (id_named (text_ids arcs) s.arc named (clean_set arcs group decided earlier s c.0).arc, sets_clean group decided (earlier ++ s.arc ∷ []) sets c.1)

  decision_clean : (group : List ℕ) (decided earlier : List (List ℕ)) (d : DecisionText) → decision_fault arcs group decided earlier d ≡ None → AreWithin (decision_items d)
  decision_clean group decided earlier d clean =
      let p = passed (not (is_id d.id)) (fault.OverLimit d.id) _ clean in
      let q = passed (is_among earlier d.id) (fault.TwiceNamed d.id) _ p.1 in
      (not_false (is_id d.id) p.0, sets_clean group decided [] d.sets q.1)

  decisions_clean : (group : List ℕ) (decided earlier : List (List ℕ)) (decisions : List DecisionText) → first_offence decision_key (decision_fault arcs group decided) earlier decisions ≡ None → AreWithin (flat_map decision_items decisions)
  decisions_clean group decided earlier [] clean = tt
  decisions_clean group decided earlier (d ∷ decisions) clean =
      let c = both_none (decision_fault arcs group decided earlier d) _ clean in
      within_append (decision_items d) (flat_map decision_items decisions) (decision_clean group decided earlier d c.0) (decisions_clean group decided (earlier ++ d.id ∷ []) decisions c.1)

  group_clean : (earlier : List GroupText) (g : GroupText) → group_fault arcs earlier g ≡ None → AreWithin (group_items g)
  group_clean earlier g clean =
      let p = passed (not (is_id g.id)) (fault.OverLimit g.id) _ clean in
      let q = passed (is_among (group_ids earlier) g.id) (fault.TwiceNamed g.id) _ p.1 in
      let r = passed (length g.decisions == 0) (fault.EmptyGroup g.id) _ q.1 in
      (not_false (is_id g.id) p.0, decisions_clean g.id (decided_by earlier) [] g.decisions r.1)

  groups_clean : (earlier groups : List GroupText) → first_offence (λ g. g) (group_fault arcs) earlier groups ≡ None → AreWithin (flat_map group_items groups)
  groups_clean earlier [] clean = tt
  groups_clean earlier (g ∷ groups) clean =
      let c = both_none (group_fault arcs earlier g) _ clean in
      within_append (group_items g) (flat_map group_items groups) (group_clean earlier g c.0) (groups_clean (earlier ++ g ∷ []) groups c.1)

-- ---- all rows

pub rows_within : (rows : Rows) → rows_fault rows ≡ None → AreWithin (items_of rows)
rows_within rows clean =
    let c = clean_rows rows clean in
    let nodes = clean_nodes [] rows.nodes c.nodes in
    let arcs = clean_arcs (node_ids rows.nodes) [] rows.arcs nodes.1 c.arcs in
    within_append (node_items rows.nodes) (arc_items rows.arcs ++ flat_map group_items rows.groups) nodes.0
    (within_append (arc_items rows.arcs) (flat_map group_items rows.groups) arcs.0 (groups_clean rows.arcs arcs.1 [] rows.groups c.groups))
