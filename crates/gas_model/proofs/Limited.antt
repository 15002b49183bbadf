-- Rows without an offence lie within the limits.
use Rattle.std.proofs.Common.{◌≡◌, ◌≢◌, ◌==◌, ℕ, zero, suc, ◌<◌, ◌&&◌, Bool, true, false, cond, not, List, [], ◌∷◌, ◌++◌, length, map, get_or, is_none, unwrap_or, Option, Some, None, refl, sym, ap, ◌∙◌, arith, leb, subst}
use Rattle.std.specs.Prelude.{slice_get, option_and_then}
use Rattle.std.specs.List.{list_all}
use Rattle.std.specs.Option.{option_map, option_map_or}
use Rattle.std.specs.Str.{bytes_eq}
use Rattle.std.proofs.lemmas.Option.{slice_get-map, slice_get_within}
use Rattle.std.proofs.lemmas.Bool.{leb-true, and_parts, and_from}
use Rattle.std.proofs.lemmas.List.{length-map}
use Rattle.std.proofs.lemmas.List.Quantifiers.{position-Some}
use Rattle.std.proofs.lemmas.Slice.Eq.{bytes_eq-Decides}
use Rattle.gas_model.specs.declared.rows.NodeRow.{NodeRow}
use Rattle.gas_model.specs.declared.rows.ArcText.{ArcText}
use Rattle.gas_model.specs.declared.rows.ArcRow.{ArcRow}
use Rattle.gas_model.specs.declared.rows.SetText.{SetText}
use Rattle.gas_model.specs.declared.rows.DecisionText.{DecisionText}
use Rattle.gas_model.specs.declared.rows.GroupText.{GroupText}
use Rattle.gas_model.specs.declared.rows.Group.{Group}
use Rattle.gas_model.specs.declared.rows.Rows.{Rows}
use Rattle.gas_model.specs.declared.rows.Many.TheVariants as many
use Rattle.gas_model.specs.declared.rows.ModelFault.TheVariants as fault
use Rattle.gas_model.specs.Rows.{Network, node_ids, node_id, node_fault, text_id, text_ids, arc_of, arc_fault, first_offence, rows_fault, takes, set_key, set_of, set_fault, decision_key, decision_of, decision_fault, group_of, group_fault, group_ids, decided_by, network_of, IsProblem}
use Rattle.base_types.specs.Names.{place, is_among}
use Rattle.base_types.specs.Ids.{is_id}
use Rattle.gas_model.specs.Limits.{is_node_within}
use Rattle.gas_model.specs.Within.{IsWithin, is_row_within, is_set_within, is_decision_within, is_group_within}
use Rattle.gas_model.specs.Incidence.{AreEnds}
use Rattle.gas_model.specs.Rulings.{GroupsDecideArcs}
use Rattle.gas_model.specs.Placing.{IsPlaced}
use Rattle.gas_model.specs.declared.placing.Placed.{Placed}
use Rattle.gas_model.proofs.Remade.{both_none, passed, not_false, at_place, IsClean, clean_arc, IsCleanSet, clean_set, IsCleanDecision, clean_decision, IsCleanGroup, clean_group, AreClean, clean_rows, made, placed}

-- an item of a list without an offence passes its check
passed_at : {A K F : Type 0} (key : A → K) (check : List K → A → Option F) (earlier : List K) (xs : List A) → first_offence key check earlier xs ≡ None
    → (i : ℕ) (x : A) → slice_get xs i ≡ Some x → (before : List K) × (check before x ≡ None)
passed_at key check earlier [] clean i x e = absurd cc
passed_at {A} key check earlier (y ∷ xs) clean zero x e =
    let p = both_none (check earlier y) _ clean in
    let same : y ≡ x = cc in
    (earlier, ap (check earlier) (sym same) ∙ p.0)
passed_at key check earlier (y ∷ xs) clean (suc i) x e =
    passed_at key check (earlier ++ key y ∷ []) xs (both_none (check earlier y) _ clean).1 i x e

all_at : {A : Type 0} (p : A → Bool) (xs : List A) → list_all p xs ≡ true → (i : ℕ) (x : A) → slice_get xs i ≡ Some x → p x ≡ true
all_at p [] h i x e = absurd cc
all_at p (y ∷ xs) h zero x e = let same : y ≡ x = cc in ap p (sym same) ∙ (and_parts (p y) (list_all p xs) h).0
all_at p (y ∷ xs) h (suc i) x e = all_at p xs (and_parts (p y) (list_all p xs) h).1 i x e

unmapped : {A B : Type 0} (f : A → B) (o : Option A) (y : B) → option_map f o ≡ Some y → (x : A) × (o ≡ Some x) × (f x ≡ y)
unmapped f None y e = absurd cc
unmapped f (Some x) y e = (x, refl, cc)

below_length : (names : List (List ℕ)) (id : List ℕ) (o : Option ℕ) → place names id ≡ o → is_none o ≡ false → unwrap_or o 0 < length names
below_length names id None e h = absurd cc
below_length names id (Some i) e h = (position-Some (bytes_eq id) names i [] e).0

same_bytes : (a b : List ℕ) → bytes_eq a b ≡ false → a ≡ b → ⊥
same_bytes a b h e = let yes : bytes_eq a b ≡ true = (bytes_eq-Decides a b).1 e in absurd cc

-- what the list of a first offence passes, item by item
all_clean : {A K F : Type 0} (key : A → K) (check : List K → A → Option F) (test : A → Bool) (earlier : List K) (xs : List A) → ((before : List K) (x : A) → check before x ≡ None → test x ≡ true)
    → first_offence key check earlier xs ≡ None → list_all test xs ≡ true
all_clean key check test earlier [] each clean = refl
all_clean key check test earlier (x ∷ xs) each clean =
    let p = both_none (check earlier x) (first_offence key check (earlier ++ key x ∷ []) xs) clean in
    and_from (test x) (list_all test xs) (each earlier x p.0) (all_clean key check test (earlier ++ key x ∷ []) xs each p.1)

-- a test of mapped items
all_mapped : {A B : Type 0} (f : A → B) (p : B → Bool) (xs : List A) → list_all p (map f xs) ≡ list_all (λ x. p (f x)) xs
all_mapped f p [] = refl
all_mapped f p (x ∷ xs) = ap (λ b. p (f x) && b) (all_mapped f p xs)

-- the arc that a clean set names takes its word
takes_placed : (nodes : List (List ℕ)) (arcs : List ArcText) (s : SetText) (o : Option ℕ) → option_map_or (λ a. takes a.kind s.allow) (option_and_then (slice_get arcs) o) false ≡ true
    → option_map_or (λ row. takes row.kind s.allow) (slice_get (map (arc_of nodes) arcs) (unwrap_or o 0)) false ≡ true
takes_placed nodes arcs s None h = absurd cc
takes_placed nodes arcs s (Some i) h = ap (λ o. option_map_or (λ row. takes row.kind s.allow) o false) (slice_get-map (arc_of nodes) arcs i) ∙ by (slice_get arcs i) h
  where
    by : (o : Option ArcText) → option_map_or (λ a. takes a.kind s.allow) o false ≡ true → option_map_or (λ row. takes row.kind s.allow) (option_map (arc_of nodes) o) false ≡ true
    by None h = h
    by (Some a) h = h

set_within : (nodes : List (List ℕ)) (arcs : List ArcText) (s : SetText) → IsCleanSet arcs s → is_set_within (map (arc_of nodes) arcs) (set_of (text_ids arcs) s) ≡ true
set_within nodes arcs s c = takes_placed nodes arcs s (place (text_ids arcs) s.arc) c.takes

decision_within : (nodes : List (List ℕ)) (arcs : List ArcText) (group : List ℕ) (decided : List (List ℕ)) (d : DecisionText) → IsCleanDecision arcs group decided d
    → is_decision_within (map (arc_of nodes) arcs) (decision_of (text_ids arcs) d) ≡ true
decision_within nodes arcs group decided d c =
    and_from (is_id d.id) _ c.id
    (all_mapped (set_of (text_ids arcs)) (is_set_within (map (arc_of nodes) arcs)) d.sets
    ∙ all_clean set_key (set_fault arcs group decided) (λ s. is_set_within (map (arc_of nodes) arcs) (set_of (text_ids arcs) s)) [] d.sets
    (λ before s e. set_within nodes arcs s (clean_set arcs group decided before s e)) c.sets)

group_within : (nodes : List (List ℕ)) (arcs : List ArcText) (decided : List (List ℕ)) (g : GroupText) → IsCleanGroup arcs decided g → leb (length g.decisions) 1024 ≡ true
    → is_group_within (map (arc_of nodes) arcs) (group_of (text_ids arcs) g) ≡ true
group_within nodes arcs decided g c few =
    let size : length (map (decision_of (text_ids arcs)) g.decisions) ≡ length g.decisions = length-map g.decisions (decision_of (text_ids arcs)) in
    let some : not (length (map (decision_of (text_ids arcs)) g.decisions) == 0) ≡ true = ap (λ n. not (n == 0)) size ∙ ap not c.some in
    let many : leb (length (map (decision_of (text_ids arcs)) g.decisions)) 1024 ≡ true = ap (λ n. leb n 1024) size ∙ few in
    and_from _ _ (and_from _ _ (and_from (is_id g.id) _ c.id some) many)
    (all_mapped (decision_of (text_ids arcs)) (is_decision_within (map (arc_of nodes) arcs)) g.decisions
    ∙ all_clean decision_key (decision_fault arcs g.id decided) (λ d. is_decision_within (map (arc_of nodes) arcs) (decision_of (text_ids arcs) d)) [] g.decisions
    (λ before d e. decision_within nodes arcs g.id decided d (clean_decision arcs g.id decided before d e)) c.decisions)

module _ (rows : Rows) (clean : rows_fault rows ≡ None) where
  parts : AreClean rows
  parts = clean_rows rows clean

  counted_nodes : (leb (length rows.nodes) 2000 ≡ true) × (cond (not (leb (length rows.arcs) 2000)) (Some (fault.TooMany many.Arcs)) None ≡ None)
  counted_nodes =
      let p = passed (not (leb (length rows.nodes) 2000)) (fault.TooMany many.Nodes) (cond (not (leb (length rows.arcs) 2000)) (Some (fault.TooMany many.Arcs)) None) parts.counts in
      (not_false _ p.0, p.1)

  counted_arcs : leb (length rows.arcs) 2000 ≡ true
  counted_arcs = not_false _ (passed (not (leb (length rows.arcs) 2000)) (fault.TooMany many.Arcs) None counted_nodes.1).0

  counted_groups : (leb (length rows.groups) 256 ≡ true) × (list_all (λ g. leb (length g.decisions) 1024) rows.groups ≡ true)
  counted_groups =
      let p = passed (not (leb (length rows.groups) 256)) (fault.TooMany many.Groups) _ parts.group_counts in
      let q = passed (not (list_all (λ g. leb (length g.decisions) 1024) rows.groups)) (fault.TooMany many.Decisions) None p.1 in
      (not_false _ p.0, not_false _ q.0)

  node_within : (n : ℕ) (node : NodeRow) → slice_get rows.nodes n ≡ Some node → is_node_within node ≡ true
  node_within n node e =
      let at = passed_at node_id node_fault [] rows.nodes parts.nodes n node e in
      not_false _ (passed (not (is_node_within node)) (fault.OverLimit node.id) (cond (is_among at.0 node.id) (Some (fault.TwiceNamed node.id)) None) at.1).0

  -- the text of an arc, which is clean
  text_at : (a : ℕ) (row : ArcRow) → slice_get (map (arc_of (node_ids rows.nodes)) rows.arcs) a ≡ Some row → (t : ArcText) × (slice_get rows.arcs a ≡ Some t) × (arc_of (node_ids rows.nodes) t ≡ row) × IsClean (node_ids rows.nodes) t
  text_at a row e =
      let u = unmapped (arc_of (node_ids rows.nodes)) (slice_get rows.arcs a) row (sym (slice_get-map (arc_of (node_ids rows.nodes)) rows.arcs a) ∙ e) in
      let at = passed_at text_id (arc_fault (node_ids rows.nodes)) [] rows.arcs parts.arcs a u.0 u.1 in
      (u.0, u.1, u.2, clean_arc (node_ids rows.nodes) at.0 u.0 at.1)

  row_within : (a : ℕ) (row : ArcRow) → slice_get (map (arc_of (node_ids rows.nodes)) rows.arcs) a ≡ Some row → is_row_within row ≡ true
  row_within a row e = let t = text_at a row e in ap is_row_within (sym t.2) ∙ t.3.within

  row_from : (a : ℕ) (row : ArcRow) → slice_get (map (arc_of (node_ids rows.nodes)) rows.arcs) a ≡ Some row → row.from < length rows.nodes
  row_from a row e =
      let t = text_at a row e in
      let below = below_length (node_ids rows.nodes) t.0.from _ refl t.3.from in
      let same : (arc_of (node_ids rows.nodes) t.0).from ≡ row.from = ap (λ (r : ArcRow). r.from) t.2 in
      omega (arith, below, same, length-map rows.nodes node_id)

  row_to : (a : ℕ) (row : ArcRow) → slice_get (map (arc_of (node_ids rows.nodes)) rows.arcs) a ≡ Some row → row.to < length rows.nodes
  row_to a row e =
      let t = text_at a row e in
      let below = below_length (node_ids rows.nodes) t.0.to _ refl t.3.to in
      let same : (arc_of (node_ids rows.nodes) t.0).to ≡ row.to = ap (λ (r : ArcRow). r.to) t.2 in
      omega (arith, below, same, length-map rows.nodes node_id)

  row_apart : (a : ℕ) (row : ArcRow) → slice_get (map (arc_of (node_ids rows.nodes)) rows.arcs) a ≡ Some row → row.from ≢ row.to
  row_apart a row e same =
      let t = text_at a row e in
      let here : get_or (node_ids rows.nodes) (arc_of (node_ids rows.nodes) t.0).from [] ≡ t.0.from = at_place (node_ids rows.nodes) t.0.from _ refl t.3.from in
      let there : get_or (node_ids rows.nodes) (arc_of (node_ids rows.nodes) t.0).to [] ≡ t.0.to = at_place (node_ids rows.nodes) t.0.to _ refl t.3.to in
      let ends : (arc_of (node_ids rows.nodes) t.0).from ≡ (arc_of (node_ids rows.nodes) t.0).to = ap (λ (r : ArcRow). r.from) t.2 ∙ same ∙ ap (λ (r : ArcRow). r.to) (sym t.2) in
      same_bytes t.0.from t.0.to t.3.apart (sym here ∙ ap (λ (i : ℕ). get_or (node_ids rows.nodes) i []) ends ∙ there)

  each_group_within : (k : ℕ) (g : Group) → slice_get (map (group_of (text_ids rows.arcs)) rows.groups) k ≡ Some g → is_group_within (map (arc_of (node_ids rows.nodes)) rows.arcs) g ≡ true
  each_group_within k g e =
      let u = unmapped (group_of (text_ids rows.arcs)) (slice_get rows.groups k) g (sym (slice_get-map (group_of (text_ids rows.arcs)) rows.groups k) ∙ e) in
      let at = passed_at (λ g. g) (group_fault rows.arcs) [] rows.groups parts.groups k u.0 u.1 in
      let few = all_at (λ g. leb (length g.decisions) 1024) rows.groups counted_groups.1 k u.0 u.1 in
      ap (is_group_within (map (arc_of (node_ids rows.nodes)) rows.arcs)) (sym u.2)
      ∙ group_within (node_ids rows.nodes) rows.arcs (decided_by at.0) u.0 (clean_group rows.arcs (group_ids at.0) (decided_by at.0) u.0 at.1) few

  pub limited : IsWithin (network_of rows)
  limited = record {
    few_nodes = leb-true _ _ counted_nodes.0;
    few_arcs = let few = leb-true _ _ counted_arcs in omega (arith, few, length-map rows.arcs (arc_of (node_ids rows.nodes)));
    few_groups = let few = leb-true _ _ counted_groups.0 in omega (arith, few, length-map rows.groups (group_of (text_ids rows.arcs)));
    nodes = node_within;
    arcs = row_within;
    from = row_from;
    to = row_to;
    apart = row_apart;
    groups = each_group_within;
  }

-- the ends of the arcs of a problem
pub ends_limited : (p : Network) → IsWithin p → AreEnds (length p.nodes) p.arcs
ends_limited p w = record { few = w.few_arcs; from = w.from; to = w.to; apart = w.apart }

below_rows : {A : Type 0} (f : A → Bool) (xs : List A) (o : Option A) (i : ℕ) → slice_get xs i ≡ o → option_map_or f o false ≡ true → i < length xs
below_rows f xs None i e h = absurd cc
below_rows f xs (Some x) i e h = slice_get_within xs i x e

-- the arcs of which the groups of a problem speak
pub groups_limited : (p : Network) → IsWithin p → GroupsDecideArcs (length p.arcs) p.groups
groups_limited p w = record {
  few = λ k g e. leb-true _ _ (and_parts _ _ (and_parts _ _ (w.groups k g e)).0).1;
  arcs = λ k g e j d f i s h.
      let decisions = (and_parts _ _ (w.groups k g e)).1 in
      let sets = (and_parts (is_id d.id) (list_all (is_set_within p.arcs) d.sets) (all_at (is_decision_within p.arcs) g.decisions decisions j d f)).1 in
      below_rows (λ (row : ArcRow). takes row.kind s.1) p.arcs _ s.0 refl (all_at (is_set_within p.arcs) d.sets sets i s h);
}

-- the problem of what was placed
abbrev pub placed_network : Rows → Placed → Network
placed_network rows x = record { nodes = rows.nodes; arcs = x.arcs; groups = x.groups }

pub placed_problem : (rows : Rows) (x : Placed) → rows_fault rows ≡ None → IsPlaced rows x → IsProblem (placed_network rows x)
placed_problem rows x clean p = subst IsProblem (placed rows x p) (made rows clean)

pub placed_within : (rows : Rows) (x : Placed) → rows_fault rows ≡ None → IsPlaced rows x → IsWithin (placed_network rows x)
placed_within rows x clean p = subst IsWithin (placed rows x p) (limited rows clean)
