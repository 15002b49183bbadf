-- The rows of a problem make it again.
use Rattle.std.proofs.Common.{◌≡◌, ◌==◌, ℕ, Bool, true, false, cond, List, [], ◌∷◌, ◌++◌, length, map, get_or, not, is_none, unwrap_or, Option, Some, None, refl, sym, ap, ◌∙◌}
use Rattle.std.specs.Option.{option_or}
use Rattle.std.specs.Str.{bytes_eq}
use Rattle.std.proofs.lemmas.List.Quantifiers.{position-Some}
use Rattle.std.proofs.lemmas.Slice.Eq.{bytes_eq-Decides}
use Rattle.gas_model.specs.declared.rows.ArcText.{ArcText}
use Rattle.gas_model.specs.declared.rows.SetText.{SetText}
use Rattle.gas_model.specs.declared.rows.DecisionText.{DecisionText}
use Rattle.gas_model.specs.declared.rows.GroupText.{GroupText}
use Rattle.gas_model.specs.declared.rows.Rows.{Rows}
use Rattle.gas_model.specs.declared.rows.ModelFault.TheVariants as fault
use Rattle.gas_model.specs.declared.placing.Placed.{Placed}
use Rattle.gas_model.specs.Rows.{node_ids, text_id, text_ids, arc_of, text_of, arc_id, rows_of, arc_fault, arcs_fault, first_offence, rows_fault, count_fault, group_count_fault, nodes_fault, set_key, set_of, set_text, set_fault, arc_takes, decision_key, decision_of, decision_text, decision_fault, group_of, group_text, group_fault, group_fault_after, group_ids, groups_fault, decided_by, network_of, problem_of, answer, IsProblem}
use Rattle.base_types.specs.Names.{place, is_among}
use Rattle.gas_model.specs.Limits.{is_arc_within}
use Rattle.base_types.specs.Ids.{is_id}
use Rattle.gas_model.specs.Placing.{IsPlaced}

pub both_none : {A : Type 0} (a b : Option A) → option_or a b ≡ None → (a ≡ None) × (b ≡ None)
both_none None b e = (refl, e)
both_none (Some x) b e = absurd cc

pub passed : {A : Type 0} (b : Bool) (x : A) (o : Option A) → cond b (Some x) o ≡ None → (b ≡ false) × (o ≡ None)
passed true x o e = absurd cc
passed false x o e = (refl, e)

-- the name at the place of a name is that name
pub at_place : (names : List (List ℕ)) (id : List ℕ) (o : Option ℕ) → place names id ≡ o → is_none o ≡ false → get_or names (unwrap_or o 0) [] ≡ id
at_place names id None e h = absurd cc
at_place names id (Some i) e h = sym ((bytes_eq-Decides id (get_or names i [])).0 (position-Some (bytes_eq id) names i [] e).1)

-- what a clean arc passed
pub record IsClean (names : List (List ℕ)) (a : ArcText) : Type 0 where
  pub from : is_none (place names a.from) ≡ false
  pub to : is_none (place names a.to) ≡ false
  pub apart : bytes_eq a.from a.to ≡ false
  pub within : is_arc_within a ≡ true

pub not_false : (b : Bool) → not b ≡ false → b ≡ true
not_false true e = refl
not_false false e = absurd cc

pub clean_arc : (names earlier : List (List ℕ)) (a : ArcText) → arc_fault names earlier a ≡ None → IsClean names a
clean_arc names earlier a clean =
    let p = passed (is_among earlier a.id) (fault.TwiceNamed a.id) _ clean in
    let q = passed (is_none (place names a.from)) (fault.NoSuchNode a.id a.from) _ p.1 in
    let r = passed (is_none (place names a.to)) (fault.NoSuchNode a.id a.to) _ q.1 in
    let s = passed (bytes_eq a.from a.to) (fault.SameEnds a.id) _ r.1 in
    let t = passed (not (is_arc_within a)) (fault.OverLimit a.id) None s.1 in
    record { from = q.0; to = r.0; apart = s.0; within = not_false (is_arc_within a) t.0 }

arc_back : (names earlier : List (List ℕ)) (a : ArcText) → arc_fault names earlier a ≡ None → text_of names (arc_of names a) ≡ a
arc_back names earlier a clean =
    let c = clean_arc names earlier a clean in
    let from : get_or names (unwrap_or (place names a.from) 0) [] ≡ a.from = at_place names a.from _ refl c.from in
    let to : get_or names (unwrap_or (place names a.to) 0) [] ≡ a.to = at_place names a.to _ refl c.to in
    λ j. record { id = a.id; from = from j; to = to j; q_min = a.q_min; q_max = a.q_max; kind = a.kind }

arcs_back : (names earlier : List (List ℕ)) (arcs : List ArcText) → first_offence text_id (arc_fault names) earlier arcs ≡ None → map (text_of names) (map (arc_of names) arcs) ≡ arcs
arcs_back names earlier [] clean = refl
arcs_back names earlier (a ∷ rest) clean =
    let p = both_none (arc_fault names earlier a) (first_offence text_id (arc_fault names) (earlier ++ a.id ∷ []) rest) clean in
    let one = arc_back names earlier a p.0 in
    let others = arcs_back names (earlier ++ a.id ∷ []) rest p.1 in
    λ j. one j ∷ others j

-- the ids of placed arcs are those of their texts
ids_back : (nodes : List (List ℕ)) (arcs : List ArcText) → map arc_id (map (arc_of nodes) arcs) ≡ text_ids arcs
ids_back nodes [] = refl
ids_back nodes (a ∷ rest) = ap (λ l. a.id ∷ l) (ids_back nodes rest)

-- what a clean set passed
pub record IsCleanSet (arcs : List ArcText) (s : SetText) : Type 0 where
  pub arc : is_none (place (text_ids arcs) s.arc) ≡ false
  pub takes : arc_takes arcs s ≡ true

pub clean_set : (arcs : List ArcText) (group : List ℕ) (decided earlier : List (List ℕ)) (s : SetText) → set_fault arcs group decided earlier s ≡ None → IsCleanSet arcs s
clean_set arcs group decided earlier s clean =
    let p = passed (is_none (place (text_ids arcs) s.arc)) (fault.NoSuchArc group s.arc) _ clean in
    let q = passed (not (arc_takes arcs s)) (fault.NotActive group s.arc) _ p.1 in
    record { arc = p.0; takes = not_false (arc_takes arcs s) q.0 }

-- what a clean decision passed
pub record IsCleanDecision (arcs : List ArcText) (group : List ℕ) (decided : List (List ℕ)) (d : DecisionText) : Type 0 where
  pub id : is_id d.id ≡ true
  pub sets : first_offence set_key (set_fault arcs group decided) [] d.sets ≡ None

pub clean_decision : (arcs : List ArcText) (group : List ℕ) (decided earlier : List (List ℕ)) (d : DecisionText) → decision_fault arcs group decided earlier d ≡ None → IsCleanDecision arcs group decided d
clean_decision arcs group decided earlier d clean =
    let p = passed (not (is_id d.id)) (fault.OverLimit d.id) _ clean in
    let q = passed (is_among earlier d.id) (fault.TwiceNamed d.id) _ p.1 in
    record { id = not_false (is_id d.id) p.0; sets = q.1 }

-- what a clean group passed
pub record IsCleanGroup (arcs : List ArcText) (decided : List (List ℕ)) (g : GroupText) : Type 0 where
  pub id : is_id g.id ≡ true
  pub some : (length g.decisions == 0) ≡ false
  pub decisions : first_offence decision_key (decision_fault arcs g.id decided) [] g.decisions ≡ None

pub clean_group : (arcs : List ArcText) (ids decided : List (List ℕ)) (g : GroupText) → group_fault_after arcs ids decided g ≡ None → IsCleanGroup arcs decided g
clean_group arcs ids decided g clean =
    let p = passed (not (is_id g.id)) (fault.OverLimit g.id) _ clean in
    let q = passed (is_among ids g.id) (fault.TwiceNamed g.id) _ p.1 in
    let r = passed (length g.decisions == 0) (fault.EmptyGroup g.id) _ q.1 in
    record { id = not_false (is_id g.id) p.0; some = r.0; decisions = r.1 }

set_back : (arcs : List ArcText) (s : SetText) → IsCleanSet arcs s → set_text (text_ids arcs) (set_of (text_ids arcs) s) ≡ s
set_back arcs s c =
    let arc : get_or (text_ids arcs) (unwrap_or (place (text_ids arcs) s.arc) 0) [] ≡ s.arc = at_place (text_ids arcs) s.arc _ refl c.arc in
    λ j. record { arc = arc j; allow = s.allow }

sets_back : (arcs : List ArcText) (group : List ℕ) (decided earlier : List (List ℕ)) (sets : List SetText) → first_offence set_key (set_fault arcs group decided) earlier sets ≡ None
    → map (set_text (text_ids arcs)) (map (set_of (text_ids arcs)) sets) ≡ sets
sets_back arcs group decided earlier [] clean = refl
sets_back arcs group decided earlier (s ∷ rest) clean =
    let p = both_none (set_fault arcs group decided earlier s) (first_offence set_key (set_fault arcs group decided) (earlier ++ s.arc ∷ []) rest) clean in
    let one = set_back arcs s (clean_set arcs group decided earlier s p.0) in
    let others = sets_back arcs group decided (earlier ++ s.arc ∷ []) rest p.1 in
    λ j. one j ∷ others j

decision_back : (arcs : List ArcText) (group : List ℕ) (decided : List (List ℕ)) (d : DecisionText) → IsCleanDecision arcs group decided d
    → decision_text (text_ids arcs) (decision_of (text_ids arcs) d) ≡ d
decision_back arcs group decided d c =
    let sets = sets_back arcs group decided [] d.sets c.sets in
    λ j. record { id = d.id; sets = sets j }

decisions_back : (arcs : List ArcText) (group : List ℕ) (decided earlier : List (List ℕ)) (ds : List DecisionText) → first_offence decision_key (decision_fault arcs group decided) earlier ds ≡ None
    → map (decision_text (text_ids arcs)) (map (decision_of (text_ids arcs)) ds) ≡ ds
decisions_back arcs group decided earlier [] clean = refl
decisions_back arcs group decided earlier (d ∷ rest) clean =
    let p = both_none (decision_fault arcs group decided earlier d) (first_offence decision_key (decision_fault arcs group decided) (earlier ++ d.id ∷ []) rest) clean in
    let one = decision_back arcs group decided d (clean_decision arcs group decided earlier d p.0) in
    let others = decisions_back arcs group decided (earlier ++ d.id ∷ []) rest p.1 in
    λ j. one j ∷ others j

groups_back : (arcs : List ArcText) (earlier gs : List GroupText) → first_offence (λ g. g) (group_fault arcs) earlier gs ≡ None
    → map (group_text (text_ids arcs)) (map (group_of (text_ids arcs)) gs) ≡ gs
groups_back arcs earlier [] clean = refl
groups_back arcs earlier (g ∷ rest) clean =
    let p = both_none (group_fault arcs earlier g) (first_offence (λ g. g) (group_fault arcs) (earlier ++ g ∷ []) rest) clean in
    let c = clean_group arcs (group_ids earlier) (decided_by earlier) g p.0 in
    let decisions = decisions_back arcs g.id (decided_by earlier) [] g.decisions c.decisions in
    let others = groups_back arcs (earlier ++ g ∷ []) rest p.1 in
    λ j. record { id = g.id; decisions = decisions j } ∷ others j

-- what clean rows passed
pub record AreClean (rows : Rows) : Type 0 where
  pub counts : count_fault rows.nodes rows.arcs ≡ None
  pub group_counts : group_count_fault rows.groups ≡ None
  pub nodes : nodes_fault rows.nodes ≡ None
  pub arcs : arcs_fault (node_ids rows.nodes) rows.arcs ≡ None
  pub groups : groups_fault rows.arcs rows.groups ≡ None

pub clean_rows : (rows : Rows) → rows_fault rows ≡ None → AreClean rows
clean_rows rows clean =
    let p = both_none (count_fault rows.nodes rows.arcs) _ clean in
    let q = both_none (group_count_fault rows.groups) _ p.1 in
    let r = both_none (nodes_fault rows.nodes) _ q.1 in
    let s = both_none (arcs_fault (node_ids rows.nodes) rows.arcs) _ r.1 in
    record { counts = p.0; group_counts = q.0; nodes = r.0; arcs = s.0; groups = s.1 }

-- the rows that made a problem are its rows
pub rows_back : (rows : Rows) → AreClean rows → rows_of (network_of rows) ≡ rows
rows_back rows c =
    let arcs = arcs_back (node_ids rows.nodes) [] rows.arcs c.arcs in
    let groups : map (group_text (map arc_id (network_of rows).arcs)) (network_of rows).groups ≡ rows.groups =
    ap (λ ids. map (group_text ids) (map (group_of (text_ids rows.arcs)) rows.groups)) (ids_back (node_ids rows.nodes) rows.arcs) ∙ groups_back rows.arcs [] rows.groups c.groups in
    λ j. record { nodes = rows.nodes; arcs = arcs j; groups = groups j }

pub made : (rows : Rows) → rows_fault rows ≡ None → IsProblem (network_of rows)
made rows clean = ap problem_of (rows_back rows (clean_rows rows clean)) ∙ ap (λ o. answer o (network_of rows)) clean

-- what was placed is the network of the rows
pub placed : (rows : Rows) (x : Placed) → IsPlaced rows x → network_of rows ≡ record { nodes = rows.nodes; arcs = x.arcs; groups = x.groups }
placed rows x p =
    let arcs : x.arcs ≡ map (arc_of (node_ids rows.nodes)) rows.arcs = p.arcs in
    let groups : x.groups ≡ map (group_of (text_ids rows.arcs)) rows.groups = p.groups in
    λ j. record { nodes = rows.nodes; arcs = (sym arcs) j; groups = (sym groups) j }
