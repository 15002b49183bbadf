-- What a problem tells of its ids and of its decisions.
use Rattle.std.proofs.Common.{◌≡◌, ℕ, zero, suc, ◌<◌, ◌≤◌, ◌&&◌, not, List, [], ◌∷◌, ◌++◌, length, map, get_or, position, Bool, true, false, cond, Option, Some, None, Ok, IsUtf8, bytes_eq, refl, sym, ap, ◌∙◌, subst, arith}
use Rattle.std.specs.Prelude.{◌==◌, ⊤, nat_le, slice_get}
use Rattle.std.specs.List.{list_all, position_or_len}
use Rattle.std.specs.Option.{option_or, option_map_or}
use Rattle.std.specs.Str.{is_utf8}
use Rattle.std.proofs.lemmas.Bool.{and_parts, or_parts, leb-true, lt-ltb}
use Rattle.std.proofs.lemmas.List.Folds.{list_any-append}
use Rattle.std.proofs.lemmas.List.Sums.{position_or_len_is}
use Rattle.std.proofs.lemmas.Option.{slice_get_within, get_or_from_slice_get}
use Rattle.std.proofs.lemmas.Slice.Eq.{bytes_eq-Decides}
use Rattle.std.proofs.lemmas.Str.{IsUtf8-from_is_utf8, IsUtf8-nil}
use Rattle.gas_model.specs.declared.rows.NodeRow.{NodeRow}
use Rattle.gas_model.specs.declared.rows.ArcRow.{ArcRow}
use Rattle.gas_model.specs.declared.rows.ArcText.{ArcText}
use Rattle.gas_model.specs.declared.rows.Decision.{Decision}
use Rattle.gas_model.specs.declared.rows.Group.{Group}
use Rattle.gas_model.specs.declared.rows.GroupText.{GroupText}
use Rattle.gas_model.specs.declared.rows.ModelFault.{ModelFault}
use Rattle.gas_model.specs.declared.rows.ModelFault.TheVariants as model
use Rattle.base_types.specs.Ids.{is_id, has_id_form}
use Rattle.base_types.specs.Numbers.{is_flow, is_pressure}
use Rattle.gas_model.specs.Limits.{is_kind_within}
use Rattle.gas_model.specs.Rows.{Network, IsProblem, answer, rows_of, rows_fault, count_fault, group_count_fault, nodes_fault, arcs_fault, group_fault, decision_fault, decision_key, first_offence, node_ids, arc_id, group_text, decision_text, group_ids, decided_by}
use Rattle.base_types.specs.Names.{is_among}
use Rattle.gas_model.specs.Within.{IsWithin, is_group_within, is_decision_within}
use Rattle.setting_text.specs.Writing.{decision_id}
use Rattle.setting_text.specs.Reading.{HaveFewDecisions, decision_place}
use Rattle.setting_text.proofs.Pairs.{all_at}

-- ---- few decisions

-- a group within its limits
few_in : (arcs : List ArcRow) (g : Group) → is_group_within arcs g ≡ true → length g.decisions ≤ 1024
few_in arcs g e =
    let front = (and_parts (is_id g.id && not (length g.decisions == 0) && nat_le (length g.decisions) 1024) (list_all (is_decision_within arcs) g.decisions) e).0 in
    leb-true (length g.decisions) 1024 (and_parts (is_id g.id && not (length g.decisions == 0)) (nat_le (length g.decisions) 1024) front).1

-- the groups of a problem
pub few_decisions : (p : Network) → IsWithin p → HaveFewDecisions p.groups
few_decisions p w = λ k g e. few_in p.arcs g (w.groups k g e)

-- ---- ids are UTF-8

-- an id
utf8_id : (id : List ℕ) → is_id id ≡ true → IsUtf8 id
utf8_id id e = IsUtf8-from_is_utf8 id (and_parts (has_id_form id) (is_utf8 id) e).1

pub utf8_arc : (p : Network) → IsWithin p → (k : ℕ) (a : ArcRow) → slice_get p.arcs k ≡ Some a → IsUtf8 a.id
utf8_arc p w k a e =
    let three = (and_parts (is_id a.id && is_flow a.q_min && is_flow a.q_max) (is_kind_within a.kind) (w.arcs k a e)).0 in
    let two = (and_parts (is_id a.id && is_flow a.q_min) (is_flow a.q_max) three).0 in
    utf8_id a.id (and_parts (is_id a.id) (is_flow a.q_min) two).0

pub utf8_node : (p : Network) → IsWithin p → (k : ℕ) (n : NodeRow) → slice_get p.nodes k ≡ Some n → IsUtf8 n.id
utf8_node p w k n e =
    let four = (and_parts (is_id n.id && is_pressure n.p_min && is_pressure n.p_max && is_flow n.b_min) (is_flow n.b_max) (w.nodes k n e)).0 in
    let three = (and_parts (is_id n.id && is_pressure n.p_min && is_pressure n.p_max) (is_flow n.b_min) four).0 in
    let two = (and_parts (is_id n.id && is_pressure n.p_min) (is_pressure n.p_max) three).0 in
    utf8_id n.id (and_parts (is_id n.id) (is_pressure n.p_min) two).0

pub utf8_group : (p : Network) → IsWithin p → (k : ℕ) (g : Group) → slice_get p.groups k ≡ Some g → IsUtf8 g.id
utf8_group p w k g e =
    let three = (and_parts (is_id g.id && not (length g.decisions == 0) && nat_le (length g.decisions) 1024) (list_all (is_decision_within p.arcs) g.decisions) (w.groups k g e)).0 in
    let two = (and_parts (is_id g.id && not (length g.decisions == 0)) (nat_le (length g.decisions) 1024) three).0 in
    utf8_id g.id (and_parts (is_id g.id) (not (length g.decisions == 0)) two).0

pub utf8_decision : (p : Network) → IsWithin p → (k : ℕ) (g : Group) (j : ℕ) → slice_get p.groups k ≡ Some g → IsUtf8 (decision_id g j)
utf8_decision p w k g j e = by (slice_get g.decisions j) refl
  where
    all : list_all (is_decision_within p.arcs) g.decisions ≡ true
    all = (and_parts (is_id g.id && not (length g.decisions == 0) && nat_le (length g.decisions) 1024) (list_all (is_decision_within p.arcs) g.decisions) (w.groups k g e)).1

    by : (o : Option Decision) → slice_get g.decisions j ≡ o → IsUtf8 (option_map_or (λ d. d.id) o [])
    by None f = IsUtf8-nil
    by (Some d) f = utf8_id d.id (and_parts (is_id d.id) _ (all_at (is_decision_within p.arcs) g.decisions j d all f)).0

-- ---- the decisions of a group have different ids

-- no id is among these or among those before it
abbrev Distinct : List (List ℕ) → List Decision → Type 0
Distinct earlier [] = ⊤
Distinct earlier (d ∷ ds) = (is_among earlier d.id ≡ false) × Distinct (earlier ++ d.id ∷ []) ds

-- no offence in either place
no_first : (o : Option ModelFault) (q : Option ModelFault) → option_or o q ≡ None → (o ≡ None) × (q ≡ None)
no_first None q e = (refl, e)
no_first (Some f) q e = absurd cc

-- no offence by a test
no_test : (b : Bool) (f : ModelFault) (o : Option ModelFault) → cond b (Some f) o ≡ None → (b ≡ false) × (o ≡ None)
no_test true f o e = absurd cc
no_test false f o e = (refl, e)

-- rows that make a problem have no offence
no_fault : (o : Option ModelFault) (n p : Network) → answer o n ≡ Ok p → o ≡ None
no_fault None n p e = refl
no_fault (Some f) n p e = absurd cc

-- the decisions of a text
distinct_from : (arcs : List ArcText) (id : List ℕ) (decided ids earlier : List (List ℕ)) (ds : List Decision)
    → first_offence decision_key (decision_fault arcs id decided) earlier (map (decision_text ids) ds) ≡ None → Distinct earlier ds
distinct_from arcs id decided ids earlier [] e = tt
distinct_from arcs id decided ids earlier (d ∷ ds) e =
    let p = no_first (decision_fault arcs id decided earlier (decision_text ids d)) _ e in
    let q = no_test (not (is_id d.id)) (model.OverLimit d.id) _ p.0 in
    let r = no_test (is_among earlier d.id) (model.TwiceNamed d.id) _ q.1 in
    (r.0, distinct_from arcs id decided ids (earlier ++ d.id ∷ []) ds p.1)

-- the decisions of each group of a text
distinct_in : (arcs : List ArcText) (ids : List (List ℕ)) (earlier : List GroupText) (groups : List Group)
    → first_offence (λ g. g) (group_fault arcs) earlier (map (group_text ids) groups) ≡ None
    → (k : ℕ) (g : Group) → slice_get groups k ≡ Some g → Distinct [] g.decisions
distinct_in arcs ids earlier [] e k g at = absurd cc
distinct_in arcs ids earlier (h ∷ groups) e zero g at =
    let p = no_first (group_fault arcs earlier (group_text ids h)) _ e in
    let q = no_test (not (is_id h.id)) (model.OverLimit h.id) _ p.0 in
    let r = no_test (is_among (group_ids earlier) h.id) (model.TwiceNamed h.id) _ q.1 in
    let s = no_test (length (map (decision_text ids) h.decisions) == 0) (model.EmptyGroup h.id) _ r.1 in
    let same : h ≡ g = cc in
    subst (λ (x : Group). Distinct [] x.decisions) same (distinct_from arcs h.id (decided_by earlier) ids [] h.decisions s.1)
distinct_in arcs ids earlier (h ∷ groups) e (suc k) g at =
    let p = no_first (group_fault arcs earlier (group_text ids h)) _ e in
    distinct_in arcs ids (earlier ++ group_text ids h ∷ []) groups p.1 k g at

-- the decisions of each group of a problem
pub distinct : (p : Network) → IsProblem p → (k : ℕ) (g : Group) → slice_get p.groups k ≡ Some g → Distinct [] g.decisions
distinct p e =
    let r = rows_of p in
    let none = no_fault (rows_fault r) _ p e in
    let q = no_first (count_fault r.nodes r.arcs) _ none in
    let s = no_first (group_count_fault r.groups) _ q.1 in
    let t = no_first (nodes_fault r.nodes) _ s.1 in
    let u = no_first (arcs_fault (node_ids r.nodes) r.arcs) _ t.1 in
    distinct_in r.arcs (map arc_id p.arcs) [] p.groups u.1

-- the id of a decision is not among those before the list
later : (earlier : List (List ℕ)) (ds : List Decision) (j : ℕ) (d : Decision) → Distinct earlier ds → slice_get ds j ≡ Some d → is_among earlier d.id ≡ false
later earlier [] j d h at = absurd cc
later earlier (x ∷ ds) zero d h at = let same : x ≡ d = cc in subst (λ (y : Decision). is_among earlier y.id ≡ false) same h.0
later earlier (x ∷ ds) (suc j) d h at =
    (or_parts (is_among earlier d.id) (is_among (x.id ∷ []) d.id) (sym (list_any-append (bytes_eq d.id) earlier (x.id ∷ [])) ∙ later (earlier ++ x.id ∷ []) ds j d h.1 at)).0

-- nor is it that of one before it
apart : (earlier : List (List ℕ)) (ds : List Decision) (j : ℕ) (d : Decision) → Distinct earlier ds → slice_get ds j ≡ Some d → (k : ℕ) → k < j → bytes_eq d.id (get_or ds k d).id ≡ false
apart earlier [] j d h at k below = absurd cc
apart earlier (x ∷ ds) zero d h at k below = absurd (omega arith)
apart earlier (x ∷ ds) (suc j) d h at zero below =
    let tail = (or_parts (is_among earlier d.id) (is_among (x.id ∷ []) d.id) (sym (list_any-append (bytes_eq d.id) earlier (x.id ∷ [])) ∙ later (earlier ++ x.id ∷ []) ds j d h.1 at)).1 in
    (or_parts (bytes_eq d.id x.id) false tail).0
apart earlier (x ∷ ds) (suc j) d h at (suc k) below = apart (earlier ++ x.id ∷ []) ds j d h.1 at k (omega arith)

-- a text is itself
pub same_bytes : (id : List ℕ) → bytes_eq id id ≡ true
same_bytes id = (bytes_eq-Decides id id).1 refl

-- a decision is the first of its id
first_of_id : (ds : List Decision) (j : ℕ) (d : Decision) → Distinct [] ds → slice_get ds j ≡ Some d → position (λ x. bytes_eq d.id x.id) ds ≡ Some j
first_of_id ds j d h at =
    let within : j < length ds = slice_get_within ds j d at in
    let here = get_or_from_slice_get ds j d d at in
    let place : position_or_len (λ x. bytes_eq d.id x.id) ds ≡ j =
    position_or_len_is (λ x. bytes_eq d.id x.id) ds j d (omega arith) (apart [] ds j d h at) (λ _. ap (λ (x : Decision). bytes_eq d.id x.id) here ∙ same_bytes d.id) in
    rw (place, lt-ltb j (length ds) within) refl

-- an item within a list is there
pub is_there : {A : Type 0} (xs : List A) (j : ℕ) → j < length xs → slice_get xs j ≡ None → ⊥
is_there [] j below e = omega arith
is_there (x ∷ xs) zero below e = cc
is_there (x ∷ xs) (suc j) below e = is_there xs j (omega arith) e

-- the place of a decision by its id
pub place_back : (p : Network) → IsProblem p → (k : ℕ) (g : Group) (j : ℕ) → slice_get p.groups k ≡ Some g → j < length g.decisions → decision_place g (decision_id g j) ≡ Some j
place_back p e k g j at within = by (slice_get g.decisions j) refl
  where
    by : (o : Option Decision) → slice_get g.decisions j ≡ o → position (λ x. bytes_eq (option_map_or (λ d. d.id) o []) x.id) g.decisions ≡ Some j
    by None f = absurd (is_there g.decisions j within f)
    by (Some d) f = first_of_id g.decisions j d (distinct p e k g at) f
