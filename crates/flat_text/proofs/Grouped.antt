-- Rows are items in order, and items in order are rows.
use Rattle.std.proofs.Common.{◌≡◌, ℕ, List, [], ◌∷◌, ◌++◌, map, true, refl, sym, ap, subst, ◌∙◌, append_assoc}
use Rattle.std.specs.List.{flat_map}
use Rattle.gas_model.specs.declared.rows.NodeRow.{NodeRow}
use Rattle.gas_model.specs.declared.rows.ArcText.{ArcText}
use Rattle.gas_model.specs.declared.rows.SetText.{SetText}
use Rattle.gas_model.specs.declared.rows.DecisionText.{DecisionText}
use Rattle.gas_model.specs.declared.rows.GroupText.{GroupText}
use Rattle.gas_model.specs.declared.rows.Rows.{Rows}
use Rattle.flat_text.specs.declared.line.Item.{Item}
use Rattle.flat_text.specs.declared.line.Item.TheVariants.{Node, Arc, Group, Decision, Set}
use Rattle.flat_text.specs.declared.line.Part.{Part}
use Rattle.flat_text.specs.declared.line.Part.TheVariants as part
use Rattle.flat_text.specs.Line.{may_stand, part_after}
use Rattle.flat_text.specs.Items.{nodes_in, arcs_in, sets_before, decisions_before, groups_in, rows_in}

abbrev pub node_items : List NodeRow → List Item
node_items nodes = map (λ n. Node n) nodes

abbrev pub arc_items : List ArcText → List Item
arc_items arcs = map (λ a. Arc a) arcs

abbrev pub set_items : List SetText → List Item
set_items sets = map (λ s. Set s) sets

abbrev pub decision_items : DecisionText → List Item
decision_items d = Decision d.id ∷ set_items d.sets

abbrev pub group_items : GroupText → List Item
group_items g = Group g.id ∷ flat_map decision_items g.decisions

-- the items of rows, in order
abbrev pub items_of : Rows → List Item
items_of rows = node_items rows.nodes ++ (arc_items rows.arcs ++ flat_map group_items rows.groups)

-- each item stands at its place
abbrev pub AreStanding : Part → List Item → Type 0
AreStanding place [] = Unit {0}
AreStanding place (x ∷ xs) = (may_stand place x ≡ true) × AreStanding (part_after x) xs

-- ---- the rows of standing items have these items

abbrev decided : List Item → List Item
decided xs = flat_map decision_items (decisions_before xs) ++ flat_map group_items (groups_in xs)

abbrev Kept : Part → List Item → Type 0
Kept part.Nodes xs = items_of (rows_in xs) ≡ xs
Kept part.Arcs xs = (nodes_in xs ≡ []) × (arc_items (arcs_in xs) ++ flat_map group_items (groups_in xs) ≡ xs)
Kept part.Group xs = (nodes_in xs ≡ []) × (arcs_in xs ≡ []) × (decided xs ≡ xs)
Kept part.Decision xs = (nodes_in xs ≡ []) × (arcs_in xs ≡ []) × (set_items (sets_before xs) ++ decided xs ≡ xs)

none_kept : (place : Part) → Kept place []
none_kept part.Nodes = refl
none_kept part.Arcs = (refl, refl)
none_kept part.Group = (refl, refl, refl)
none_kept part.Decision = (refl, refl, refl)

decision_kept : (id : List ℕ) (xs : List Item) → set_items (sets_before xs) ++ decided xs ≡ xs → decided (Decision id ∷ xs) ≡ Decision id ∷ xs
decision_kept id xs e =
    append_assoc (Decision id ∷ set_items (sets_before xs)) (flat_map decision_items (decisions_before xs)) (flat_map group_items (groups_in xs)) ∙ ap (λ (l : List Item). Decision id ∷ l) e

one_kept : (place : Part) (x : Item) (xs : List Item) → may_stand place x ≡ true → Kept (part_after x) xs → Kept place (x ∷ xs)
one_kept part.Nodes (Node n) xs stands kept = ap (λ (l : List Item). Node n ∷ l) kept
one_kept part.Nodes (Arc a) xs stands kept =
    ap (λ (l : List NodeRow). node_items l ++ (arc_items (a ∷ arcs_in xs) ++ flat_map group_items (groups_in xs))) kept.0 ∙ ap (λ (l : List Item). Arc a ∷ l) kept.1
one_kept part.Nodes (Group id) xs stands kept =
    ap (λ (l : List NodeRow). node_items l ++ (arc_items (arcs_in xs) ++ (Group id ∷ decided xs))) kept.0
    ∙ ap (λ (l : List ArcText). arc_items l ++ (Group id ∷ decided xs)) kept.1 ∙ ap (λ (l : List Item). Group id ∷ l) kept.2
one_kept part.Nodes (Decision id) xs stands kept = absurd cc
one_kept part.Nodes (Set s) xs stands kept = absurd cc
one_kept part.Arcs (Node n) xs stands kept = absurd cc
one_kept part.Arcs (Arc a) xs stands kept = (kept.0, ap (λ (l : List Item). Arc a ∷ l) kept.1)
one_kept part.Arcs (Group id) xs stands kept =
    (kept.0, ap (λ (l : List ArcText). arc_items l ++ (Group id ∷ decided xs)) kept.1 ∙ ap (λ (l : List Item). Group id ∷ l) kept.2)
one_kept part.Arcs (Decision id) xs stands kept = absurd cc
one_kept part.Arcs (Set s) xs stands kept = absurd cc
one_kept part.Group (Node n) xs stands kept = absurd cc
one_kept part.Group (Arc a) xs stands kept = absurd cc
one_kept part.Group (Group id) xs stands kept = (kept.0, kept.1, ap (λ (l : List Item). Group id ∷ l) kept.2)
one_kept part.Group (Decision id) xs stands kept = (kept.0, kept.1, decision_kept id xs kept.2)
one_kept part.Group (Set s) xs stands kept = absurd cc
one_kept part.Decision (Node n) xs stands kept = absurd cc
one_kept part.Decision (Arc a) xs stands kept = absurd cc
one_kept part.Decision (Group id) xs stands kept = (kept.0, kept.1, ap (λ (l : List Item). Group id ∷ l) kept.2)
one_kept part.Decision (Decision id) xs stands kept = (kept.0, kept.1, decision_kept id xs kept.2)
one_kept part.Decision (Set s) xs stands kept = (kept.0, kept.1, ap (λ (l : List Item). Set s ∷ l) kept.2)

all_kept : (place : Part) (xs : List Item) → AreStanding place xs → Kept place xs
all_kept place [] stand = none_kept place
all_kept place (x ∷ xs) stand = one_kept place x xs stand.0 (all_kept (part_after x) xs stand.1)

pub items_kept : (xs : List Item) → AreStanding part.Nodes xs → items_of (rows_in xs) ≡ xs
items_kept xs stand = all_kept part.Nodes xs stand

-- ---- the items of rows stand at their places

group_stands : (place : Part) (id : List ℕ) → may_stand place (Group id) ≡ true
group_stands part.Nodes id = refl
group_stands part.Arcs id = refl
group_stands part.Group id = refl
group_stands part.Decision id = refl

sets_stand : (sets : List SetText) (rest : List Item) → AreStanding part.Decision rest → AreStanding part.Decision (set_items sets ++ rest)
sets_stand [] rest h = h
sets_stand (s ∷ sets) rest h = (refl, sets_stand sets rest h)

-- whether a decision or the next group comes next
abbrev StandIn : List Item → Type 0
StandIn xs = AreStanding part.Group xs × AreStanding part.Decision xs

decisions_stand : (decisions : List DecisionText) (rest : List Item) → StandIn rest → StandIn (flat_map decision_items decisions ++ rest)
decisions_stand [] rest h = h
decisions_stand (d ∷ decisions) rest h =
    let others : List Item = flat_map decision_items decisions ++ rest in
    let stand : AreStanding part.Decision (set_items d.sets ++ others) = sets_stand d.sets others (decisions_stand decisions rest h).1 in
    let here : StandIn (Decision d.id ∷ (set_items d.sets ++ others)) = ((refl, stand), (refl, stand)) in
    subst StandIn (sym (append_assoc (decision_items d) (flat_map decision_items decisions) rest)) here

groups_stand : (place : Part) (groups : List GroupText) → AreStanding place (flat_map group_items groups)
groups_stand place [] = tt
groups_stand place (g ∷ groups) =
    (group_stands place g.id, (decisions_stand g.decisions (flat_map group_items groups) (groups_stand part.Group groups, groups_stand part.Decision groups)).0)

arcs_stand : (arcs : List ArcText) (groups : List GroupText) → AreStanding part.Nodes (arc_items arcs ++ flat_map group_items groups) × AreStanding part.Arcs (arc_items arcs ++ flat_map group_items groups)
arcs_stand [] groups = (groups_stand part.Nodes groups, groups_stand part.Arcs groups)
arcs_stand (a ∷ arcs) groups = let h = (arcs_stand arcs groups).1 in ((refl, h), (refl, h))

nodes_stand : (nodes : List NodeRow) (rest : List Item) → AreStanding part.Nodes rest → AreStanding part.Nodes (node_items nodes ++ rest)
nodes_stand [] rest h = h
nodes_stand (n ∷ nodes) rest h = (refl, nodes_stand nodes rest h)

pub items_stand : (rows : Rows) → AreStanding part.Nodes (items_of rows)
items_stand rows = nodes_stand rows.nodes (arc_items rows.arcs ++ flat_map group_items rows.groups) (arcs_stand rows.arcs rows.groups).0

-- ---- the items of rows make these rows

-- what looks past sets
past_sets : {A : Type 0} (f : List Item → A) → ((s : SetText) (xs : List Item) → f (Set s ∷ xs) ≡ f xs) → (sets : List SetText) (rest : List Item) → f (set_items sets ++ rest) ≡ f rest
past_sets f skips [] rest = refl
past_sets f skips (s ∷ sets) rest = skips s (set_items sets ++ rest) ∙ past_sets f skips sets rest

-- what looks past decisions
past_decisions : {A : Type 0} (f : List Item → A) → ((s : SetText) (xs : List Item) → f (Set s ∷ xs) ≡ f xs) → ((id : List ℕ) (xs : List Item) → f (Decision id ∷ xs) ≡ f xs)
    → (decisions : List DecisionText) (rest : List Item) → f (flat_map decision_items decisions ++ rest) ≡ f rest
past_decisions f sets skips [] rest = refl
past_decisions f sets skips (d ∷ decisions) rest =
    let others : List Item = flat_map decision_items decisions ++ rest in
    ap f (append_assoc (decision_items d) (flat_map decision_items decisions) rest) ∙ skips d.id (set_items d.sets ++ others) ∙ past_sets f sets d.sets others ∙ past_decisions f sets skips decisions rest

-- what looks past groups
past_groups : {A : Type 0} (f : List Item → A) → ((s : SetText) (xs : List Item) → f (Set s ∷ xs) ≡ f xs) → ((id : List ℕ) (xs : List Item) → f (Decision id ∷ xs) ≡ f xs)
    → ((id : List ℕ) (xs : List Item) → f (Group id ∷ xs) ≡ f xs) → (groups : List GroupText) → f (flat_map group_items groups) ≡ f []
past_groups f sets decisions skips [] = refl
past_groups f sets decisions skips (g ∷ groups) =
    skips g.id (flat_map decision_items g.decisions ++ flat_map group_items groups) ∙ past_decisions f sets decisions g.decisions (flat_map group_items groups) ∙ past_groups f sets decisions skips groups

sets_back : (sets : List SetText) (rest : List Item) → sets_before rest ≡ [] → sets_before (set_items sets ++ rest) ≡ sets
sets_back [] rest h = h
sets_back (s ∷ sets) rest h = ap (λ (l : List SetText). s ∷ l) (sets_back sets rest h)

-- no set stands in front of decisions
no_sets : (decisions : List DecisionText) (rest : List Item) → sets_before rest ≡ [] → sets_before (flat_map decision_items decisions ++ rest) ≡ []
no_sets [] rest h = h
no_sets (d ∷ decisions) rest h = refl

decisions_back : (decisions : List DecisionText) (rest : List Item) → sets_before rest ≡ [] → decisions_before rest ≡ [] → decisions_before (flat_map decision_items decisions ++ rest) ≡ decisions
decisions_back [] rest sets h = h
decisions_back (d ∷ decisions) rest sets h =
    let others : List Item = flat_map decision_items decisions ++ rest in
    let own = sets_back d.sets others (no_sets decisions rest sets) in
    let more = past_sets decisions_before (λ _ _. refl) d.sets others ∙ decisions_back decisions rest sets h in
    ap decisions_before (append_assoc (decision_items d) (flat_map decision_items decisions) rest) ∙ (λ j. record { id = d.id; sets = own j } ∷ more j)

-- neither a set nor a decision stands in front of groups
groups_front : (groups : List GroupText) → (sets_before (flat_map group_items groups) ≡ []) × (decisions_before (flat_map group_items groups) ≡ [])
groups_front [] = (refl, refl)
groups_front (g ∷ groups) = (refl, refl)

groups_back : (groups : List GroupText) → groups_in (flat_map group_items groups) ≡ groups
groups_back [] = refl
groups_back (g ∷ groups) =
    let rest : List Item = flat_map group_items groups in
    let own = decisions_back g.decisions rest (groups_front groups).0 (groups_front groups).1 in
    let more = past_decisions groups_in (λ _ _. refl) (λ _ _. refl) g.decisions rest ∙ groups_back groups in
    λ j. record { id = g.id; decisions = own j } ∷ more j

module _ (groups : List GroupText) where
  abbrev tail : List Item
  tail = flat_map group_items groups

  arcs_back : (arcs : List ArcText) → (nodes_in (arc_items arcs ++ tail) ≡ []) × (arcs_in (arc_items arcs ++ tail) ≡ arcs) × (groups_in (arc_items arcs ++ tail) ≡ groups)
  arcs_back [] = (
    past_groups nodes_in (λ _ _. refl) (λ _ _. refl) (λ _ _. refl) groups,
    past_groups arcs_in (λ _ _. refl) (λ _ _. refl) (λ _ _. refl) groups,
    groups_back groups,
  )
  arcs_back (a ∷ arcs) = let h = arcs_back arcs in (h.0, ap (λ (l : List ArcText). a ∷ l) h.1, h.2)

  nodes_back : (nodes : List NodeRow) (arcs : List ArcText) → rows_in (node_items nodes ++ (arc_items arcs ++ tail)) ≡ record { nodes = nodes; arcs = arcs; groups = groups }
  nodes_back [] arcs = let h = arcs_back arcs in (λ j. record { nodes = h.0 j; arcs = h.1 j; groups = h.2 j })
  nodes_back (n ∷ nodes) arcs = ap (λ (r : Rows). record { nodes = n ∷ r.nodes; arcs = r.arcs; groups = r.groups }) (nodes_back nodes arcs)

pub rows_back : (rows : Rows) → rows_in (items_of rows) ≡ rows
rows_back rows = nodes_back rows.groups rows.nodes rows.arcs
