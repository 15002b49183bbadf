-- What rows make a problem, and the first offence of other rows.
use Rattle.std.specs.Prelude.{◌≡◌, ℕ, ◌||◌, ◌==◌, not, nat_le, List, [], ◌∷◌, ◌++◌, length, map, Bool, true, false, if◌then◌else◌, Option, Some, None, is_none, unwrap_or, option_and_then, Result, Ok, Err, slice_index_or, slice_get}
use Rattle.std.specs.List.{list_all, flat_map}
use Rattle.std.specs.Str.{bytes_eq}
use Rattle.std.specs.Option.{option_or, option_map_or}
use Rattle.gas_model.specs.declared.rows.NodeRow.{NodeRow}
use Rattle.gas_model.specs.declared.rows.ArcKind.{ArcKind}
use Rattle.gas_model.specs.declared.rows.ArcKind.TheVariants.{Pipe, Short, Resist, Loss, Valve, Control, Station}
use Rattle.gas_model.specs.declared.rows.ArcText.{ArcText}
use Rattle.gas_model.specs.declared.rows.ArcRow.{ArcRow}
use Rattle.base_types.specs.declared.states.Allow.{Allow}
use Rattle.base_types.specs.declared.states.Allow.TheVariants.{Opened, Shut}
use Rattle.gas_model.specs.declared.rows.SetText.{SetText}
use Rattle.gas_model.specs.declared.rows.DecisionText.{DecisionText}
use Rattle.gas_model.specs.declared.rows.GroupText.{GroupText}
use Rattle.gas_model.specs.declared.rows.Decision.{Decision}
use Rattle.gas_model.specs.declared.rows.Group.{Group}
use Rattle.gas_model.specs.declared.rows.Rows.{Rows}
use Rattle.gas_model.specs.declared.rows.Many.TheVariants as many
use Rattle.gas_model.specs.declared.rows.ModelFault.{ModelFault}
use Rattle.gas_model.specs.declared.rows.ModelFault.TheVariants as fault
use Rattle.base_types.specs.Ids.{is_id}
use Rattle.base_types.specs.Names.{place, is_among}
use Rattle.gas_model.specs.Limits.{is_node_within, is_arc_within}

-- what contracts see of a problem: its rows, with positions in place of names
pub record Network : Type 0 where
  pub nodes : List NodeRow
  pub arcs : List ArcRow
  pub groups : List Group

-- the first offence in a list, where the check of an item sees the keys of the items before it
abbrev pub first_offence : {A K F : Type 0} → (A → K) → (List K → A → Option F) → List K → List A → Option F
first_offence key check earlier [] = None
first_offence key check earlier (x ∷ xs) = option_or (check earlier x) (first_offence key check (earlier ++ key x ∷ []) xs)

abbrev pub node_id : NodeRow → List ℕ
node_id n = n.id

abbrev pub text_id : ArcText → List ℕ
text_id a = a.id

abbrev pub node_ids : List NodeRow → List (List ℕ)
node_ids nodes = map node_id nodes

abbrev pub text_ids : List ArcText → List (List ℕ)
text_ids arcs = map text_id arcs

-- what is wrong with a node, after nodes of these ids
abbrev pub node_fault : List (List ℕ) → NodeRow → Option ModelFault
node_fault earlier n =
    if not (is_node_within n) then Some (fault.OverLimit n.id)
    else if is_among earlier n.id then Some (fault.TwiceNamed n.id)
    else None

-- the first offence of nodes
abbrev pub nodes_fault : List NodeRow → Option ModelFault
nodes_fault nodes = first_offence node_id node_fault [] nodes

-- what is wrong with an arc between nodes of these ids, after arcs of these ids
abbrev pub arc_fault : List (List ℕ) → List (List ℕ) → ArcText → Option ModelFault
arc_fault nodes earlier a =
    if is_among earlier a.id then Some (fault.TwiceNamed a.id)
    else if is_none (place nodes a.from) then Some (fault.NoSuchNode a.id a.from)
    else if is_none (place nodes a.to) then Some (fault.NoSuchNode a.id a.to)
    else if bytes_eq a.from a.to then Some (fault.SameEnds a.id)
    else if not (is_arc_within a) then Some (fault.OverLimit a.id)
    else None

-- the first offence of arcs
abbrev pub arcs_fault : List (List ℕ) → List ArcText → Option ModelFault
arcs_fault nodes arcs = first_offence text_id (arc_fault nodes) [] arcs

-- which kinds may be decided, and by which words
abbrev pub takes : ArcKind → Allow → Bool
takes Valve Opened = true
takes Valve Shut = true
takes Valve word = false
takes (Control in_min out_max red_min red_max) Opened = false
takes (Control in_min out_max red_min red_max) word = true
takes (Station in_min out_max ratio_num ratio_den rise_max) Opened = false
takes (Station in_min out_max ratio_num ratio_den rise_max) word = true
takes (Pipe law) word = false
takes Short word = false
takes (Resist law) word = false
takes (Loss low high) word = false

-- the arc of this id takes the word
abbrev pub arc_takes : List ArcText → SetText → Bool
arc_takes arcs s = option_map_or (λ a. takes a.kind s.allow) (option_and_then (slice_get arcs) (place (text_ids arcs) s.arc)) false

abbrev pub set_key : SetText → List ℕ
set_key s = s.arc

-- what is wrong with a word for an arc, after words for these arcs in its decision and in the groups before
abbrev pub set_fault : List ArcText → List ℕ → List (List ℕ) → List (List ℕ) → SetText → Option ModelFault
set_fault arcs group decided earlier s =
    if is_none (place (text_ids arcs) s.arc) then Some (fault.NoSuchArc group s.arc)
    else if not (arc_takes arcs s) then Some (fault.NotActive group s.arc)
    else if is_among earlier s.arc || is_among decided s.arc then Some (fault.TwiceDecided s.arc)
    else None

-- what is wrong with a decision, after decisions of these ids in its group
abbrev pub decision_fault : List ArcText → List ℕ → List (List ℕ) → List (List ℕ) → DecisionText → Option ModelFault
decision_fault arcs group decided earlier d =
    if not (is_id d.id) then Some (fault.OverLimit d.id)
    else if is_among earlier d.id then Some (fault.TwiceNamed d.id)
    else first_offence set_key (set_fault arcs group decided) [] d.sets

abbrev pub decision_key : DecisionText → List ℕ
decision_key d = d.id

abbrev pub group_ids : List GroupText → List (List ℕ)
group_ids groups = map (λ g. g.id) groups

-- the arcs of which a group speaks
abbrev pub decided_in : GroupText → List (List ℕ)
decided_in g = flat_map (λ d. map set_key d.sets) g.decisions

-- the arcs that groups decide
abbrev pub decided_by : List GroupText → List (List ℕ)
decided_by groups = flat_map decided_in groups

-- what is wrong with a group, after groups of these ids which decide these arcs
abbrev pub group_fault_after : List ArcText → List (List ℕ) → List (List ℕ) → GroupText → Option ModelFault
group_fault_after arcs ids decided g =
    if not (is_id g.id) then Some (fault.OverLimit g.id)
    else if is_among ids g.id then Some (fault.TwiceNamed g.id)
    else if length g.decisions == 0 then Some (fault.EmptyGroup g.id)
    else first_offence decision_key (decision_fault arcs g.id decided) [] g.decisions

-- what is wrong with a group, after these groups
abbrev pub group_fault : List ArcText → List GroupText → GroupText → Option ModelFault
group_fault arcs earlier g = group_fault_after arcs (group_ids earlier) (decided_by earlier) g

-- the first offence of groups
abbrev pub groups_fault : List ArcText → List GroupText → Option ModelFault
groups_fault arcs groups = first_offence (λ g. g) (group_fault arcs) [] groups

-- too many nodes, or too many arcs
abbrev pub count_fault : List NodeRow → List ArcText → Option ModelFault
count_fault nodes arcs =
    if not (nat_le (length nodes) 2000) then Some (fault.TooMany many.Nodes)
    else if not (nat_le (length arcs) 2000) then Some (fault.TooMany many.Arcs)
    else None

-- too many groups, or too many decisions of one
abbrev pub group_count_fault : List GroupText → Option ModelFault
group_count_fault groups =
    if not (nat_le (length groups) 256) then Some (fault.TooMany many.Groups)
    else if not (list_all (λ g. nat_le (length g.decisions) 1024) groups) then Some (fault.TooMany many.Decisions)
    else None

-- the first offence of rows that aren't too many: the nodes, the arcs, the groups
abbrev pub uncounted_fault : Rows → Option ModelFault
uncounted_fault rows =
    option_or (nodes_fault rows.nodes) (option_or (arcs_fault (node_ids rows.nodes) rows.arcs) (groups_fault rows.arcs rows.groups))

-- the first offence of rows: the counts, the nodes, the arcs, the groups
abbrev pub rows_fault : Rows → Option ModelFault
rows_fault rows = option_or (count_fault rows.nodes rows.arcs) (option_or (group_count_fault rows.groups) (uncounted_fault rows))

-- an arc, with the places of its ends
abbrev pub arc_of : List (List ℕ) → ArcText → ArcRow
arc_of nodes a = record { id = a.id; from = unwrap_or (place nodes a.from) 0; to = unwrap_or (place nodes a.to) 0; q_min = a.q_min; q_max = a.q_max; kind = a.kind }

-- a set, a decision and a group, with the places of their arcs
abbrev pub set_of : List (List ℕ) → SetText → ℕ × Allow
set_of arcs s = (unwrap_or (place arcs s.arc) 0, s.allow)

abbrev pub decision_of : List (List ℕ) → DecisionText → Decision
decision_of arcs d = record { id = d.id; sets = map (set_of arcs) d.sets }

abbrev pub group_of : List (List ℕ) → GroupText → Group
group_of arcs g = record { id = g.id; decisions = map (decision_of arcs) g.decisions }

abbrev pub network_of : Rows → Network
network_of rows = record {
  nodes = rows.nodes;
  arcs = map (arc_of (node_ids rows.nodes)) rows.arcs;
  groups = map (group_of (text_ids rows.arcs)) rows.groups;
}

abbrev pub answer : Option ModelFault → Network → Result Network ModelFault
answer None p = Ok p
answer (Some e) p = Err e

-- the problem of rows, or their first offence
abbrev pub problem_of : Rows → Result Network ModelFault
problem_of rows = answer (rows_fault rows) (network_of rows)

-- an arc, with the names of its ends
abbrev pub text_of : List (List ℕ) → ArcRow → ArcText
text_of nodes a = record { id = a.id; from = slice_index_or nodes a.from []; to = slice_index_or nodes a.to []; q_min = a.q_min; q_max = a.q_max; kind = a.kind }

abbrev pub arc_id : ArcRow → List ℕ
arc_id a = a.id

-- a set, a decision and a group, with the names of their arcs
abbrev pub set_text : List (List ℕ) → ℕ × Allow → SetText
set_text arcs s = record { arc = slice_index_or arcs s.0 []; allow = s.1 }

abbrev pub decision_text : List (List ℕ) → Decision → DecisionText
decision_text arcs d = record { id = d.id; sets = map (set_text arcs) d.sets }

abbrev pub group_text : List (List ℕ) → Group → GroupText
group_text arcs g = record { id = g.id; decisions = map (decision_text arcs) g.decisions }

-- the rows of a problem
abbrev pub rows_of : Network → Rows
rows_of p = record {
  nodes = p.nodes;
  arcs = map (text_of (node_ids p.nodes)) p.arcs;
  groups = map (group_text (map arc_id p.arcs)) p.groups;
}

-- a problem is made of its own rows
abbrev pub IsProblem : Network → Type 0
IsProblem p = problem_of (rows_of p) ≡ Ok p

-- an answer that isn't Ok is this one, unless memory ran out
abbrev pub Fails : {Y : Type 0} → ModelFault → Result Y ModelFault → Type 0
Fails fault.NoMemory read = Unit {0}
Fails e read = read ≡ Err e

-- an answer is this one, seen so, unless memory ran out
abbrev pub Gives : {X Y : Type 0} → (X → Y) → Result X ModelFault → Result Y ModelFault → Type 0
Gives view (Ok x) read = read ≡ Ok (view x)
Gives view (Err e) read = Fails e read

-- this offence is answered, unless memory ran out
abbrev pub Tells : ModelFault → Option ModelFault → Type 0
Tells fault.NoMemory o = Unit {0}
Tells e o = o ≡ Some e
