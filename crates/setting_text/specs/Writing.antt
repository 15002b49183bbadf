-- The text of a setting: one line of JSON, with the names of the problem.
use Rattle.std.specs.Prelude.{ℕ, List, [], ◌∷◌, ◌++◌, ℤ, slice_get, codes}
use Rattle.std.specs.Option.{option_map_or}
use Rattle.gas_model.specs.declared.rows.NodeRow.{NodeRow}
use Rattle.gas_model.specs.declared.rows.ArcRow.{ArcRow}
use Rattle.base_types.specs.declared.states.ArcState.{ArcState}
use Rattle.gas_model.specs.declared.rows.Group.{Group}
use Rattle.gas_model.specs.declared.rows.Setting.{Setting}
use Rattle.gas_model.specs.Rows.{Network}
use Rattle.base_types.specs.StateWords.{state_word}
use Rattle.serde_json.specs.Data.{Data, array, object, string, number, member, no_members}
use Rattle.serde_json.specs.Find.{of_integer}
use Rattle.serde_json.specs.View.{items_of}
use Rattle.serde_json.specs.Written.{compact_text}

-- the id of the decision at this place in the group
abbrev pub decision_id : Group → ℕ → List ℕ
decision_id g j = option_map_or (λ d. d.id) (slice_get g.decisions j) []

abbrev pub list : List Data → Data
list ds = array (items_of ds)

-- an arc's id, the word of its state, and its flow
abbrev pub arc_data : ArcRow → ArcState → ℤ → Data
arc_data a state flow = list (string a.id ∷ string (state_word state) ∷ number (of_integer flow) ∷ [])

-- a group's id, and that of its picked decision
abbrev pub group_data : Group → ℕ → Data
group_data g pick = list (string g.id ∷ string (decision_id g pick) ∷ [])

-- a node's id and its square
abbrev pub node_data : NodeRow → ℤ → Data
node_data n square = list (string n.id ∷ number (of_integer square) ∷ [])

-- an entry for each row, with what the setting has at its place
abbrev pub entries : {A B : Type 0} → (A → B → Data) → List A → List B → List Data
entries f [] ys = []
entries f (x ∷ xs) [] = []
entries f (x ∷ xs) (y ∷ ys) = f x y ∷ entries f xs ys

-- an entry for each arc, with its state and its flow
abbrev pub arc_entries : List ArcRow → List ArcState → List ℤ → List Data
arc_entries [] states flows = []
arc_entries (a ∷ arcs) [] flows = []
arc_entries (a ∷ arcs) (state ∷ states) [] = []
arc_entries (a ∷ arcs) (state ∷ states) (flow ∷ flows) = arc_data a state flow ∷ arc_entries arcs states flows

abbrev pub setting_data : Network → Setting → Data
setting_data p s = object (
    member (codes "arcs") (list (arc_entries p.arcs s.states s.flows)) (
    member (codes "decisions") (list (entries group_data p.groups s.picks)) (
    member (codes "nodes") (list (entries node_data p.nodes s.squares)) no_members)))

-- the one text: compact JSON and a line feed
abbrev pub setting_text : Network → Setting → List ℕ
setting_text p s = compact_text (setting_data p s) ++ 10 ∷ []
