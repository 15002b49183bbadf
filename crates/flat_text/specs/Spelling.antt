-- The one text of a problem.
use Rattle.std.specs.Prelude.{◌≡◌, ℕ, true, List, [], ◌∷◌, ◌++◌, map, ℤ, codes}
use Rattle.line_text.specs.Numerals.{signed_numeral}
use Rattle.std.specs.List.{flat_map, list_all}
use Rattle.base_types.specs.StateWords.{state_word}
use Rattle.base_types.specs.declared.states.ArcState.TheVariants as states
use Rattle.gas_model.specs.declared.rows.NodeRow.{NodeRow}
use Rattle.gas_model.specs.declared.rows.ArcKind.{ArcKind}
use Rattle.gas_model.specs.declared.rows.ArcKind.TheVariants.{Pipe, Short, Resist, Loss, Valve, Control, Station}
use Rattle.gas_model.specs.declared.rows.ArcText.{ArcText}
use Rattle.base_types.specs.declared.states.Allow.{Allow}
use Rattle.base_types.specs.declared.states.Allow.TheVariants.{Opened, Shut, Active, Bypass, On}
use Rattle.gas_model.specs.declared.rows.SetText.{SetText}
use Rattle.gas_model.specs.declared.rows.DecisionText.{DecisionText}
use Rattle.gas_model.specs.declared.rows.GroupText.{GroupText}
use Rattle.gas_model.specs.declared.rows.Rows.{Rows}
use Rattle.gas_model.specs.Rows.{Network, rows_of}
use Rattle.line_text.specs.Words.{joined, is_field}
use Rattle.flat_text.specs.declared.line.Item.{Item}
use Rattle.flat_text.specs.declared.line.Item.TheVariants.{Node, Arc, Group, Decision, Set}

-- fields, each after one space
abbrev pub spaced : List (List ℕ) → List ℕ
spaced fields = flat_map (λ field. 32 ∷ field) fields

-- a word and its fields, each after one space, and a line feed
abbrev pub line : List ℕ → List (List ℕ) → List ℕ
line word fields = joined word fields ++ 10 ∷ []

abbrev pub node_fields : NodeRow → List (List ℕ)
node_fields n = n.id ∷ signed_numeral n.p_min ∷ signed_numeral n.p_max ∷ signed_numeral n.b_min ∷ signed_numeral n.b_max ∷ []

abbrev pub node_line : NodeRow → List ℕ
node_line n = line (codes "node") (node_fields n)

abbrev pub kind_word : ArcKind → List ℕ
kind_word (Pipe law) = codes "pipe"
kind_word Short = codes "short"
kind_word (Resist law) = codes "drag"
kind_word (Loss low high) = codes "loss"
kind_word Valve = codes "valve"
kind_word (Control in_min out_max red_min red_max) = codes "control"
kind_word (Station in_min out_max ratio_num ratio_den rise_max) = codes "station"

-- the numbers of a kind
abbrev pub kind_numbers : ArcKind → List ℤ
kind_numbers (Pipe law) = law.lo ∷ law.hi ∷ law.den ∷ []
kind_numbers Short = []
kind_numbers (Resist law) = law.lo ∷ law.hi ∷ law.den ∷ []
kind_numbers (Loss low high) = low ∷ high ∷ []
kind_numbers Valve = []
kind_numbers (Control in_min out_max red_min red_max) = in_min ∷ out_max ∷ red_min ∷ red_max ∷ []
kind_numbers (Station in_min out_max ratio_num ratio_den rise_max) = in_min ∷ out_max ∷ ratio_num ∷ ratio_den ∷ rise_max ∷ []

abbrev pub arc_fields : ArcText → List (List ℕ)
arc_fields a = a.id ∷ a.from ∷ a.to ∷ map signed_numeral (a.q_min ∷ a.q_max ∷ kind_numbers a.kind)

abbrev pub arc_line : ArcText → List ℕ
arc_line a = line (kind_word a.kind) (arc_fields a)

abbrev pub allow_word : Allow → List ℕ
allow_word Opened = state_word states.Opened
allow_word Shut = state_word states.Shut
allow_word Active = state_word states.Active
allow_word Bypass = state_word states.Bypass
allow_word On = codes "on"

abbrev pub set_line : SetText → List ℕ
set_line s = line (codes "set") (s.arc ∷ allow_word s.allow ∷ [])

abbrev pub decision_lines : DecisionText → List ℕ
decision_lines d = line (codes "decision") (d.id ∷ []) ++ flat_map set_line d.sets

abbrev pub group_lines : GroupText → List ℕ
group_lines g = line (codes "group") (g.id ∷ []) ++ flat_map decision_lines g.decisions

-- ---- one line that says an item

abbrev pub item_word : Item → List ℕ
item_word (Node n) = codes "node"
item_word (Arc a) = kind_word a.kind
item_word (Group id) = codes "group"
item_word (Decision id) = codes "decision"
item_word (Set s) = codes "set"

abbrev pub item_fields : Item → List (List ℕ)
item_fields (Node n) = node_fields n
item_fields (Arc a) = arc_fields a
item_fields (Group id) = id ∷ []
item_fields (Decision id) = id ∷ []
item_fields (Set s) = s.arc ∷ allow_word s.allow ∷ []

-- the line without its line feed
abbrev pub item_line : Item → List ℕ
item_line x = joined (item_word x) (item_fields x)

-- the ids that stand in the line
abbrev pub item_ids : Item → List (List ℕ)
item_ids (Node n) = n.id ∷ []
item_ids (Arc a) = a.id ∷ a.from ∷ a.to ∷ []
item_ids (Group id) = id ∷ []
item_ids (Decision id) = id ∷ []
item_ids (Set s) = s.arc ∷ []

-- the bytes are the line of this item, whose numbers may have any size, and whose ids may be any fields
pub record SpellsItem (bytes : List ℕ) (x : Item) : Type 0 where
  pub ids : list_all is_field (item_ids x) ≡ true
  pub text : bytes ≡ item_line x

-- ---- the text of rows

-- the lines of rows after the head line: the nodes, the arcs, the groups, and `end`
abbrev pub rows_text : Rows → List ℕ
rows_text rows =
    flat_map node_line rows.nodes ++ (flat_map arc_line rows.arcs ++ (flat_map group_lines rows.groups ++ line (codes "end") []))

-- the one text of a problem
abbrev pub flat_text : Network → List ℕ
flat_text p = line (codes "gasflat") (codes "1" ∷ []) ++ rows_text (rows_of p)
