-- The setting of a problem that bytes stand for, or the first offence.
use Rattle.std.specs.Prelude.{◌≡◌, ℕ, ◌&&◌, ◌==◌, ◌≤◌, not, List, [], ◌∷◌, length, map, position, Bool, true, false, if◌then◌else◌, Option, Some, None, is_some, ok_or, option_map, option_and_then, Result, Ok, Err, ℤ, codes, slice_get, IsTrue}
use Rattle.std.specs.Option.{option_map_or}
use Rattle.std.specs.Str.{bytes_eq, is_utf8}
use Rattle.gas_model.specs.declared.rows.NodeRow.{NodeRow}
use Rattle.gas_model.specs.declared.rows.ArcKind.{ArcKind}
use Rattle.gas_model.specs.declared.rows.ArcRow.{ArcRow}
use Rattle.base_types.specs.declared.states.ArcState.{ArcState}
use Rattle.base_types.specs.StateWords.{state_named}
use Rattle.gas_model.specs.declared.rows.Group.{Group}
use Rattle.gas_model.specs.declared.rows.Setting.{Setting}
use Rattle.gas_model.specs.Rows.{Network}
use Rattle.base_types.specs.Numbers.{is_flow, is_square}
use Rattle.gas_model.specs.Choices.{has_state}
use Rattle.gas_model.specs.Near.{SettingFits}
use Rattle.serde_json.specs.Data.{Num, Data, Items, no_items, item}
use Rattle.serde_json.specs.Events.{members_len}
use Rattle.serde_json.specs.Find.{at, get, as_str, as_array, as_object, as_number, as_i64}
use Rattle.serde_json.specs.Read.{read}
use Rattle.file_faults.specs.declared.setting.Key.{Key}
use Rattle.file_faults.specs.declared.setting.Key.TheVariants as key
use Rattle.file_faults.specs.declared.setting.SettingFault.{SettingFault}
use Rattle.file_faults.specs.declared.setting.SettingFault.TheVariants as fault
use Rattle.setting_text.specs.declared.entries.ArcEntry.{ArcEntry}
use Rattle.setting_text.specs.Writing.{setting_data}

infixl 10 ◌>>=◌
-- the next step, where this one did not fail
abbrev pub ◌>>=◌ : {A B : Type 0} → Result A SettingFault → (A → Result B SettingFault) → Result B SettingFault
(Ok x) >>= f = f x
(Err e) >>= f = Err e

-- an answer that isn't Ok is this one, unless memory ran out
abbrev pub Fails : {Y : Type 0} → SettingFault → Result Y SettingFault → Type 0
Fails fault.NoMemory read = Unit {0}
Fails fault.NotJson read = read ≡ Err fault.NotJson
Fails (fault.NotSetting k) read = read ≡ Err (fault.NotSetting k)
Fails (fault.WideNumber k) read = read ≡ Err (fault.WideNumber k)

-- an answer is this one, seen so, unless memory ran out
abbrev pub Gives : {X Y : Type 0} → (X → Y) → Result X SettingFault → Result Y SettingFault → Type 0
Gives view (Ok x) read = read ≡ Ok (view x)
Gives view (Err e) read = Fails e read

-- items as a list
abbrev pub listed : Items → List Data
listed no_items = []
listed (item d ds) = d ∷ listed ds

-- the values of an array
abbrev pub array_at : Data → Option (List Data)
array_at d = option_map listed (as_array d)

-- an array of so many
abbrev pub has_len : ℕ → Data → Bool
has_len n d = option_map_or (λ ds. length ds == n) (array_at d) false

-- the text that a value is
abbrev pub text_at : Option Data → Option (List ℕ)
text_at d = option_and_then as_str d

-- a value that is this text
abbrev pub is_text : List ℕ → Option Data → Bool
is_text text d = option_map_or (bytes_eq text) (text_at d) false

-- an array of so many that begins with this id
abbrev pub is_entry : ℕ → List ℕ → Data → Bool
is_entry n id d = has_len n d && is_text id (at 0 d)

-- a number that serde_json reads as a whole one, within limits
abbrev pub whole_within : Key → (ℤ → Bool) → Num → Result ℤ SettingFault
whole_within k within n = option_map_or (λ z. if within z then Ok z else Err (fault.WideNumber k)) (as_i64 n) (Err (fault.WideNumber k))

-- a value that is such a number
abbrev pub number_at : Key → (ℤ → Bool) → Option Data → Result ℤ SettingFault
number_at k within d = option_map_or (whole_within k within) (option_and_then as_number d) (Err (fault.NotSetting k))

-- the state, where it is one of the kind
abbrev pub of_kind : ArcKind → ArcState → Option ArcState
of_kind kind state = if has_state kind state then Some state else None

-- the state of this kind that a value names
abbrev pub state_at : ArcKind → Option Data → Result ArcState SettingFault
state_at kind d = ok_or (option_and_then (of_kind kind) (option_and_then state_named (text_at d))) (fault.NotSetting key.Arcs)

-- an arc's id, the word of a state of its kind, and its flow
unfoldable pub arc_entry : ArcRow → Data → Result ArcEntry SettingFault
arc_entry a d =
    if not (is_entry 3 a.id d) then Err (fault.NotSetting key.Arcs) else do
      state ← state_at a.kind (at 1 d)
      flow ← number_at key.Arcs is_flow (at 2 d)
      Ok (record { state = state; flow = flow })

-- the place of a group's decision of this id
abbrev pub decision_place : Group → List ℕ → Option ℕ
decision_place g id = position (λ x. bytes_eq id x.id) g.decisions

-- no group has more decisions than a problem may have
abbrev pub HaveFewDecisions : List Group → Type 0
HaveFewDecisions groups = (k : ℕ) (g : Group) → slice_get groups k ≡ Some g → length g.decisions ≤ 1024

-- a group's id, and that of one of its decisions
unfoldable pub group_entry : Group → Data → Result ℕ SettingFault
group_entry g d =
    if not (is_entry 2 g.id d) then Err (fault.NotSetting key.Decisions)
    else ok_or (option_and_then (decision_place g) (text_at (at 1 d))) (fault.NotSetting key.Decisions)

-- a node's id and its square
unfoldable pub node_entry : NodeRow → Data → Result ℤ SettingFault
node_entry n d =
    if not (is_entry 2 n.id d) then Err (fault.NotSetting key.Nodes)
    else number_at key.Nodes is_square (at 1 d)

-- what the entries say of the rows, or the first offence
unfoldable pub read_each : {A B : Type 0} → (A → Data → Result B SettingFault) → List A → List Data → Result (List B) SettingFault
read_each f [] ds = Ok []
read_each f (x ∷ xs) [] = Ok []
read_each f (x ∷ xs) (d ∷ ds) = do
  y ← f x d
  ys ← read_each f xs ds
  Ok (y ∷ ys)

-- the values of an array of so many
abbrev pub array_of : Key → ℕ → Option Data → Result (List Data) SettingFault
array_of k n d = ok_or (option_and_then (λ ds. if length ds == n then Some ds else None) (option_and_then array_at d)) (fault.NotSetting k)

-- an object with so many members
abbrev pub has_members : ℕ → Data → Bool
has_members n d = option_map_or (λ ms. members_len ms == n) (as_object d) false

-- an object with three members, under these keys
abbrev pub is_whole : Data → Bool
is_whole d = has_members 3 d
    && is_some (get (codes "arcs") d) && is_some (get (codes "decisions") d) && is_some (get (codes "nodes") d)

-- the state and the flow of an entry
abbrev pub entry_state : ArcEntry → ArcState
entry_state e = e.state

abbrev pub entry_flow : ArcEntry → ℤ
entry_flow e = e.flow

-- the setting that a value is, or its first offence: list by list, and in each the length before the entries
unfoldable pub setting_in : Network → Data → Result Setting SettingFault
setting_in p d =
    if not (is_whole d) then Err (fault.NotSetting key.Whole) else do
      arcs ← array_of key.Arcs (length p.arcs) (get (codes "arcs") d)
      entries ← read_each arc_entry p.arcs arcs
      decisions ← array_of key.Decisions (length p.groups) (get (codes "decisions") d)
      picks ← read_each group_entry p.groups decisions
      nodes ← array_of key.Nodes (length p.nodes) (get (codes "nodes") d)
      squares ← read_each node_entry p.nodes nodes
      Ok (record { picks = picks; states = map entry_state entries; flows = map entry_flow entries; squares = squares })

-- the value that bytes are, as serde_json reads it: of a key that stands twice the last counts
abbrev pub value_of : List ℕ → Result Data SettingFault
value_of bytes = if not (is_utf8 bytes) then Err fault.NotJson else ok_or (read bytes) fault.NotJson

-- the setting that bytes stand for, or their first offence
unfoldable pub setting_of : Network → List ℕ → Result Setting SettingFault
setting_of p bytes = do
  d ← value_of bytes
  setting_in p d

-- each state is one of its arc's kind
abbrev pub AreOfKinds : List ArcRow → List ArcState → Type 0
AreOfKinds arcs states = (a : ℕ) (row : ArcRow) (state : ArcState) → slice_get arcs a ≡ Some row → slice_get states a ≡ Some state → IsTrue (has_state row.kind state)

-- bytes stand for a setting that fits the problem, with states of the arcs' kinds: they are UTF-8, and serde_json reads
-- them as the setting's data
pub record StandsFor (p : Network) (bytes : List ℕ) (s : Setting) : Type 0 where
  pub utf8 : is_utf8 bytes ≡ true
  pub value : read bytes ≡ Some (setting_data p s)
  pub fits : SettingFits p s
  pub kinds : AreOfKinds p.arcs s.states

-- this setting is answered, unless memory ran out
abbrev pub IsRead : Setting → Result Setting SettingFault → Type 0
IsRead s (Ok x) = x ≡ s
IsRead s (Err e) = e ≡ fault.NoMemory
