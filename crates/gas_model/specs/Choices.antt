-- Decisions picked for groups, and the states that they leave to arcs.
use Rattle.std.specs.Prelude.{◌≡◌, ℕ, ◌&&◌, ◌==◌, ◌<◌, List, [], ◌∷◌, ◌++◌, length, map, filter, replicate, Bool, true, false, Option, None, Some, slice_get, slice_index_or, IsTrue}
use Rattle.std.specs.List.{list_all}
use Rattle.std.specs.Option.{option_or}
use Rattle.gas_model.specs.declared.rows.ArcKind.{ArcKind}
use Rattle.gas_model.specs.declared.rows.ArcKind.TheVariants.{Pipe, Short, Resist, Loss, Valve, Control, Station}
use Rattle.gas_model.specs.declared.rows.ArcRow.{ArcRow}
use Rattle.base_types.specs.declared.states.ArcState.{ArcState}
use Rattle.base_types.specs.declared.states.ArcState.TheVariants.{Opened, Shut, Active, Bypass}
use Rattle.base_types.specs.declared.states.Allow.{Allow}
use Rattle.base_types.specs.declared.states.Allow.TheVariants as allow
use Rattle.gas_model.specs.declared.rows.Decision.{Decision}
use Rattle.gas_model.specs.declared.rows.Group.{Group}
use Rattle.gas_model.specs.declared.rows.PartState.{PartState}
use Rattle.gas_model.specs.Rows.{Network}

-- the states of a kind, in their order
abbrev pub states_of : ArcKind → List ArcState
states_of (Pipe law) = Opened ∷ []
states_of Short = Opened ∷ []
states_of (Resist law) = Opened ∷ []
states_of (Loss low high) = Opened ∷ []
states_of Valve = Opened ∷ Shut ∷ []
states_of (Control in_min out_max red_min red_max) = Active ∷ Bypass ∷ Shut ∷ []
states_of (Station in_min out_max ratio_num ratio_den rise_max) = Active ∷ Bypass ∷ Shut ∷ []

-- whether a kind has the state
abbrev pub has_state : ArcKind → ArcState → Bool
has_state Valve Opened = true
has_state Valve Shut = true
has_state Valve state = false
has_state (Control in_min out_max red_min red_max) Opened = false
has_state (Control in_min out_max red_min red_max) state = true
has_state (Station in_min out_max ratio_num ratio_den rise_max) Opened = false
has_state (Station in_min out_max ratio_num ratio_den rise_max) state = true
has_state (Pipe law) Opened = true
has_state (Pipe law) state = false
has_state Short Opened = true
has_state Short state = false
has_state (Resist law) Opened = true
has_state (Resist law) state = false
has_state (Loss low high) Opened = true
has_state (Loss low high) state = false

-- whether a word of a decision allows the state
abbrev pub allows : Allow → ArcState → Bool
allows allow.Opened Opened = true
allows allow.Shut Shut = true
allows allow.Active Active = true
allows allow.Bypass Bypass = true
allows allow.On Active = true
allows allow.On Bypass = true
allows word state = false

-- what a decision says of the arc a
abbrev pub words_in : Decision → ℕ → List Allow
words_in d a = map (λ s. s.1) (filter (λ s. s.0 == a) d.sets)

abbrev pub words_if : Option Decision → ℕ → List Allow
words_if None a = []
words_if (Some d) a = words_in d a

-- what the picked decisions say of the arc a
abbrev pub words_for : List Group → List (Option ℕ) → ℕ → List Allow
words_for [] picks a = []
words_for (g ∷ groups) [] a = []
words_for (g ∷ groups) (None ∷ picks) a = words_for groups picks a
words_for (g ∷ groups) (Some j ∷ picks) a = words_if (slice_get g.decisions j) a ++ words_for groups picks a

-- all of the words allow the state
abbrev pub words_allow : ArcState → List Allow → Bool
words_allow state words = list_all (λ word. allows word state) words

-- the picked decisions allow the arc a the state: each word that they have for it does
abbrev pub picks_allow : List Group → List (Option ℕ) → ℕ → ArcState → Bool
picks_allow groups picks a state = words_allow state (words_for groups picks a)

-- one decision of each group is picked
pub record ArePicks (groups : List Group) (picks : List ℕ) : Type 0 where
  pub one_each : length picks ≡ length groups
  pub within : (k : ℕ) (g : Group) (j : ℕ) → slice_get groups k ≡ Some g → slice_get picks k ≡ Some j → j < length g.decisions

-- the arc a may be in the state: it is one of its kind, and the picked decisions allow it
abbrev pub may_be : Network → List ℕ → ℕ → ArcRow → ArcState → Bool
may_be p picks a row state = has_state row.kind state && picks_allow p.groups (map Some picks) a state

-- one decision of each group is picked, and each arc is in a state that it may be in
pub record IsListed (p : Network) (picks : List ℕ) (states : List ArcState) : Type 0 where
  pub picked : ArePicks p.groups picks
  pub one_each : length states ≡ length p.arcs
  pub allowed : (a : ℕ) (row : ArcRow) (state : ArcState) → slice_get p.arcs a ≡ Some row → slice_get states a ≡ Some state → IsTrue (may_be p picks a row state)

-- the only item of a list
abbrev pub only : List ArcState → Option ArcState
only (state ∷ []) = Some state
only states = None

abbrev pub named_state : List (Option ArcState) → ℕ → Option ArcState
named_state states a = slice_index_or states a None

-- the state of a kind that is fixed: its only one, or the one named, or the only one that passes the test
abbrev pub fixed_under : ArcKind → Option ArcState → (ArcState → Bool) → Option ArcState
fixed_under kind named left = option_or (only (states_of kind)) (option_or named (only (filter left (states_of kind))))

-- the state of the arc a that is fixed: that of a kind with one state, or the one named, or the only one that the picked decisions allow
abbrev pub fixed_state : Network → PartState → ℕ → ArcRow → Option ArcState
fixed_state p part a row = fixed_under row.kind (named_state part.states a) (picks_allow p.groups part.picks a)

-- the states of the arc a that the picked decisions allow, in the order of its kind
abbrev pub allowed_states : Network → PartState → ℕ → ArcRow → List ArcState
allowed_states p part a row = filter (picks_allow p.groups part.picks a) (states_of row.kind)

-- a part state for the problem: its lists have the problem's lengths, its picks are in range, each state that it names is one of the arc's kind
pub record PartFits (p : Network) (part : PartState) : Type 0 where
  pub picks : length part.picks ≡ length p.groups
  pub states : length part.states ≡ length p.arcs
  pub within : (k : ℕ) (g : Group) (j : ℕ) → slice_get p.groups k ≡ Some g → slice_get part.picks k ≡ Some (Some j) → j < length g.decisions
  pub kinds : (a : ℕ) (row : ArcRow) (state : ArcState) → slice_get p.arcs a ≡ Some row → slice_get part.states a ≡ Some (Some state) → IsTrue (has_state row.kind state)

-- nothing is picked, and no state is named
abbrev pub fresh_part : Network → PartState
fresh_part p = record { picks = replicate (length p.groups) None; states = replicate (length p.arcs) None }
