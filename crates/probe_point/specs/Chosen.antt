-- The choices of a probe: what is open takes its first option.
use Rattle.std.specs.Prelude.{◌≡◌, ℕ, ◌<◌, List, [], ◌∷◌, length, map, Some, unwrap_or, slice_index_or}
use Rattle.gas_model.specs.declared.rows.ArcKind.{ArcKind}
use Rattle.gas_model.specs.declared.rows.ArcRow.{ArcRow}
use Rattle.base_types.specs.declared.states.ArcState.{ArcState}
use Rattle.base_types.specs.declared.states.ArcState.TheVariants.{Opened}
use Rattle.gas_model.specs.declared.rows.PartState.{PartState}
use Rattle.gas_model.specs.Rows.{Network}
use Rattle.gas_model.specs.Choices.{states_of, fixed_state, allowed_states}
use Rattle.gas_model.specs.Points.{state_at}
use Rattle.topo.specs.Graphs.{no_arc}

-- the picked decision of each group, or its first one
abbrev pub picks_of : PartState → List ℕ
picks_of part = map (λ pick. unwrap_or pick 0) part.picks

-- a part state in which all groups are picked
abbrev pub with_picks : List ℕ → PartState → PartState
with_picks picks part = record { picks = map Some picks; states = part.states }

-- a part state in which all states are named
abbrev pub all_chosen : List ℕ → List ArcState → PartState
all_chosen picks states = record { picks = map Some picks; states = map Some states }

-- the first of the states that are left to an arc; decisions leave one to each arc that they speak of
abbrev pub first_left : ArcKind → List ArcState → ArcState
first_left kind [] = slice_index_or (states_of kind) 0 Opened
first_left kind (state ∷ left) = state

-- the state of the arc a that is fixed, or the first one that the picked decisions allow
abbrev pub chosen_state : Network → PartState → ℕ → ArcRow → ArcState
chosen_state p part a row = unwrap_or (fixed_state p part a row) (first_left row.kind (allowed_states p part a row))

-- each arc has its state
pub record AreChosen (p : Network) (part : PartState) (states : List ArcState) : Type 0 where
  pub count : length states ≡ length p.arcs
  pub each : (a : ℕ) → a < length p.arcs → state_at states a ≡ chosen_state p part a (slice_index_or p.arcs a no_arc)
