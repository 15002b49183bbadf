-- Which arcs of a network are there in a part state.
use Rattle.std.specs.Prelude.{ℕ, not, List, Bool, true, false, Option, Some, None, slice_get, slice_index_or, option_and_then}
use Rattle.base_types.specs.declared.states.ArcState.{ArcState}
use Rattle.base_types.specs.declared.states.ArcState.TheVariants.{Active}
use Rattle.gas_model.specs.declared.rows.PartState.{PartState}
use Rattle.gas_model.specs.Rows.{Network}
use Rattle.gas_model.specs.Choices.{fixed_state}
use Rattle.gas_model.specs.Laws.{is_shut}

-- the state of the arc a that is fixed, if there is such an arc and one is
abbrev pub fixed_at : Network → PartState → ℕ → Option ArcState
fixed_at p part a = option_and_then (fixed_state p part a) (slice_get p.arcs a)

-- only control valves and stations have this state
abbrev pub is_active : Option ArcState → Bool
is_active (Some Active) = true
is_active _ = false

-- an arc whose state is fixed as shut is away, and all others are there
abbrev pub is_there : Network → PartState → ℕ → Bool
is_there p part a = not (is_shut (fixed_at p part a))

-- the same, by a list of the fixed states of all arcs
abbrev pub state_in : List (Option ArcState) → ℕ → Option ArcState
state_in states a = slice_index_or states a None

abbrev pub is_kept : List (Option ArcState) → ℕ → Bool
is_kept states a = not (is_shut (state_in states a))
