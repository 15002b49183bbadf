-- The words of the states of arcs.
use Rattle.std.specs.Prelude.{ℕ, List, [], ◌∷◌, find, Option, codes}
use Rattle.std.specs.Str.{bytes_eq}
use Rattle.base_types.specs.declared.states.ArcState.{ArcState}
use Rattle.base_types.specs.declared.states.ArcState.TheVariants.{Opened, Shut, Active, Bypass}

abbrev pub state_word : ArcState → List ℕ
state_word Opened = codes "open"
state_word Shut = codes "closed"
state_word Active = codes "active"
state_word Bypass = codes "bypass"

abbrev pub all_states : List ArcState
all_states = Opened ∷ Shut ∷ Active ∷ Bypass ∷ []

-- the state of this word
abbrev pub state_named : List ℕ → Option ArcState
state_named word = find (λ state. bytes_eq word (state_word state)) all_states
