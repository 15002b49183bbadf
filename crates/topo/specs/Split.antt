-- The variables that a box is split at first.
use Rattle.std.specs.Prelude.{◌≡◌, ℕ, ◌<◌, ◌==◌, ◌++◌, not, Bool, false, List, [], ◌∷◌, length, map, filter, Option, slice_index_or}
use Rattle.std.specs.List.{list_any}
use Rattle.gas_model.specs.declared.rows.ArcRow.{ArcRow}
use Rattle.base_types.specs.declared.states.ArcState.{ArcState}
use Rattle.gas_model.specs.declared.rows.PartState.{PartState}
use Rattle.base_types.specs.declared.variables.Var.{Var}
use Rattle.base_types.specs.declared.variables.Var.TheVariants.{Flow, Square}
use Rattle.gas_model.specs.Rows.{Network}
use Rattle.topo.specs.Graphs.{graph_of}
use Rattle.topo.specs.States.{fixed_at, is_active}
use Rattle.topo.specs.Walks.{those}

-- the items in order, each only where it first stands
abbrev pub firsts : List ℕ → List ℕ
firsts [] = []
firsts (x ∷ xs) = x ∷ filter (λ y. not (y == x)) (firsts xs)

-- the nodes that active arcs lead to, in the order of the arcs: only control valves and stations are ever active
abbrev pub ends_of_active : List ArcRow → (ℕ → Option ArcState) → List ℕ
ends_of_active arcs state = map (graph_of arcs).to (those (λ a. is_active (state a)) (length arcs))

abbrev pub active_ends : Network → PartState → List ℕ
active_ends p part = ends_of_active p.arcs (fixed_at p part)

-- the flows of the chords, the squares of the roots, and the squares of the nodes that active control valves and
-- stations lead to: each variable once
abbrev pub split_of : List ℕ → List ℕ → List ℕ → List Var
split_of chords roots ends = map Flow chords ++ map Square (firsts (roots ++ ends))

-- the nodes are listed where each first stands, and has says of each node whether it is among them
pub record HasFirsts (size : ℕ) (nodes listed : List ℕ) (has : List Bool) : Type 0 where
  pub is : listed ≡ firsts nodes
  pub count : length has ≡ size
  pub each : (n : ℕ) → n < size → slice_index_or has n false ≡ list_any (λ m. m == n) nodes
