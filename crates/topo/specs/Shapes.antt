-- The shape of a network in a part state.
use Rattle.std.specs.Prelude.{◌≡◌, ℕ, ◌<◌, Bool, List, length, map, slice_index_or}
use Rattle.gas_model.specs.declared.rows.PartState.{PartState}
use Rattle.base_types.specs.declared.variables.Var.{Var}
use Rattle.gas_model.specs.Rows.{Network}
use Rattle.gas_model.specs.Incidence.{KeepsArcsAt}
use Rattle.topo.specs.Graphs.{Graph, graph_of, IsRoot, IsChord, IsTreeArc, Lists, HasOnce}
use Rattle.topo.specs.States.{is_there}
use Rattle.topo.specs.Walks.{Step, far_of, is_tree, IsWalk}
use Rattle.topo.specs.Split.{active_ends, split_of}

-- what contracts see of a shape
pub record Layout : Type 0 where
  pub roots : List ℕ
  pub root_of : List ℕ
  pub chords : List ℕ
  pub walk : List Step
  pub at_node : List (List ℕ)
  pub split_list : List Var

-- each node has the root of its component
pub record AreRoots (g : Graph) (keep : ℕ → Bool) (nodes : ℕ) (root_of : List ℕ) : Type 0 where
  pub count : length root_of ≡ nodes
  pub each : (n : ℕ) → n < nodes → IsRoot g keep n (slice_index_or root_of n 0)

-- the node is the root of its component, or it isn't
pub record IsOwnRoot (g : Graph) (keep : ℕ → Bool) (nodes n : ℕ) : Type 0 where
  pub is_node : n < nodes
  pub root : IsRoot g keep n n

pub record IsOtherNode (g : Graph) (keep : ℕ → Bool) (nodes n : ℕ) : Type 0 where
  pub is_node : n < nodes
  pub other : IsRoot g keep n n → ⊥

-- The shape of a graph of so many nodes, where these arcs are there. The walk has each tree arc once, and each node but
-- the roots once as the far end of a step.
pub record IsLaidOut (g : Graph) (keep : ℕ → Bool) (nodes : ℕ) (s : Layout) : Type 0 where
  pub root_of : AreRoots g keep nodes s.root_of
  pub roots : Lists s.roots (IsOwnRoot g keep nodes)
  pub chords : Lists s.chords (IsChord g keep)
  pub walk : IsWalk g (is_tree g keep s.chords) s.roots s.walk
  pub walked_arcs : HasOnce (map (λ e. e.0) s.walk) (IsTreeArc g keep)
  pub walked_nodes : HasOnce (map (far_of g) s.walk) (IsOtherNode g keep nodes)

-- the shape of a network in a part state
pub record IsShapeOf (p : Network) (part : PartState) (s : Layout) : Type 0 where
  pub laid_out : IsLaidOut (graph_of p.arcs) (is_there p part) (length p.nodes) s
  pub at_node : KeepsArcsAt s.at_node (length p.nodes) p.arcs
  pub split_list : s.split_list ≡ split_of s.chords s.roots (active_ends p part)
