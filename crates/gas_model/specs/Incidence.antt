-- Lists of arcs, one for each node.
use Rattle.std.specs.Prelude.{◌≡◌, ◌≢◌, ℕ, ◌<◌, ◌≤◌, List, [], ◌∷◌, ◌++◌, length, Some, slice_get, slice_index_or, slice_set}
use Rattle.gas_model.specs.declared.rows.ArcRow.{ArcRow}
use Rattle.gas_model.specs.Points.{arcs_at}

-- the arc a stands in the list of the node n too
abbrev pub noted : List (List ℕ) → ℕ → ℕ → List (List ℕ)
noted lists n a = slice_set lists n (slice_index_or lists n [] ++ a ∷ [])

-- the arcs at each node are kept
pub record KeepsArcsAt (lists : List (List ℕ)) (nodes : ℕ) (arcs : List ArcRow) : Type 0 where
  pub count : length lists ≡ nodes
  pub each : (n : ℕ) → n < nodes → slice_index_or lists n [] ≡ arcs_at arcs n

-- few arcs, each from a node to another
pub record AreEnds (nodes : ℕ) (arcs : List ArcRow) : Type 0 where
  pub few : length arcs ≤ 2000
  pub from : (a : ℕ) (row : ArcRow) → slice_get arcs a ≡ Some row → row.from < nodes
  pub to : (a : ℕ) (row : ArcRow) → slice_get arcs a ≡ Some row → row.to < nodes
  pub apart : (a : ℕ) (row : ArcRow) → slice_get arcs a ≡ Some row → row.from ≢ row.to
