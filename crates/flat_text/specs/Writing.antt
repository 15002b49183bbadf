-- What a writer of rows asks for.
use Rattle.std.specs.Prelude.{◌≡◌, ℕ, ◌<◌, List, Some, slice_get}
use Rattle.gas_model.specs.declared.rows.ArcRow.{ArcRow}

-- each arc has its ends among so many nodes
pub record AreBetween (nodes : ℕ) (arcs : List ArcRow) : Type 0 where
  pub from : (a : ℕ) (row : ArcRow) → slice_get arcs a ≡ Some row → row.from < nodes
  pub to : (a : ℕ) (row : ArcRow) → slice_get arcs a ≡ Some row → row.to < nodes
