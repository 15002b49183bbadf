-- Rows with positions in place of names.
use Rattle.std.specs.Prelude.{◌≡◌, map}
use Rattle.gas_model.specs.declared.rows.Rows.{Rows}
use Rattle.gas_model.specs.declared.placing.Placed.{Placed}
use Rattle.gas_model.specs.Rows.{node_ids, text_ids, arc_of, group_of}

-- the arcs and the groups of the rows
pub record IsPlaced (rows : Rows) (x : Placed) : Type 0 where
  pub arcs : x.arcs ≡ map (arc_of (node_ids rows.nodes)) rows.arcs
  pub groups : x.groups ≡ map (group_of (text_ids rows.arcs)) rows.groups
