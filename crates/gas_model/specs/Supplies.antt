-- A problem with other bounds of the supply of one node.
use Rattle.std.specs.Prelude.{ℕ, ℤ, pos, [], slice_index_or, slice_set}
use Rattle.gas_model.specs.declared.rows.NodeRow.{NodeRow}
use Rattle.gas_model.specs.Rows.{Network}

abbrev pub no_node : NodeRow
no_node = record { id = []; p_min = pos 0; p_max = pos 0; b_min = pos 0; b_max = pos 0 }

-- the node with these bounds of its supply
abbrev pub node_with_supply : NodeRow → ℤ → ℤ → NodeRow
node_with_supply n low high = record { id = n.id; p_min = n.p_min; p_max = n.p_max; b_min = low; b_max = high }

-- the problem, but for the bounds of the supply of the node n
abbrev pub with_supply : Network → ℕ → ℤ → ℤ → Network
with_supply p n low high = record {
  nodes = slice_set p.nodes n (node_with_supply (slice_index_or p.nodes n no_node) low high);
  arcs = p.arcs;
  groups = p.groups;
}
