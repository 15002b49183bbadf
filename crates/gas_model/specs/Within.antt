-- The limits within which all rows of a problem lie.
use Rattle.std.specs.Prelude.{◌≡◌, ◌≢◌, ℕ, ◌&&◌, ◌<◌, ◌≤◌, ◌==◌, not, nat_le, List, length, Bool, false, Some, slice_get, IsTrue}
use Rattle.std.specs.List.{list_all}
use Rattle.std.specs.Option.{option_map_or}
use Rattle.gas_model.specs.declared.rows.NodeRow.{NodeRow}
use Rattle.gas_model.specs.declared.rows.ArcRow.{ArcRow}
use Rattle.base_types.specs.declared.states.Allow.{Allow}
use Rattle.gas_model.specs.declared.rows.Decision.{Decision}
use Rattle.gas_model.specs.declared.rows.Group.{Group}
use Rattle.base_types.specs.Ids.{is_id}
use Rattle.base_types.specs.Numbers.{is_flow}
use Rattle.gas_model.specs.Limits.{is_kind_within, is_node_within}
use Rattle.gas_model.specs.Rows.{Network, takes}

abbrev pub is_row_within : ArcRow → Bool
is_row_within a = is_id a.id && is_flow a.q_min && is_flow a.q_max && is_kind_within a.kind

-- the set names an arc, whose kind takes the word
abbrev pub is_set_within : List ArcRow → ℕ × Allow → Bool
is_set_within arcs s = option_map_or (λ row. takes row.kind s.1) (slice_get arcs s.0) false

abbrev pub is_decision_within : List ArcRow → Decision → Bool
is_decision_within arcs d = is_id d.id && list_all (is_set_within arcs) d.sets

-- a group has a decision, and not too many
abbrev pub is_group_within : List ArcRow → Group → Bool
is_group_within arcs g =
    is_id g.id && not (length g.decisions == 0) && nat_le (length g.decisions) 1024 && list_all (is_decision_within arcs) g.decisions

-- each row lies within the limits, each arc leads from a node to another, and decisions speak of arcs by words that these take
pub record IsWithin (p : Network) : Type 0 where
  pub few_nodes : length p.nodes ≤ 2000
  pub few_arcs : length p.arcs ≤ 2000
  pub few_groups : length p.groups ≤ 256
  pub nodes : (n : ℕ) (node : NodeRow) → slice_get p.nodes n ≡ Some node → IsTrue (is_node_within node)
  pub arcs : (a : ℕ) (row : ArcRow) → slice_get p.arcs a ≡ Some row → IsTrue (is_row_within row)
  pub from : (a : ℕ) (row : ArcRow) → slice_get p.arcs a ≡ Some row → row.from < length p.nodes
  pub to : (a : ℕ) (row : ArcRow) → slice_get p.arcs a ≡ Some row → row.to < length p.nodes
  pub apart : (a : ℕ) (row : ArcRow) → slice_get p.arcs a ≡ Some row → row.from ≢ row.to
  pub groups : (k : ℕ) (g : Group) → slice_get p.groups k ≡ Some g → IsTrue (is_group_within p.arcs g)
