-- The limits of the numbers and ids of rows.
use Rattle.std.specs.Prelude.{◌&&◌, ℤ, Bool, true, int_le}
use Rattle.base_types.specs.Ids.{is_id}
use Rattle.base_types.specs.Numbers.{is_pressure, is_difference, is_flow, is_drag_part, is_ratio_part}
use Rattle.gas_model.specs.declared.rows.NodeRow.{NodeRow}
use Rattle.gas_model.specs.declared.rows.ArcText.{ArcText}
use Rattle.gas_model.specs.declared.rows.Drag.{Drag}
use Rattle.gas_model.specs.declared.rows.ArcKind.{ArcKind}
use Rattle.gas_model.specs.declared.rows.ArcKind.TheVariants.{Pipe, Short, Resist, Loss, Valve, Control, Station}

abbrev pub is_ratio_within : ℤ → ℤ → Bool
is_ratio_within num den = is_ratio_part num && is_ratio_part den

abbrev pub is_drag_within : Drag → Bool
is_drag_within law = is_drag_part law.lo && is_drag_part law.hi && is_drag_part law.den && int_le law.lo law.hi

abbrev pub are_station_pressures : ℤ → ℤ → ℤ → Bool
are_station_pressures in_min out_max rise_max = is_difference in_min && is_pressure out_max && is_difference rise_max

abbrev pub is_kind_within : ArcKind → Bool
is_kind_within (Pipe law) = is_drag_within law
is_kind_within Short = true
is_kind_within (Resist law) = is_drag_within law
is_kind_within (Loss low high) = is_difference low && is_difference high && int_le low high
is_kind_within Valve = true
is_kind_within (Control in_min out_max red_min red_max) = is_difference in_min && is_pressure out_max && is_difference red_min && is_difference red_max
is_kind_within (Station in_min out_max ratio_num ratio_den rise_max) =
    are_station_pressures in_min out_max rise_max && is_ratio_within ratio_num ratio_den

abbrev pub is_node_within : NodeRow → Bool
is_node_within n = is_id n.id && is_pressure n.p_min && is_pressure n.p_max && is_flow n.b_min && is_flow n.b_max

abbrev pub is_arc_within : ArcText → Bool
is_arc_within a = is_id a.id && is_flow a.q_min && is_flow a.q_max && is_kind_within a.kind
