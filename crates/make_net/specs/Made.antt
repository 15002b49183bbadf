-- The rows of a made problem: nodes in a line, each with an arc to the next one.
use Rattle.std.specs.Prelude.{ℕ, ◌+◌, ◌-◌, ◌==◌, nat_lt, List, [], ◌∷◌, ◌++◌, map, if◌then◌else◌, ℤ, pos, negsuc, ◌-ℤ◌, codes}
use Rattle.std.specs.List.{range_with_len}
use Rattle.line_text.specs.Numerals.{numeral}
use Rattle.gas_model.specs.declared.rows.NodeRow.{NodeRow}
use Rattle.gas_model.specs.declared.rows.ArcKind.{ArcKind}
use Rattle.gas_model.specs.declared.rows.ArcKind.TheVariants.{Pipe, Valve}
use Rattle.gas_model.specs.declared.rows.ArcText.{ArcText}
use Rattle.base_types.specs.declared.states.Allow.{Allow}
use Rattle.base_types.specs.declared.states.Allow.TheVariants.{Opened, Shut}
use Rattle.gas_model.specs.declared.rows.DecisionText.{DecisionText}
use Rattle.gas_model.specs.declared.rows.GroupText.{GroupText}
use Rattle.gas_model.specs.declared.rows.Rows.{Rows}

-- n0, n1 and so on
abbrev pub node_name : ℕ → List ℕ
node_name i = codes "n" ++ numeral i

abbrev pub arc_letter : ℕ → List ℕ
arc_letter i = if i == 0 then codes "v" else codes "p"

-- v0, p1, p2 and so on
abbrev pub arc_name : ℕ → List ℕ
arc_name i = arc_letter i ++ numeral i

-- the first node of count nodes brings in what each of the others takes out: 1 l/h
abbrev pub supply_of : ℕ → ℕ → ℤ
supply_of count i = if i == 0 then (pos count -ℤ pos 1) else negsuc 0

abbrev pub made_node : ℕ → ℕ → NodeRow
made_node count i = record { id = node_name i; p_min = pos 0; p_max = pos 10000000; b_min = supply_of count i; b_max = supply_of count i }

-- a valve, and then pipes
abbrev pub made_kind : ℕ → ArcKind
made_kind i = if i == 0 then Valve else Pipe (record { lo = pos 1; hi = pos 2; den = pos 1 })

abbrev pub made_arc : ℕ → ℕ → ArcText
made_arc count i = record { id = arc_name i; from = node_name i; to = node_name (i + 1); q_min = pos 0; q_max = pos count; kind = made_kind i }

-- a decision on the valve
abbrev pub made_decision : List ℕ → Allow → DecisionText
made_decision id allow = record { id = id; sets = record { arc = arc_name 0; allow = allow } ∷ [] }

abbrev pub made_group : GroupText
made_group = record { id = codes "g"; decisions = made_decision (codes "shut") Shut ∷ made_decision (codes "pass") Opened ∷ [] }

abbrev pub made_nodes : ℕ → List NodeRow
made_nodes count = map (made_node count) (range_with_len 0 count)

abbrev pub made_arcs : ℕ → List ArcText
made_arcs count = map (made_arc count) (range_with_len 0 (count - 1))

abbrev pub made_groups : ℕ → List GroupText
made_groups count = if nat_lt count 2 then [] else (made_group ∷ [])

-- the rows of count nodes
abbrev pub made_rows : ℕ → Rows
made_rows count = record { nodes = made_nodes count; arcs = made_arcs count; groups = made_groups count }
