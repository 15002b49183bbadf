-- The problem that the rows of four files stand for, or the first offence of joining them.
use Rattle.std.specs.Prelude.{map, Option, Some, None, Result, Ok, Err}
use Rattle.std.specs.Option.{option_or}
use Rattle.gas_model.specs.declared.rows.ModelFault.{ModelFault}
use Rattle.gas_model.specs.declared.rows.Rows.{Rows}
use Rattle.gas_model.specs.Rows.{Network, problem_of}
use Rattle.net_reader.specs.declared.rows.NetRows.{NetRows}
use Rattle.scn_reader.specs.declared.rows.ScnRows.{ScnRows}
use Rattle.cdf_reader.specs.declared.rows.CdfRows.{CdfRows}
use Rattle.res_table.specs.declared.rows.ResRows.{ResRows}
use Rattle.problem_faults.specs.declared.join.JoinFault.{JoinFault}
use Rattle.problem_faults.specs.OfModel.{of_model}
use Rattle.network.specs.Table.{in_table, arcs_fault, arc_text, is_taken, table_fault}
use Rattle.network.specs.Nodes.{node_word, nominations_fault, nomination, pipe_limit, node_row}
use Rattle.network.specs.Decisions.{arc_word, groups_fault, group_text}

-- the first offence of joining: nominations, connections, rows of the table, decisions
abbrev pub join_fault : NetRows → ScnRows → CdfRows → ResRows → Option JoinFault
join_fault net scn cdf res =
    option_or (nominations_fault (node_word net.nodes) scn.nodes)
    (option_or (arcs_fault (in_table res.rows) net.arcs)
    (option_or (table_fault (is_taken net.arcs) res.rows)
    (groups_fault (arc_word net.arcs) cdf.groups)))

-- the rows of the problem, where there is no such offence
abbrev pub joined_rows : NetRows → ScnRows → CdfRows → ResRows → Rows
joined_rows net scn cdf res = record {
  nodes = map (node_row (nomination scn.nodes) (pipe_limit net.arcs)) net.nodes;
  arcs = map (arc_text (in_table res.rows)) net.arcs;
  groups = map group_text cdf.groups;
}

abbrev pub as_join : Result Network ModelFault → Result Network JoinFault
as_join (Ok p) = Ok p
as_join (Err e) = Err (of_model e)

abbrev pub answer : Option JoinFault → Result Network JoinFault → Result Network JoinFault
answer None p = p
answer (Some e) p = Err e

-- the problem of the rows of four files, or its first offence: that of joining, then that of the joined rows
abbrev pub joined_problem : NetRows → ScnRows → CdfRows → ResRows → Result Network JoinFault
joined_problem net scn cdf res = answer (join_fault net scn cdf res) (as_join (problem_of (joined_rows net scn cdf res)))
