-- The rows of a network file, or its first offence.
use Rattle.std.specs.Prelude.{List, [], ◌∷◌, Option, Some, None, Result, Ok, Err, codes}
use Rattle.tag_outline.specs.declared.outline.Element.{Element}
use Rattle.file_faults.specs.declared.outline.OutlineFault.TheVariants as outline_fault
use Rattle.file_faults.specs.declared.outline.FileFault.{FileFault}
use Rattle.file_faults.specs.declared.outline.FileFault.TheVariants as fault
use Rattle.element_fields.specs.Answers.{◌>>=◌, found_or}
use Rattle.element_fields.specs.Lookup.{Placed, child}
use Rattle.net_reader.specs.declared.rows.NetArc.{NetArc}
use Rattle.net_reader.specs.declared.rows.NetRows.{NetRows}
use Rattle.net_reader.specs.Nodes.{node_rows}
use Rattle.net_reader.specs.Arcs.{arc_rows}

abbrev pub arcs_of : Option Placed → Result (List NetArc) FileFault
arcs_of None = Ok []
arcs_of (Some c) = arc_rows c.0 c.1

-- the connections below the root, of which there may be none
abbrev pub arcs_in : Element → List Element → Result (List NetArc) FileFault
arcs_in root below = arcs_of (child root.depth (codes "connections") below)

-- (an outline has a root)
unfoldable pub network_rows : List Element → Result NetRows FileFault
network_rows [] = Err (fault.Outline (outline_fault.NotOutline 0))
network_rows (root ∷ below) = do
  nodes ← found_or (fault.Missing root.name (codes "nodes")) (child root.depth (codes "nodes") below)
  node_list ← node_rows nodes.0 nodes.1
  arc_list ← arcs_in root below
  Ok (record { nodes = node_list; arcs = arc_list })
