-- The rows of a scenario file, or its first offence.
use Rattle.std.specs.Prelude.{ℕ, List, [], ◌∷◌, not, Bool, true, false, if◌then◌else◌, Option, Some, None, Result, Ok, Err, codes}
use Rattle.std.specs.Str.{bytes_eq}
use Rattle.tag_outline.specs.declared.outline.Element.{Element}
use Rattle.file_faults.specs.declared.outline.OutlineFault.TheVariants as outline_fault
use Rattle.file_faults.specs.declared.outline.FileFault.{FileFault}
use Rattle.file_faults.specs.declared.outline.FileFault.TheVariants as fault
use Rattle.element_fields.specs.Answers.{◌>>=◌, found_or, rows_of}
use Rattle.element_fields.specs.Lookup.{Placed, value_of, child, children_named}
use Rattle.element_fields.specs.Names.{label, id_in}
use Rattle.scn_reader.specs.declared.bounds.NodeBounds.{NodeBounds}
use Rattle.scn_reader.specs.declared.rows.ScnNode.{ScnNode}
use Rattle.scn_reader.specs.declared.rows.ScnRows.{ScnRows}
use Rattle.scn_reader.specs.Bounds.{node_bounds}

abbrev pub entry_word : List ℕ → Option Bool
entry_word text = if bytes_eq text (codes "entry") then Some true else if bytes_eq text (codes "exit") then Some false else None

-- whether gas enters at a node
unfoldable pub entry_in : Element → Result Bool FileFault
entry_in e = do
  text ← found_or (fault.Missing (label e) (codes "type")) (value_of (codes "type") e.attributes)
  found_or (fault.BadWord (label e) (codes "type")) (entry_word text)

unfoldable pub node_in : Placed → Result ScnNode FileFault
node_in c = do
  entry ← entry_in c.0
  id ← id_in (codes "id") c.0
  bounds ← node_bounds c.0 c.1
  Ok (record { id = id; entry = entry; f_min = bounds.flow.0; f_max = bounds.flow.1; p_min = bounds.pressure.0; p_max = bounds.pressure.1 })

-- the children `node` of an element at a depth
abbrev pub node_rows : ℕ → List Element → Result (List ScnNode) FileFault
node_rows depth below = rows_of node_in (children_named depth (codes "node") below)

-- the first scenario of a root, which these follow
unfoldable pub scenario_in : Element → List Element → Result ScnRows FileFault
scenario_in root below = do
  scenario ← found_or (fault.Missing root.name (codes "scenario")) (child root.depth (codes "scenario") below)
  nodes ← node_rows scenario.0.depth scenario.1
  Ok (record { nodes = nodes })

-- (an outline has a root)
unfoldable pub scenario_rows : List Element → Result ScnRows FileFault
scenario_rows [] = Err (fault.Outline (outline_fault.NotOutline 0))
scenario_rows (root ∷ below) = if not (bytes_eq root.name (codes "boundaryValue")) then Err fault.WrongRoot else scenario_in root below
