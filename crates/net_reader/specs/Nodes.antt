-- The row of a node, or its first offence.
use Rattle.std.specs.Prelude.{ℕ, List, if◌then◌else◌, Option, Some, None, Result, Ok, ℤ, pos, codes}
use Rattle.std.specs.Str.{bytes_eq}
use Rattle.gas_units.specs.declared.grid.Side.TheVariants.{Down, Up}
use Rattle.tag_outline.specs.declared.outline.Element.{Element}
use Rattle.file_faults.specs.declared.outline.FileFault.{FileFault}
use Rattle.file_faults.specs.declared.outline.FileFault.TheVariants as fault
use Rattle.element_fields.specs.declared.quantity.Sort.TheVariants.{Flow, Pressure}
use Rattle.element_fields.specs.Answers.{◌>>=◌, found_or, rows_of}
use Rattle.element_fields.specs.Lookup.{Placed, children}
use Rattle.element_fields.specs.Names.{id_in}
use Rattle.element_fields.specs.Quantities.{bound_of}
use Rattle.net_reader.specs.declared.rows.NodeWord.{NodeWord}
use Rattle.net_reader.specs.declared.rows.NodeWord.TheVariants.{Source, Sink, Inner}
use Rattle.net_reader.specs.declared.rows.NetNode.{NetNode}

abbrev pub node_word : List ℕ → Option NodeWord
node_word name =
    if bytes_eq name (codes "source") then Some Source
    else if bytes_eq name (codes "sink") then Some Sink
    else if bytes_eq name (codes "innode") then Some Inner
    else None

-- the bounds of the flow of a source, a sink or a connection
unfoldable pub flow_bounds : Element → List Element → Result (ℤ × ℤ) FileFault
flow_bounds e below = do
  low ← bound_of Flow Down (codes "flowMin") e below
  high ← bound_of Flow Up (codes "flowMax") e below
  Ok (low, high)

abbrev pub node_flows : NodeWord → Element → List Element → Result (ℤ × ℤ) FileFault
node_flows Source e below = flow_bounds e below
node_flows Sink e below = flow_bounds e below
node_flows Inner e below = Ok (pos 0, pos 0)

unfoldable pub node_of : NodeWord → Element → List Element → Result NetNode FileFault
node_of word e below = do
  id ← id_in (codes "id") e
  p_min ← bound_of Pressure Down (codes "pressureMin") e below
  p_max ← bound_of Pressure Up (codes "pressureMax") e below
  flows ← node_flows word e below
  Ok (record { id = id; word = word; p_min = p_min; p_max = p_max; f_min = flows.0; f_max = flows.1 })

-- a child of an element of this name
unfoldable pub node_in : List ℕ → Placed → Result NetNode FileFault
node_in parent c = do
  word ← found_or (fault.BadWord parent c.0.name) (node_word c.0.name)
  node_of word c.0 c.1

-- all children of an element, which these follow
abbrev pub node_rows : Element → List Element → Result (List NetNode) FileFault
node_rows parent below = rows_of (node_in parent.name) (children parent.depth below)
