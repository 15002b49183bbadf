-- The row of a connection, or its first offence.
use Rattle.std.specs.Prelude.{ℕ, List, if◌then◌else◌, Option, Some, None, unwrap_or, Result, Ok, ℤ, pos, ◌+ℤ◌, ◌-ℤ◌, int_le, not, codes}
use Rattle.std.specs.Str.{bytes_eq}
use Rattle.gas_units.specs.declared.grid.Side.TheVariants.{Down, Up}
use Rattle.tag_outline.specs.declared.outline.Element.{Element}
use Rattle.file_faults.specs.declared.outline.FileFault.{FileFault}
use Rattle.file_faults.specs.declared.outline.FileFault.TheVariants as fault
use Rattle.element_fields.specs.declared.quantity.Sort.TheVariants.{Pressure, Difference}
use Rattle.element_fields.specs.Answers.{◌>>=◌, found_or, rows_of}
use Rattle.element_fields.specs.Lookup.{Placed, child, children}
use Rattle.element_fields.specs.Names.{label, id_in}
use Rattle.element_fields.specs.Quantities.{bound_of, bounds_in}
use Rattle.net_reader.specs.Nodes.{flow_bounds}
use Rattle.net_reader.specs.declared.arc.Connection.{Connection}
use Rattle.net_reader.specs.declared.arc.Connection.TheVariants.{Pipe, ShortPipe, Resistor, Valve, ControlValve, CompressorStation}
use Rattle.net_reader.specs.declared.rows.ArcWord.{ArcWord}
use Rattle.net_reader.specs.declared.rows.ArcWord.TheVariants as arc_word
use Rattle.net_reader.specs.declared.rows.NetArc.{NetArc}

abbrev pub connection_of : List ℕ → Option Connection
connection_of name =
    if bytes_eq name (codes "pipe") then Some Pipe
    else if bytes_eq name (codes "shortPipe") then Some ShortPipe
    else if bytes_eq name (codes "resistor") then Some Resistor
    else if bytes_eq name (codes "valve") then Some Valve
    else if bytes_eq name (codes "controlValve") then Some ControlValve
    else if bytes_eq name (codes "compressorStation") then Some CompressorStation
    else None

-- the ids of a connection and of the nodes at its ends
unfoldable pub ends_in : Element → Result (List ℕ × List ℕ × List ℕ) FileFault
ends_in e = do
  id ← id_in (codes "id") e
  from ← id_in (codes "from") e
  to ← id_in (codes "to") e
  Ok (id, from, to)

-- the greatest pressure within a pipe
abbrev pub p_max_of : Connection → Element → List Element → Result ℤ FileFault
p_max_of Pipe e below = bound_of Pressure Up (codes "pressureMax") e below
p_max_of ShortPipe e below = Ok (pos 100000000)
p_max_of Resistor e below = Ok (pos 100000000)
p_max_of Valve e below = Ok (pos 100000000)
p_max_of ControlValve e below = Ok (pos 100000000)
p_max_of CompressorStation e below = Ok (pos 100000000)

abbrev pub Bounds : Type 0
Bounds = ℤ × ℤ

abbrev pub optional : (Element → Result Bounds FileFault) → Option Placed → Result (Option Bounds) FileFault
optional read None = Ok None
optional read (Some q) = read q.0 >>= λ x. Ok (Some x)

-- the bounds that a difference gives, if it is there
abbrev pub optional_bounds : List ℕ → Element → List Element → Result (Option Bounds) FileFault
optional_bounds name e below = optional (bounds_in Difference (label e)) (child e.depth name below)

-- the bounds of a loss, which is 0 if it isn't there
unfoldable pub loss_bounds : List ℕ → Element → List Element → Result Bounds FileFault
loss_bounds name e below = optional_bounds name e below >>= λ o. Ok (unwrap_or o (pos 0, pos 0))

-- the least pressure before an active connection, and the greatest after it
unfoldable pub inner_bounds : Element → List Element → Result Bounds FileFault
inner_bounds e below = do
  in_min ← bound_of Pressure Down (codes "pressureInMin") e below
  out_max ← bound_of Pressure Up (codes "pressureOutMax") e below
  Ok (in_min, out_max)

-- the least and the greatest reduction of a control valve
unfoldable pub reductions : Element → List Element → Result Bounds FileFault
reductions e below = do
  low ← bound_of Difference Down (codes "pressureDifferentialMin") e below
  high ← bound_of Difference Up (codes "pressureDifferentialMax") e below
  Ok (low, high)

-- The bounds of a control valve with its losses: what it needs before it and the least that it reduces grow by the lower bound of the losses,
-- what it may give after it falls by it, and the most that it reduces grows by the upper one. There are none where nothing may be given.
abbrev pub reduced : Bounds → Bounds → Bounds → Bounds → Option ArcWord
reduced inner reduction loss_in loss_out =
    if not (int_le loss_out.0 inner.1) then None
    else Some (arc_word.Control (inner.0 +ℤ loss_in.0) (inner.1 -ℤ loss_out.0) ((reduction.0 +ℤ loss_in.0) +ℤ loss_out.0) ((reduction.1 +ℤ loss_in.1) +ℤ loss_out.1))

unfoldable pub control_in : Element → List Element → Result ArcWord FileFault
control_in e below = do
  inner ← inner_bounds e below
  reduction ← reductions e below
  loss_in ← loss_bounds (codes "pressureLossIn") e below
  loss_out ← loss_bounds (codes "pressureLossOut") e below
  found_or (fault.TooLarge (label e) (codes "pressureLossOut")) (reduced inner reduction loss_in loss_out)

unfoldable pub station_in : Element → List Element → Result ArcWord FileFault
station_in e below = do
  inner ← inner_bounds e below
  Ok (arc_word.Station inner.0 inner.1)

-- a resistor without a loss has the law of a pipe
unfoldable pub resistor_in : Element → List Element → Result ArcWord FileFault
resistor_in e below = do
  loss ← optional_bounds (codes "pressureLoss") e below
  Ok (arc_word.Resistor loss)

abbrev pub own_word : Connection → Element → List Element → Result ArcWord FileFault
own_word Pipe e below = Ok arc_word.Pipe
own_word ShortPipe e below = Ok arc_word.Short
own_word Resistor e below = resistor_in e below
own_word Valve e below = Ok arc_word.Valve
own_word ControlValve e below = control_in e below
own_word CompressorStation e below = station_in e below

unfoldable pub arc_of : Connection → Element → List Element → Result NetArc FileFault
arc_of word e below = do
  ends ← ends_in e
  flows ← flow_bounds e below
  p_max ← p_max_of word e below
  own ← own_word word e below
  Ok (record { id = ends.0; from = ends.1; to = ends.2; q_min = flows.0; q_max = flows.1; p_max = p_max; word = own })

-- a child of an element of this name
unfoldable pub arc_in : List ℕ → Placed → Result NetArc FileFault
arc_in parent c = do
  word ← found_or (fault.BadWord parent c.0.name) (connection_of c.0.name)
  arc_of word c.0 c.1

-- all children of an element, which these follow
abbrev pub arc_rows : Element → List Element → Result (List NetArc) FileFault
arc_rows parent below = rows_of (arc_in parent.name) (children parent.depth below)
