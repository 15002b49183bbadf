-- The table of resistances: which row a connection takes, and which rows are no connection's.
use Rattle.std.specs.Prelude.{ℕ, ◌+◌, ◌&&◌, not, List, [], length, Bool, true, false, if◌then◌else◌, Option, Some, None, is_none, unwrap_or, option_map, option_and_then}
use Rattle.std.specs.List.{find, list_any}
use Rattle.std.specs.Option.{option_map_or}
use Rattle.std.specs.Str.{bytes_eq}
use Rattle.gas_model.specs.declared.rows.Drag.{Drag}
use Rattle.gas_model.specs.declared.rows.ArcKind.{ArcKind}
use Rattle.gas_model.specs.declared.rows.ArcKind.TheVariants as kind
use Rattle.gas_model.specs.declared.rows.ArcText.{ArcText}
use Rattle.gas_model.specs.Rows.{first_offence}
use Rattle.net_reader.specs.declared.rows.NetArc.{NetArc}
use Rattle.net_reader.specs.declared.rows.ArcWord.{ArcWord}
use Rattle.net_reader.specs.declared.rows.ArcWord.TheVariants as word
use Rattle.res_table.specs.declared.rows.ResWord.{ResWord}
use Rattle.res_table.specs.declared.rows.ResWord.TheVariants.{Pipe, Resistor, Station}
use Rattle.res_table.specs.declared.rows.ResRow.{ResRow}
use Rattle.network.specs.declared.table.Numbers.{Numbers}
use Rattle.problem_faults.specs.declared.join.JoinFault.{JoinFault}
use Rattle.problem_faults.specs.declared.join.JoinFault.TheVariants as fault
use Rattle.network.specs.Faults.{first_fault}

abbrev pub is_word : ResWord → ResWord → Bool
is_word Pipe Pipe = true
is_word Pipe Resistor = false
is_word Pipe Station = false
is_word Resistor Pipe = false
is_word Resistor Resistor = true
is_word Resistor Station = false
is_word Station Pipe = false
is_word Station Resistor = false
is_word Station Station = true

-- a row has this word and this id
abbrev pub is_row : ResWord → List ℕ → ResRow → Bool
is_row w id r = is_word w r.word && bytes_eq id r.id

abbrev pub numbers : ResRow → Numbers
numbers r = record { a = r.a; b = r.b; c = r.c }

-- the numbers of rows by their words and ids
abbrev pub Lookup : Type 0
Lookup = ResWord → List ℕ → Option Numbers

-- the numbers of the first row of a word and an id
abbrev pub in_table : List ResRow → Lookup
in_table rows w id = option_map numbers (find (is_row w id) rows)

-- ---- what a connection takes
-- the word of the row that a connection takes: a resistor with a loss takes none
abbrev pub row_word : ArcWord → Option ResWord
row_word word.Pipe = Some Pipe
row_word word.Short = None
row_word (word.Resistor None) = Some Resistor
row_word (word.Resistor (Some loss)) = None
row_word word.Valve = None
row_word (word.Control in_min out_max red_min red_max) = None
row_word (word.Station in_min out_max) = Some Station

abbrev pub row_of : Lookup → NetArc → Option Numbers
row_of table a = option_and_then (λ w. table w a.id) (row_word a.word)

abbrev pub drag : Numbers → Drag
drag n = record { lo = n.a; hi = n.b; den = n.c }

-- what a connection is, where it has the row that it takes
abbrev pub kind_with : ArcWord → Option Numbers → Option ArcKind
kind_with word.Pipe row = option_map (λ n. kind.Pipe (drag n)) row
kind_with word.Short row = Some kind.Short
kind_with (word.Resistor None) row = option_map (λ n. kind.Resist (drag n)) row
kind_with (word.Resistor (Some loss)) row = Some (kind.Loss loss.0 loss.1)
kind_with word.Valve row = Some kind.Valve
kind_with (word.Control in_min out_max red_min red_max) row = Some (kind.Control in_min out_max red_min red_max)
kind_with (word.Station in_min out_max) row = option_map (λ n. kind.Station in_min out_max n.a n.b n.c) row

abbrev pub kind_of : Lookup → NetArc → Option ArcKind
kind_of table a = kind_with a.word (row_of table a)

-- the fault of a connection without its row
abbrev pub missing_row : ArcWord → List ℕ → JoinFault
missing_row (word.Station in_min out_max) id = fault.NoStation id
missing_row w id = fault.NoResistance id

abbrev pub arc_fault : Lookup → NetArc → Option JoinFault
arc_fault table a = if is_none (kind_of table a) then Some (missing_row a.word a.id) else None

-- the first connection without its row
abbrev pub arcs_fault : Lookup → List NetArc → Option JoinFault
arcs_fault table arcs = first_fault (arc_fault table) arcs

-- the arc that a connection is, with the numbers of its row
abbrev pub arc_text : Lookup → NetArc → ArcText
arc_text table a = record { id = a.id; from = a.from; to = a.to; q_min = a.q_min; q_max = a.q_max; kind = unwrap_or (kind_of table a) kind.Short }

-- ---- which rows are taken
-- a connection takes the row of this word and this id
abbrev pub takes : ResWord → List ℕ → NetArc → Bool
takes w id a = option_map_or (is_word w) (row_word a.word) false && bytes_eq id a.id

-- some connection takes it
abbrev pub is_taken : List NetArc → ResWord → List ℕ → Bool
is_taken arcs w id = list_any (takes w id) arcs

-- what is wrong with a row, after these rows: it stands twice, or no connection takes it
abbrev pub row_fault : (ResWord → List ℕ → Bool) → List ResRow → ResRow → Option JoinFault
row_fault taken earlier r =
    if list_any (is_row r.word r.id) earlier then Some (fault.TwiceRow (length earlier + 1))
    else if not (taken r.word r.id) then Some (fault.UnusedRow (length earlier + 1))
    else None

-- the first offence of rows
abbrev pub table_fault : (ResWord → List ℕ → Bool) → List ResRow → Option JoinFault
table_fault taken rows = first_offence (λ r. r) (row_fault taken) [] rows
