-- Rows of a table that are kept by word and id.
use Rattle.std.specs.Prelude.{ℕ, ◌+◌, not, List, Bool, if◌then◌else◌, Option, Some, None}
use Rattle.res_table.specs.declared.rows.ResWord.{ResWord}
use Rattle.res_table.specs.declared.rows.ResWord.TheVariants.{Pipe, Resistor, Station}
use Rattle.res_table.specs.declared.rows.ResRow.{ResRow}
use Rattle.network.specs.declared.table.Numbers.{Numbers}
use Rattle.network.specs.declared.table.Table.{Table}
use Rattle.problem_faults.specs.declared.join.JoinFault.{JoinFault}
use Rattle.problem_faults.specs.declared.join.JoinFault.TheVariants as fault
use Rattle.name_places.specs.ByName.{look}
use Rattle.network.specs.Table.{is_row, numbers}

abbrev pub look_row : Table → ResWord → List ℕ → Option Numbers
look_row t Pipe id = look t.pipes id
look_row t Resistor id = look t.resistors id
look_row t Station id = look t.stations id

abbrev pub no_rows : ResWord → List ℕ → Option Numbers
no_rows w id = None

-- this row alone
abbrev pub only_row : ResRow → ResWord → List ℕ → Option Numbers
only_row r w id = if is_row w id r then Some (numbers r) else None

-- what is wrong with a row, where it is known which were seen among so many before it
abbrev pub row_offence : (ResWord → List ℕ → Bool) → (ResWord → List ℕ → Bool) → ℕ → ResRow → Option JoinFault
row_offence taken seen before r =
    if seen r.word r.id then Some (fault.TwiceRow (before + 1))
    else if not (taken r.word r.id) then Some (fault.UnusedRow (before + 1))
    else None
