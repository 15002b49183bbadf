-- What the readers of files answer, as what reading ends with.
use Rattle.std.proofs.Common.{◌≡◌, ap}
use Rattle.std.specs.Prelude.{List, Some, Result, Ok, Err}
use Rattle.gas_model.specs.Rows.{Network}
use Rattle.problem_faults.specs.declared.flat.FlatFault.{FlatFault}
use Rattle.problem_faults.specs.declared.flat.FlatFault.TheVariants as flat
use Rattle.flat_text.specs.Text.{Fails}
use Rattle.command_core.specs.declared.status.InputFault.TheVariants.{OfFile, OfFlat, OfJoin, OfRes}
use Rattle.command_core.specs.declared.status.InputFile.{InputFile}
use Rattle.command_core.specs.declared.status.InputFile.TheVariants.{Flat, Join, Res}
use Rattle.file_faults.specs.declared.outline.FileFault.{FileFault}
use Rattle.file_faults.specs.declared.outline.FileFault.TheVariants as file
use Rattle.element_fields.specs.Answers.{Tells, fault_of}
use Rattle.file_faults.specs.declared.table.ResFault.{ResFault}
use Rattle.file_faults.specs.declared.table.ResFault.TheVariants as table
use Rattle.res_table.specs.declared.rows.ResRow.{ResRow}
use Rattle.res_table.specs.declared.rows.ResRows.{ResRows}
use Rattle.res_table.specs.Table.{Fails as FailsTable}
use Rattle.problem_faults.specs.declared.join.JoinFault.{JoinFault}
use Rattle.problem_faults.specs.declared.join.JoinFault.TheVariants as join
use Rattle.network.specs.Faults.{Fails as FailsJoin}
use Rattle.command_core.specs.Gates.{IsParsed, with_fault}
use Rattle.command_core.specs.Stops.{IsOffence, refusal}
use Rattle.command_core.proofs.Parsing.{refused_with}
use Rattle.problem_files.specs.Sources.{table_of}

flat_offence : (read : Result Network FlatFault) (e : FlatFault) → Fails e read → IsOffence (OfFlat e) → read ≡ Err e
flat_offence read flat.NoMemory h o = absurd (cc)
flat_offence read (flat.NotFlat n) h o = h
flat_offence read (flat.OverLimit n) h o = h
flat_offence read (flat.Model e) h o = h

-- a flat text that isn't read
pub flat_refused : (read : Result Network FlatFault) (e : FlatFault) → Fails e read → IsParsed Flat (with_fault OfFlat read) (Err (refusal Flat (OfFlat e)))
flat_refused read e h = refused_with Flat OfFlat read e (flat_offence read e h)

-- a file of elements that isn't read
fault_is : {X : Type 0} (read : Result X FileFault) (e : FileFault) → fault_of read ≡ Some e → read ≡ Err e
fault_is (Ok x) e h = absurd (cc)
fault_is (Err f) e h = let same : f ≡ e = cc in ap Err same

file_offence : {X : Type 0} (read : Result X FileFault) (e : FileFault) → Tells e (fault_of read) → IsOffence (OfFile e) → read ≡ Err e
file_offence read file.NoMemory h o = absurd (cc)
file_offence read (file.Outline e) h o = fault_is read (file.Outline e) h
file_offence read file.WrongRoot h o = fault_is read file.WrongRoot h
file_offence read (file.Missing a b) h o = fault_is read (file.Missing a b) h
file_offence read (file.BadValue a b) h o = fault_is read (file.BadValue a b) h
file_offence read (file.BadUnit a b) h o = fault_is read (file.BadUnit a b) h
file_offence read (file.TooLarge a b) h o = fault_is read (file.TooLarge a b) h
file_offence read (file.BadWord a b) h o = fault_is read (file.BadWord a b) h
file_offence read (file.UnknownAttribute a b) h o = fault_is read (file.UnknownAttribute a b) h

pub file_refused : {X : Type 0} (input : InputFile) (read : Result X FileFault) (e : FileFault) → Tells e (fault_of read) → IsParsed input (with_fault OfFile read) (Err (refusal input (OfFile e)))
file_refused input read e h = refused_with input OfFile read e (file_offence read e h)

table_offence : (read : Result (List ResRow) ResFault) (e : ResFault) → FailsTable e read → IsOffence (OfRes e) → table_of read ≡ Err e
table_offence read table.NoMemory h o = absurd (cc)
table_offence read (table.BadRow n) h o = ap table_of h

-- a table that isn't read
pub table_refused : (read : Result (List ResRow) ResFault) (e : ResFault) → FailsTable e read → IsParsed Res (with_fault OfRes (table_of read)) (Err (refusal Res (OfRes e)))
table_refused read e h = refused_with Res OfRes (table_of read) e (table_offence read e h)

join_offence : (read : Result Network JoinFault) (e : JoinFault) → FailsJoin e read → IsOffence (OfJoin e) → read ≡ Err e
join_offence read join.NoMemory h o = absurd (cc)
join_offence read (join.NoSuchNode id) h o = h
join_offence read (join.WrongType id) h o = h
join_offence read (join.TwiceNominated id) h o = h
join_offence read (join.NoResistance id) h o = h
join_offence read (join.NoStation id) h o = h
join_offence read (join.TwiceRow n) h o = h
join_offence read (join.UnusedRow n) h o = h
join_offence read (join.Model e) h o = h

-- files that make no problem together
pub join_refused : (read : Result Network JoinFault) (e : JoinFault) → FailsJoin e read → IsParsed Join (with_fault OfJoin read) (Err (refusal Join (OfJoin e)))
join_refused read e h = refused_with Join OfJoin read e (join_offence read e h)
