-- What a status says by itself: which are answers, refusals and faults, which make a file, and that it holds no want of
-- memory.
use Rattle.std.specs.Prelude.{◌≡◌, Bool, true, false, if◌then◌else◌, Option, None, Some, Result, Ok, Err}
use Rattle.problem_faults.specs.declared.flat.FlatFault.TheVariants as flat
use Rattle.file_faults.specs.declared.outline.FileFault.TheVariants as file
use Rattle.file_faults.specs.declared.outline.OutlineFault.TheVariants as outline
use Rattle.file_faults.specs.declared.table.ResFault.TheVariants as res
use Rattle.problem_faults.specs.declared.join.JoinFault.TheVariants as join
use Rattle.gas_model.specs.declared.rows.ModelFault.TheVariants as model
use Rattle.file_faults.specs.declared.setting.SettingFault.TheVariants as setting
use Rattle.tree_cert.specs.declared.fault.TreeFault.TheVariants as tree
use Rattle.command_core.specs.declared.status.InputFault.{InputFault}
use Rattle.command_core.specs.declared.status.InputFault.TheVariants.{OfFile, OfRes, OfJoin, OfFlat, OfSetting}
use Rattle.command_core.specs.declared.status.InputFile.{InputFile}
use Rattle.command_core.specs.declared.status.NotFault.TheVariants.{Tree}
use Rattle.command_core.specs.declared.status.Status.{Status}
use Rattle.command_core.specs.declared.status.Status.TheVariants as status
use Rattle.command_core.specs.declared.status.Stop.{Stop}
use Rattle.command_core.specs.declared.status.Stop.TheVariants as stop

-- why a call stopped, if it did
abbrev pub stop_in : {T : Type 0} → Result T Stop → Option Stop
stop_in (Ok x) = None
stop_in (Err e) = Some e

abbrev pub status_of : Stop → Status
status_of (stop.BadInput file fault) = status.BadInput file fault
status_of (stop.TooLong file) = status.TooLong file
status_of stop.ReadFault = status.ReadFault
status_of stop.NoMemory = status.NoMemory

-- what kind of end a status is
pub data Kind : Type 0 where
  -- an answer to plain words, with which a file is made
  makes_file : Kind
  -- an answer to plain words, with which none is
  only_tells : Kind
  -- a refusal, with which a line is said and no file is made
  refuses : Kind
  -- want of memory or a fault of writing, with which no line is said
  fails : Kind

abbrev pub kind_of : Status → Kind
kind_of status.Accepted = makes_file
kind_of status.Rejected = makes_file
kind_of (status.Undecided by) = makes_file
kind_of status.Kept = only_tells
kind_of (status.Broken law) = only_tells
kind_of status.Passes = only_tells
kind_of (status.NotRefutation fault) = only_tells
kind_of status.Written = makes_file
kind_of (status.Usage at) = refuses
kind_of (status.BadInput file fault) = refuses
kind_of (status.TooLong file) = refuses
kind_of status.ReadFault = refuses
kind_of status.NoMemory = fails
kind_of status.WriteFault = fails

abbrev pub Answers : Kind → Type 0
Answers makes_file = Unit {0}
Answers only_tells = Unit {0}
Answers refuses = ⊥
Answers fails = ⊥

abbrev pub Refuses : Kind → Type 0
Refuses makes_file = ⊥
Refuses only_tells = ⊥
Refuses refuses = Unit {0}
Refuses fails = ⊥

abbrev pub Fails : Kind → Type 0
Fails makes_file = ⊥
Fails only_tells = ⊥
Fails refuses = ⊥
Fails fails = Unit {0}

abbrev pub Makes : Kind → Type 0
Makes makes_file = Unit {0}
Makes only_tells = ⊥
Makes refuses = ⊥
Makes fails = ⊥

abbrev pub MakesNone : Kind → Type 0
MakesNone makes_file = ⊥
MakesNone only_tells = Unit {0}
MakesNone refuses = Unit {0}
MakesNone fails = ⊥

-- an answer to plain words, which no refusal and no fault is
abbrev pub IsAnswer : Status → Type 0
IsAnswer status = Answers (kind_of status)

-- a refusal
abbrev pub IsRefusal : Status → Type 0
IsRefusal status = Refuses (kind_of status)

-- want of memory or a fault of writing
abbrev pub IsFault : Status → Type 0
IsFault status = Fails (kind_of status)

-- an answer with which a file is made
abbrev pub MakesFile : Status → Type 0
MakesFile status = Makes (kind_of status)

-- a status with which no file is made: an answer of another kind, or a refusal
abbrev pub MakesNoFile : Status → Type 0
MakesNoFile status = MakesNone (kind_of status)

-- whether an input file stands for nothing only since memory ran out
abbrev pub is_want : InputFault → Bool
is_want (OfFile file.NoMemory) = true
is_want (OfFile (file.Outline outline.NoMemory)) = true
is_want (OfFile fault) = false
is_want (OfRes res.NoMemory) = true
is_want (OfRes fault) = false
is_want (OfJoin join.NoMemory) = true
is_want (OfJoin (join.Model model.NoMemory)) = true
is_want (OfJoin fault) = false
is_want (OfFlat flat.NoMemory) = true
is_want (OfFlat (flat.Model model.NoMemory)) = true
is_want (OfFlat fault) = false
is_want (OfSetting setting.NoMemory) = true
is_want (OfSetting fault) = false

abbrev pub IsOffence : InputFault → Type 0
IsOffence fault = is_want fault ≡ false

-- how reading ends where the file has this fault
abbrev pub refusal : InputFile → InputFault → Stop
refusal file fault = if is_want fault then stop.NoMemory else stop.BadInput file fault

-- a fault that the status holds is no want of memory
abbrev pub HoldsNoWant : Status → Type 0
HoldsNoWant (status.BadInput file fault) = IsOffence fault
HoldsNoWant (status.NotRefutation (Tree tree.NoMemory)) = ⊥
HoldsNoWant s = Unit {0}

-- likewise of the end of reading
abbrev pub StopHoldsNoWant : Option Stop → Type 0
StopHoldsNoWant (Some (stop.BadInput file fault)) = IsOffence fault
StopHoldsNoWant s = Unit {0}
