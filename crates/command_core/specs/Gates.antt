-- The input files of a command as a list of gates, and how reading them in order ends.
use Rattle.std.specs.Prelude.{◌≡◌, ◌⊎◌, ℕ, nat_le, if◌then◌else◌, List, [], ◌∷◌, length, Option, None, Some, Result, Ok, Err}
use Rattle.gas_desk.specs.Outside.{Outside, CountsOn, Rose, SameFiles, SameMarks, SameReads, SameWrites}
use Rattle.command_core.specs.declared.status.InputFile.{InputFile}
use Rattle.command_core.specs.declared.status.InputFault.{InputFault}
use Rattle.command_core.specs.declared.status.Stop.{Stop}
use Rattle.command_core.specs.declared.status.Stop.TheVariants as stop
use Rattle.command_core.specs.Stops.{IsOffence, StopHoldsNoWant}

-- what each named file holds
abbrev pub Files : Type 0
Files = List ℕ → Option (List ℕ)

-- what a file is: none of that name, too long, refused for this fault, or one that stands for this
pub data FileIs (X : Type 0) : Type 0 where
  absent : FileIs X
  too_long : FileIs X
  refused : InputFault → FileIs X
  stands : X → FileIs X

-- the most bytes that a text may have which is read as a whole
abbrev pub text_limit : ℕ
text_limit = 67108864

-- what a file's bytes stand for, or the fault of the file that a reader's own fault is
abbrev pub with_fault : {E X : Type 0} → (E → InputFault) → Result X E → Result X InputFault
with_fault fault (Ok x) = Ok x
with_fault fault (Err e) = Err (fault e)

abbrev pub judged : {X : Type 0} → Result X InputFault → FileIs X
judged (Ok x) = stands x
judged (Err e) = refused e

abbrev pub measured : {X : Type 0} → (limit : ℕ) → (List ℕ → Result X InputFault) → List ℕ → FileIs X
measured limit read bytes = if nat_le (length bytes) limit then judged (read bytes) else too_long

-- what a file is that may have so many bytes, by what they stand for
abbrev pub file_is : {X : Type 0} → (limit : ℕ) → (List ℕ → Result X InputFault) → Option (List ℕ) → FileIs X
file_is limit read None = absent
file_is limit read (Some bytes) = measured limit read bytes

-- what stands at a gate
pub data Standing : Type 0 where
  nothing : Standing
  overlong : Standing
  faulty : InputFault → Standing
  fine : Standing

abbrev pub standing : {X : Type 0} → FileIs X → Standing
standing absent = nothing
standing too_long = overlong
standing (refused e) = faulty e
standing (stands x) = fine

-- a gate: an input file, its name, if it has one of its own, and what stands there by what the files hold
pub record Gate : Type 0 where
  pub file : InputFile
  pub name : Option (List ℕ)
  pub stands_there : Files → Standing

-- where reading in order comes to
pub data Found : Type 0 where
  all_fine : Found
  lacking : Found
  long : InputFile → Found
  bad : InputFile → InputFault → Found

abbrev pub at_gate : InputFile → Standing → Found → Found
at_gate file nothing later = lacking
at_gate file overlong later = long file
at_gate file (faulty e) later = bad file e
at_gate file fine later = later

-- the first gate at which something else than a fine file stands
abbrev pub found : List Gate → Files → Found
found [] files = all_fine
found (gate ∷ gates) files = at_gate gate.file (gate.stands_there files) (found gates files)

-- the read count of this file rose
abbrev pub ReadRose : Option (List ℕ) → Outside → Outside → Type 0
ReadRose None before now = ⊥
ReadRose (Some name) before now = Rose (before.read_faults name) (now.read_faults name)

-- that of one of the gates
abbrev pub AnyRose : List Gate → Outside → Outside → Type 0
AnyRose [] before now = ⊥
AnyRose (gate ∷ gates) before now = ReadRose gate.name before now ⊎ AnyRose gates before now

-- that of one before which only fine files stand
abbrev pub RoseInOrder : List Gate → Outside → Outside → Type 0
RoseInOrder [] before now = ⊥
RoseInOrder (gate ∷ gates) before now = ReadRose gate.name before now ⊎ ((gate.stands_there before.files ≡ fine) × RoseInOrder gates before now)

-- how reading ends: all files are fine, or the first that isn't is this one, or memory ran out
abbrev pub Ends : List Gate → Outside → Outside → Option Stop → Type 0
Ends gates before now None = found gates before.files ≡ all_fine
Ends gates before now (Some (stop.BadInput file fault)) = found gates before.files ≡ bad file fault
Ends gates before now (Some (stop.TooLong file)) = found gates before.files ≡ long file
Ends gates before now (Some stop.ReadFault) = RoseInOrder gates before now
Ends gates before now (Some stop.NoMemory) = Unit {0}

-- the gates were read in order, to the end or to this stop; nothing was written or said
pub record Reads (tells exact : Type 0) (gates : List Gate) (before now : Outside) (stopped : Option Stop) : Type 0 where
  pub ended : tells → Ends gates before now stopped
  pub cause : stopped ≡ Some stop.ReadFault → AnyRose gates before now
  pub held : StopHoldsNoWant stopped
  pub files : tells → SameFiles before now
  pub said : tells → now.said ≡ before.said
  pub marks : tells → SameMarks before now
  pub unread : exact → (stopped ≡ Some stop.ReadFault → ⊥) → SameReads before now
  pub unwritten : exact → SameWrites before now
  pub counts : CountsOn before now

-- the gate of a file of this name that may have so many bytes, by what they stand for; it holds no more of them than whether
-- the file is fine
abbrev pub gate_of : {X : Type 0} → InputFile → (limit : ℕ) → (List ℕ → Result X InputFault) → List ℕ → Gate
gate_of file limit read name = record { file = file; name = Some name; stands_there = λ files. standing (file_is limit read (files name)) }

-- any bytes stand for themselves
abbrev pub any_bytes : List ℕ → Result (List ℕ) InputFault
any_bytes bytes = Ok bytes

-- what a reader of a file's bytes answers, by what they stand for, unless memory runs out
abbrev pub IsParsed : {X : Type 0} → InputFile → Result X InputFault → Result X Stop → Type 0
IsParsed file read (Ok x) = read ≡ Ok x
IsParsed file read (Err (stop.BadInput f fault)) = (f ≡ file) × IsOffence fault × (read ≡ Err fault)
IsParsed file read (Err (stop.TooLong f)) = ⊥
IsParsed file read (Err stop.ReadFault) = ⊥
IsParsed file read (Err stop.NoMemory) = Unit {0}
