-- What a command means, and how it is concluded.
use Rattle.std.specs.Prelude.{◌≡◌, Bool, true, false, ◌≢◌, ◌⊎◌, ℕ, List, [], ◌∷◌, ◌++◌, length, map, Option, None, Some, Result, Ok, Err}
use Rattle.std.specs.Borrow.{Bor}
use Rattle.gas_desk.specs.Outside.{Outside, CountsOn, Rose, SameFiles, SameMarks, SameReads, SameWrites}
use Rattle.gas_desk.specs.Whole.{HoldsFrontOf}
use Rattle.gas_desk.specs.declared.whole.WriteStop.{WriteStop}
use Rattle.gas_desk.specs.declared.whole.WriteStop.TheVariants as write
use Rattle.command_core.specs.declared.command.Done.{Done}
use Rattle.command_core.specs.declared.status.Status.{Status}
use Rattle.command_core.specs.declared.status.Status.TheVariants as ends
use Rattle.command_core.specs.declared.status.InputFile.{InputFile}
use Rattle.command_core.specs.declared.status.InputFault.{InputFault}
use Rattle.command_core.specs.declared.status.Stop.{Stop}
use Rattle.command_core.specs.Gates.{Files, Gate, all_fine, bad, long, found, AnyRose, Ends}
use Rattle.command_core.specs.Lines.{line_of}
use Rattle.command_core.specs.Stops.{HoldsNoWant, IsAnswer, IsFault, MakesFile, MakesNoFile, status_of}

-- the names of files, as texts
abbrev pub names : List (Bor (List ℕ)) → List (List ℕ)
names words = map (λ word. word.now) words

-- a text for each OUT, or none where that OUT isn't made
abbrev pub Texts : Type 0
Texts = List (Option (List ℕ))

-- whether any OUT is made
abbrev pub has_text : Texts → Bool
has_text [] = false
has_text (None ∷ texts) = has_text texts
has_text (Some text ∷ texts) = true

-- what a command means
pub record Meaning : Type 1 where
  -- its input files in order
  pub gates : List Gate
  -- the names of its OUTs
  pub outs : List (List ℕ)
  -- which statuses it may answer
  pub may : Status → Type 0
  -- what a status says of the files before the command, with what the line adds and the texts of the OUTs
  pub answers : Files → Status → List ℕ → Texts → Type 0
  -- which status must be answered where all input files are fine
  pub due : Files → Status → Type 0

-- the command found this, which is to be written and said
pub record Does (tells : Type 0) (m : Meaning) (files : Files) (done : Done) : Type 0 where
  pub is_answer : IsAnswer done.status
  pub may : m.may done.status
  pub held : HoldsNoWant done.status
  pub made : MakesFile done.status → has_text done.texts ≡ true
  pub unmade : MakesNoFile done.status → has_text done.texts ≡ false
  pub answers : tells → m.answers files done.status done.note done.texts
  pub due : tells → (s : Status) → m.due files s → done.status ≡ s
  pub fits : length m.outs ≡ length done.texts

-- the file isn't named among these
abbrev pub NotAmong : List ℕ → List (List ℕ) → Type 0
NotAmong n [] = Unit {0}
NotAmong n (name ∷ more) = (n ≢ name) × NotAmong n more

-- no other file changed
abbrev pub SameButOuts : List (List ℕ) → Outside → Outside → Type 0
SameButOuts outs before now = (n : List ℕ) → NotAmong n outs → (now.files n ≡ before.files n) × (now.finished n ≡ before.finished n)

-- no file is named twice
abbrev pub Distinct : List (List ℕ) → Type 0
Distinct [] = Unit {0}
Distinct (name ∷ more) = NotAmong name more × Distinct more

-- an OUT holds its text, or is as before where there is none
abbrev pub IsWritten : List ℕ → Option (List ℕ) → Outside → Outside → Type 0
IsWritten out None before now = now.files out ≡ before.files out
IsWritten out (Some text) before now = (now.files out ≡ Some text) × (now.finished out ≡ true)

abbrev pub AllWritten : List (List ℕ) → Texts → Outside → Outside → Type 0
AllWritten [] [] before now = Unit {0}
AllWritten (out ∷ outs) (text ∷ texts) before now = IsWritten out text before now × AllWritten outs texts before now
AllWritten outs texts before now = ⊥

-- an OUT is as before, or holds a front of its text, which may be all of it
abbrev pub IsPart : List ℕ → Option (List ℕ) → Outside → Outside → Type 0
IsPart out None before now = now.files out ≡ before.files out
IsPart out (Some text) before now = (now.files out ≡ before.files out) ⊎ HoldsFrontOf out text now

abbrev pub AllParts : List (List ℕ) → Texts → Outside → Outside → Type 0
AllParts [] [] before now = Unit {0}
AllParts (out ∷ outs) (text ∷ texts) before now = IsPart out text before now × AllParts outs texts before now
AllParts outs texts before now = ⊥

-- the line was said once
abbrev pub SaysLine : List ℕ → Outside → Outside → Type 0
SaysLine line before now = now.said ≡ before.said ++ line ++ 10 ∷ []

-- the command answered this status: the input files are fine, and the OUTs hold its texts
pub record Answered (m : Meaning) (before now : Outside) (status : Status) : Type 0 where
  pub note : List ℕ
  pub texts : Texts
  pub is_answer : IsAnswer status
  pub fine : found m.gates before.files ≡ all_fine
  pub answers : m.answers before.files status note texts
  pub held : Distinct m.outs → AllWritten m.outs texts before now
  pub said : SaysLine (line_of status ++ note) before now

-- reading stopped so
pub record Refused (m : Meaning) (before now : Outside) (status : Status) : Type 0 where
  pub why : Stop
  pub is : status ≡ status_of why
  pub not_memory : status ≡ ends.NoMemory → ⊥
  pub ended : Ends m.gates before now (Some why)
  pub files : SameFiles before now
  pub said : SaysLine (line_of status) before now

-- the OUTs hold fronts of the texts with which the command could have ended
pub record Part (m : Meaning) (before now : Outside) : Type 0 where
  pub status : Status
  pub note : List ℕ
  pub texts : Texts
  pub fine : found m.gates before.files ≡ all_fine
  pub answers : m.answers before.files status note texts
  pub held : Distinct m.outs → AllParts m.outs texts before now

-- memory ran out, or writing failed, and no line was said
pub record Failed (m : Meaning) (before now : Outside) (status : Status) : Type 0 where
  pub is : (status ≡ ends.NoMemory) ⊎ (status ≡ ends.WriteFault)
  pub part : SameFiles before now ⊎ Part m before now
  pub silent : now.said ≡ before.said

pub data Case (m : Meaning) (before now : Outside) (status : Status) : Type 0 where
  answered : Answered m before now status → Case m before now status
  refused : Refused m before now status → Case m before now status
  failed : Failed m before now status → Case m before now status

-- how a command is concluded
pub record Concluded (tells exact : Type 0) (m : Meaning) (before now : Outside) (status : Status) : Type 0 where
  pub case : tells → Case m before now status
  pub may : IsAnswer status → m.may status
  pub held : HoldsNoWant status
  pub finished : MakesFile status → now.writing ≡ false
  pub untouched : tells → MakesNoFile status → SameFiles before now
  pub due : tells → (s : Status) → m.due before.files s → IsAnswer status → status ≡ s
  pub no_usage : (at : ℕ) → status ≡ ends.Usage at → ⊥
  pub read_fault : status ≡ ends.ReadFault → AnyRose m.gates before now
  pub write_fault : status ≡ ends.WriteFault → Rose before.write_faults now.write_faults
  pub unread : exact → (status ≡ ends.ReadFault → ⊥) → (status ≡ ends.WriteFault → ⊥) → (status ≡ ends.NoMemory → ⊥) → SameReads before now
  pub unwritten : exact → (status ≡ ends.WriteFault → ⊥) → SameWrites before now
  -- where a fault of reading gave way to another fault, no file was written: nothing is tried again
  pub no_retry : tells → exact → IsFault status → SameReads before now ⊎ SameFiles before now
  pub others : tells → SameButOuts m.outs before now
  pub counts : CountsOn before now

-- the line was said, or a fault was answered in the place of the status
pub data Spoke (tells exact : Type 0) (line : List ℕ) (status : Status) (before now : Outside) (result : Status) : Type 0 where
  spoken : result ≡ status → (tells → SaysLine line before now) → (exact → SameWrites before now) → Spoke tells exact line status before now result
  no_memory : result ≡ ends.NoMemory → (tells → now.said ≡ before.said) → (exact → SameWrites before now) → Spoke tells exact line status before now result
  unsaid : result ≡ ends.WriteFault → (tells → now.said ≡ before.said) → Rose before.write_faults now.write_faults → Spoke tells exact line status before now result

pub record Speaks (tells exact : Type 0) (line : List ℕ) (status : Status) (before now : Outside) (result : Status) : Type 0 where
  pub spoke : Spoke tells exact line status before now result
  pub writing : now.writing ≡ before.writing
  pub files : tells → SameFiles before now
  pub marks : tells → SameMarks before now
  pub unread : exact → SameReads before now
  pub counts : CountsOn before now

-- why writing stopped, if it did
abbrev pub fault_in : Result (Unit {0}) WriteStop → Option WriteStop
fault_in (Ok x) = None
fault_in (Err e) = Some e

abbrev pub fault_status : WriteStop → Status
fault_status write.Failed = ends.WriteFault
fault_status write.NoMemory = ends.NoMemory

-- the OUTs were written in order, to the end or to this fault
pub record Puts (tells exact : Type 0) (outs : List (List ℕ)) (texts : Texts) (before now : Outside) (fault : Option WriteStop) : Type 0 where
  pub whole : tells → fault ≡ None → Distinct outs → AllWritten outs texts before now
  pub finished : fault ≡ None → has_text texts ≡ true → now.writing ≡ false
  pub idle : has_text texts ≡ false → now.writing ≡ before.writing
  pub untouched : tells → has_text texts ≡ false → SameFiles before now
  pub part : tells → Distinct outs → AllParts outs texts before now
  pub others : tells → SameButOuts outs before now
  pub said : tells → now.said ≡ before.said
  pub cause : fault ≡ Some write.Failed → Rose before.write_faults now.write_faults
  pub unread : exact → SameReads before now
  pub unwritten : exact → (fault ≡ Some write.Failed → ⊥) → SameWrites before now
  pub counts : CountsOn before now

-- reading, writing or memory failed, each by its own count
abbrev pub Excused : Meaning → Outside → Outside → Status → Type 0
Excused m before now status =
    (status ≡ ends.NoMemory)
    ⊎ (((status ≡ ends.ReadFault) × AnyRose m.gates before now)
    ⊎ ((status ≡ ends.WriteFault) × Rose before.write_faults now.write_faults))

-- where a refusal or an answer is due
pub data Due (m : Meaning) (files : Files) (status : Status) : Type 0 where
  due_bad : (file : InputFile) (fault : InputFault) → found m.gates files ≡ bad file fault → status ≡ ends.BadInput file fault → Due m files status
  due_long : (file : InputFile) → found m.gates files ≡ long file → status ≡ ends.TooLong file → Due m files status
  due_answer : found m.gates files ≡ all_fine → m.due files status → Due m files status
