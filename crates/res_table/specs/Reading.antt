-- What a reader of records has left, and what a read takes.
use Rattle.std.specs.Prelude.{◌≡◌, ℕ, List, Bool, true, false, Option, Some, None}
use Rattle.csv.specs.Machine.{Read}
use Rattle.csv.specs.Reading.{Ready, default_config, source_of, reader_config, reader_trim, reader_state, is_flexible}
use Rattle.csv.specs.declared.parser.State.{State}
use Rattle.csv.specs.declared.error.ErrorKind.{ErrorKind}
use Rattle.csv.specs.declared.error.ErrorKind.TheVariants as kind
use Rattle.csv.specs.declared.reader.Reader.{Reader}
use Rattle.csv.specs.declared.reader.Trim.TheVariants as trim
use denote.Bor.{Bor}

abbrev pub Bytes : Type 0
Bytes = Bor (List ℕ)

-- the reader stands before this text, in this state, and takes records of any length as they are
pub record Stands (reader : Reader Bytes) (s : State) (text : List ℕ) : Type 0 where
  pub config : reader_config reader ≡ default_config
  pub trims : reader_trim reader ≡ trim.None
  pub flexible : is_flexible reader ≡ true
  pub ready : Ready reader
  pub state : reader_state reader ≡ s
  pub source : source_of (λ (b : Bytes). Some b.now) reader ≡ Some text

-- the reader takes records of any length
abbrev pub CanRead : Reader Bytes → Type 0
CanRead reader = (is_flexible reader ≡ true) × Ready reader

-- memory, or the source, is wanting
abbrev pub IsWant : ErrorKind → Type 0
IsWant kind.OutOfMemory = Unit {0}
IsWant (kind.Io e) = Unit {0}
IsWant (kind.Utf8 pos err) = ⊥
IsWant (kind.UnequalLengths pos expected len) = ⊥
IsWant (kind.Serialize text) = ⊥
IsWant (kind.Deserialize pos err) = ⊥

-- whether there was a next record, its fields, and where the reader stands after it
abbrev pub Took : Option Read → Bool → List (List ℕ) → Reader Bytes → Type 0
Took None found fields reader = found ≡ false
Took (Some r) found fields reader = (found ≡ true) × (fields ≡ r.0) × Stands reader r.1 r.2
