-- From the bytes of a file to its elements, and from them to its rows.
use Rattle.std.specs.Prelude.{◌≡◌, ◌⊎◌, ℕ, List, Result, Ok, Err}
use Rattle.tag_outline.specs.declared.outline.Element.{Element}
use Rattle.file_faults.specs.declared.outline.OutlineFault.{OutlineFault}
use Rattle.file_faults.specs.declared.outline.FileFault.{FileFault}
use Rattle.file_faults.specs.declared.outline.FileFault.TheVariants as fault
use Rattle.file_faults.specs.Held.{held}
use Rattle.tag_outline.specs.Outline.{outline_of}
use Rattle.tag_outline.specs.Grammar.{IsOutline}
use Rattle.tag_outline.specs.Offences.{IsOutlineFault}
use Rattle.element_fields.specs.Answers.{◌>>=◌}

abbrev pub as_file : {A : Type 0} → Result A OutlineFault → Result A FileFault
as_file (Ok x) = Ok x
as_file (Err e) = Err (held e)

-- the elements of a file, or the fault of its outline
unfoldable pub elements_in : List ℕ → Result (List Element) FileFault
elements_in bytes = as_file (outline_of bytes)

-- what is read of the elements, or the fault of the outline
abbrev pub file_in : {A : Type 0} → (List Element → Result A FileFault) → List ℕ → Result A FileFault
file_in read bytes = elements_in bytes >>= read

-- the bytes have an outline, and of its elements these rows are read
abbrev pub IsFile : {A : Type 0} → (List Element → Result A FileFault) → List ℕ → A → Type 0
IsFile read bytes rows = (es : List Element) × IsOutline bytes es × (read es ≡ Ok rows)

-- the bytes have an outline, and of its elements this fault is read, or they have none and this is its fault
abbrev pub IsFileFault : {A : Type 0} → (List Element → Result A FileFault) → List ℕ → FileFault → Type 0
IsFileFault read bytes f = ((es : List Element) × IsOutline bytes es × (read es ≡ Err f)) ⊎ ((o : OutlineFault) × IsOutlineFault bytes o × (f ≡ fault.Outline o))

-- what may be answered: want of memory may come at any time
abbrev pub MayFail : {A : Type 0} → (List Element → Result A FileFault) → List ℕ → FileFault → Type 0
MayFail read bytes fault.NoMemory = Unit {0}
MayFail read bytes f = IsFileFault read bytes f
