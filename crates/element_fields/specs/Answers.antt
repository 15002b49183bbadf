-- Reading in steps: the first step that fails gives the fault.
use Rattle.std.specs.Prelude.{◌≡◌, List, [], ◌∷◌, Option, Some, None, Result, Ok, Err}
use Rattle.file_faults.specs.declared.outline.FileFault.{FileFault}
use Rattle.file_faults.specs.declared.outline.FileFault.TheVariants as fault

infixl 10 ◌>>=◌
abbrev pub ◌>>=◌ : {A B : Type 0} → Result A FileFault → (A → Result B FileFault) → Result B FileFault
(Ok x) >>= f = f x
(Err e) >>= f = Err e

abbrev pub fault_of : {A : Type 0} → Result A FileFault → Option FileFault
fault_of (Ok x) = None
fault_of (Err e) = Some e

-- this fault is answered, unless memory ran out
abbrev pub Tells : FileFault → Option FileFault → Type 0
Tells fault.NoMemory o = Unit {0}
Tells e o = o ≡ Some e

-- this is answered, unless memory ran out
abbrev pub Gives : {A : Type 0} → Result A FileFault → Result A FileFault → Type 0
Gives (Ok x) read = read ≡ Ok x
Gives (Err e) read = Tells e (fault_of read)

-- what must be there
abbrev pub found_or : {A : Type 0} → FileFault → Option A → Result A FileFault
found_or e None = Err e
found_or e (Some x) = Ok x

-- what each of these gives, in order, or the first fault
abbrev pub rows_of : {A B : Type 0} → (A → Result B FileFault) → List A → Result (List B) FileFault
rows_of read [] = Ok []
rows_of read (x ∷ xs) = read x >>= λ row. rows_of read xs >>= λ rows. Ok (row ∷ rows)

-- the state after each of these was taken in, in order, or the first fault
abbrev pub fold_of : {A S : Type 0} → (S → A → Result S FileFault) → S → List A → Result S FileFault
fold_of take s [] = Ok s
fold_of take s (x ∷ xs) = take s x >>= λ t. fold_of take t xs
