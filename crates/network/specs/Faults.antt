-- What may be wrong with rows that are joined, and how it is answered.
use Rattle.std.specs.Prelude.{◌≡◌, List, [], ◌∷◌, Option, Some, None, Result, Ok, Err}
use Rattle.std.specs.Option.{option_or}
use Rattle.problem_faults.specs.declared.join.JoinFault.{JoinFault}
use Rattle.problem_faults.specs.declared.join.JoinFault.TheVariants as fault

-- the first fault of items that are checked in order
abbrev pub first_fault : {A : Type 0} → (A → Option JoinFault) → List A → Option JoinFault
first_fault check [] = None
first_fault check (x ∷ xs) = option_or (check x) (first_fault check xs)

-- this fault is answered, unless memory ran out
abbrev pub Tells : JoinFault → Option JoinFault → Type 0
Tells fault.NoMemory o = Unit {0}
Tells e o = o ≡ Some e

-- an answer that isn't Ok is this one, unless memory ran out
abbrev pub Fails : {A : Type 0} → JoinFault → Result A JoinFault → Type 0
Fails fault.NoMemory read = Unit {0}
Fails e read = read ≡ Err e

-- this is answered, unless memory ran out
abbrev pub Gives : {A : Type 0} → Result A JoinFault → Result A JoinFault → Type 0
Gives (Ok x) read = read ≡ Ok x
Gives (Err e) read = Fails e read
