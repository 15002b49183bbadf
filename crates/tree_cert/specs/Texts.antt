-- The text of a tree as bytes: its lines, a walk over them, and its first fault.
use Rattle.std.specs.Prelude.{◌≡◌, ℕ, ◌+◌, ◌≤◌, ◌==◌, length, map, take, slice_get, List, [], ◌∷◌, ◌++◌, if◌then◌else◌, Option, Some, None, Result, Ok, Err}
use Rattle.tree_cert.specs.declared.fault.FaultKind.{FaultKind}
use Rattle.tree_cert.specs.declared.fault.FaultKind.TheVariants.{NotTree, WideNumber}
use Rattle.tree_cert.specs.declared.fault.LineFault.{LineFault}
use Rattle.tree_cert.specs.declared.fault.LineFault.TheVariants as line_fault
use Rattle.tree_cert.specs.declared.line.Line.{Line}
use Rattle.tree_cert.specs.declared.line.Line.TheVariants as lines
use Rattle.tree_cert.specs.Tree.{Tree}
use Rattle.tree_cert.specs.TreeRules.{TreeRules, IsTextOf, PassesWhole}
use Rattle.tree_cert.specs.Spelling.{AreLines}
use Rattle.tree_cert.specs.Reading.{line_of}
use Rattle.tree_cert.specs.Place.{Place, Start, read, read_end}

-- the bytes cut after each line feed, after those that were passed of the first piece
abbrev pub pieces_after : List ℕ → List ℕ → List (List ℕ)
pieces_after passed [] = if length passed == 0 then [] else passed ∷ []
pieces_after passed (b ∷ bytes) = if b == 10 then (passed ++ 10 ∷ []) ∷ pieces_after [] bytes else pieces_after (passed ++ b ∷ []) bytes

-- the bytes cut after each line feed; what is left after the last one is a piece of its own
abbrev pub pieces : List ℕ → List (List ℕ)
pieces bytes = pieces_after [] bytes

-- a line of a text as it is read, or what is wrong with its form
abbrev pub Read : Type 0
Read = Result Line FaultKind

abbrev pub told : Result Line LineFault → Read
told (Ok l) = Ok l
told (Err line_fault.Wide) = Err WideNumber
told (Err fault) = Err NotTree

abbrev pub lines_in : List ℕ → List Read
lines_in bytes = map (λ piece. told (line_of piece)) (pieces bytes)

infixl 10 ◌>>=◌
abbrev pub ◌>>=◌ : {A B : Type 0} → Result A FaultKind → (A → Result B FaultKind) → Result B FaultKind
(Ok x) >>= f = f x
(Err e) >>= f = Err e

-- the place after a line, whose form is looked at before its place
abbrev pub next : (g : TreeRules) → Place g → Read → Result (Place g) FaultKind
next g p r = r >>= read g p

-- the place after all of the lines
abbrev pub walk : (g : TreeRules) → Place g → List Read → Result (Place g) FaultKind
walk g p [] = Ok p
walk g p (r ∷ rs) = next g p r >>= λ q. walk g q rs

-- the place after this line, or after the end of the text
abbrev pub next_or_end : (g : TreeRules) → Place g → Option Read → Result (Place g) FaultKind
next_or_end g p None = read_end g p
next_or_end g p (Some r) = next g p r

-- The lines before this one, which are numbered from 1, lead to a place, and there this line has the fault, or the text
-- ends with it.
pub record IsFirstFault (g : TreeRules) (rs : List Read) (line : ℕ) (fault : FaultKind) : Type 0 where
  pub before : ℕ
  pub number : line ≡ before + 1
  pub count : before ≤ length rs
  pub place : Place g
  pub walked : walk g Start (take before rs) ≡ Ok place
  pub offends : next_or_end g place (slice_get rs before) ≡ Err fault

abbrev pub FirstFault : TreeRules → List ℕ → ℕ → FaultKind → Type 0
FirstFault g bytes line fault = IsFirstFault g (lines_in bytes) line fault

-- the first line that leaves a box open, where the first of these lines has number n
abbrev pub open_from : ℕ → List Line → Option ℕ
open_from n [] = None
open_from n (lines.LeftOpen ∷ ls) = Some n
open_from n (l ∷ ls) = open_from (n + 1) ls

-- the first line of a text that leaves a box open; its first line is none of a box
abbrev pub first_open : List Line → Option ℕ
first_open [] = None
first_open (l ∷ ls) = open_from 2 ls

-- the bytes are the text of a tree that passes, with no box left open
pub record PassesWholeText (g : TreeRules) (bytes : List ℕ) : Type 0 where
  pub lines : List Line
  pub text : AreLines bytes lines
  pub passes : PassesWhole g lines

-- the bytes are the text of a tree that passes, whose first box left open has this line
pub record PassesPartText (g : TreeRules) (bytes : List ℕ) (line : ℕ) : Type 0 where
  pub lines : List Line
  pub text : AreLines bytes lines
  pub tree : Tree
  pub passes : IsTextOf g lines tree
  pub opened : first_open lines ≡ Some line

-- what a text is found to be: it refutes, or does so but for boxes of which the first has this line, or it has this fault first
pub data Finding : Type 0 where
  Refutes : Finding
  Partial : (first_open : ℕ) → Finding
  Fails : (line : ℕ) → FaultKind → Finding

abbrev pub IsFinding : TreeRules → List ℕ → Finding → Type 0
IsFinding g bytes Refutes = PassesWholeText g bytes
IsFinding g bytes (Partial line) = PassesPartText g bytes line
IsFinding g bytes (Fails line fault) = FirstFault g bytes line fault
