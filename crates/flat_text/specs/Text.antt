-- The problem that a text is, or the first line at fault.
use Rattle.std.specs.Prelude.{◌≡◌, ℕ, ◌+◌, ◌==◌, List, [], ◌∷◌, ◌++◌, length, take, drop, Bool, if◌then◌else◌, Option, Some, None, Result, Ok, Err, codes}
use Rattle.std.specs.Str.{bytes_eq}
use Rattle.gas_model.specs.declared.rows.Rows.{Rows}
use Rattle.gas_model.specs.declared.rows.ModelFault.{ModelFault}
use Rattle.gas_model.specs.Rows.{Network, problem_of}
use Rattle.flat_text.specs.declared.fault.LineFault.{LineFault}
use Rattle.flat_text.specs.declared.fault.LineFault.TheVariants as line_fault
use Rattle.problem_faults.specs.declared.flat.FlatFault.{FlatFault}
use Rattle.problem_faults.specs.declared.flat.FlatFault.TheVariants as fault
use Rattle.flat_text.specs.declared.line.Item.{Item}
use Rattle.flat_text.specs.declared.line.Part.{Part}
use Rattle.flat_text.specs.declared.line.Part.TheVariants as part
use Rattle.flat_text.specs.Line.{line_in, part_after}
use Rattle.flat_text.specs.Items.{rows_in}

infixl 10 ◌>>=◌
abbrev pub ◌>>=◌ : {A B : Type 0} → Result A FlatFault → (A → Result B FlatFault) → Result B FlatFault
(Ok x) >>= f = f x
(Err e) >>= f = Err e

-- an answer that isn't Ok is this one, unless memory ran out
abbrev pub Fails : {Y : Type 0} → FlatFault → Result Y FlatFault → Type 0
Fails fault.NoMemory read = Unit {0}
Fails (fault.NotFlat n) read = read ≡ Err (fault.NotFlat n)
Fails (fault.OverLimit n) read = read ≡ Err (fault.OverLimit n)
Fails (fault.Model e) read = read ≡ Err (fault.Model e)

-- an answer is this one, seen so, unless memory ran out
abbrev pub Gives : {X Y : Type 0} → (X → Y) → Result X FlatFault → Result Y FlatFault → Type 0
Gives view (Ok x) read = read ≡ Ok (view x)
Gives view (Err e) read = Fails e read

-- this problem is answered, unless memory ran out
abbrev pub IsRead : Network → Result Network FlatFault → Type 0
IsRead q (Ok p) = p ≡ q
IsRead q (Err e) = e ≡ fault.NoMemory

-- a fault of a line, with the line's number
abbrev pub numbered : {A : Type 0} → ℕ → Result A LineFault → Result A FlatFault
numbered n (Ok x) = Ok x
numbered n (Err line_fault.NotFlat) = Err (fault.NotFlat n)
numbered n (Err line_fault.OverLimit) = Err (fault.OverLimit n)
numbered n (Err line_fault.NoMemory) = Err fault.NoMemory

abbrev pub placed : ℕ → Part → List ℕ → Result (Option Item) FlatFault
placed n place bytes = numbered n (line_in place bytes)

-- line n is `end`, and nothing comes after it
abbrev pub no_more : ℕ → Bool → Result (List Item) FlatFault
no_more n last = if last then Ok [] else Err (fault.NotFlat (n + 1))

-- the item of line n, and those of the lines after it
abbrev pub followed : ℕ → Bool → (Part → Result (List Item) FlatFault) → Option Item → Result (List Item) FlatFault
followed n last others None = no_more n last
followed n last others (Some item) = others (part_after item) >>= λ items. Ok (item ∷ items)

-- the items of a text from line n on, of which these bytes were passed
unfoldable pub items_at : ℕ → Part → List ℕ → List ℕ → Result (List Item) FlatFault
items_at n place line [] = Err (fault.NotFlat n)
items_at n place line (b ∷ rest) =
    if b == 10 then (placed n place line >>= followed n (length rest == 0) (λ next. items_at (n + 1) next [] rest))
    else items_at n place (line ++ b ∷ []) rest

abbrev pub head_line : List ℕ
head_line = codes "gasflat 1" ++ 10 ∷ []

-- what comes after the head line
unfoldable pub after_head : List ℕ → Result (List ℕ) FlatFault
after_head bytes = if bytes_eq (take 10 bytes) head_line then Ok (drop 10 bytes) else Err (fault.NotFlat 1)

-- the rows that the lines after the head line spell
abbrev pub rows_at : List ℕ → Result Rows FlatFault
rows_at bytes = items_at 2 part.Nodes [] bytes >>= λ items. Ok (rows_in items)

abbrev pub modelled : Result Network ModelFault → Result Network FlatFault
modelled (Ok p) = Ok p
modelled (Err e) = Err (fault.Model e)

-- the problem that the bytes spell, or the first fault
unfoldable pub flat_of : List ℕ → Result Network FlatFault
flat_of bytes = do
  rest ← after_head bytes
  rows ← rows_at rest
  modelled (problem_of rows)
