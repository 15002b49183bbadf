-- The rows of a table, or its first bad record.
use Rattle.std.specs.Prelude.{◌≡◌, ℕ, ◌+◌, List, [], ◌∷◌, Option, Some, None, Result, Ok, Err}
use Rattle.csv.specs.Reading.{default_config, strip_bom, records}
use Rattle.res_table.specs.declared.rows.ResRow.{ResRow}
use Rattle.file_faults.specs.declared.table.ResFault.{ResFault}
use Rattle.file_faults.specs.declared.table.ResFault.TheVariants as fault
use Rattle.res_table.specs.Row.{row_in}

infixl 10 ◌>>=◌
abbrev pub ◌>>=◌ : {A B : Type 0} → Result A ResFault → (A → Result B ResFault) → Result B ResFault
(Ok x) >>= f = f x
(Err e) >>= f = Err e

-- the row of this number, which must be one
abbrev pub found_at : ℕ → Option ResRow → Result ResRow ResFault
found_at number None = Err (fault.BadRow number)
found_at number (Some row) = Ok row

-- the rows of records, of which the first has this number
abbrev pub rows_from : ℕ → List (List (List ℕ)) → Result (List ResRow) ResFault
rows_from number [] = Ok []
rows_from number (fields ∷ others) =
    found_at number (row_in fields) >>= λ row. rows_from (number + 1) others >>= λ rows. Ok (row ∷ rows)

-- The rows of a table, or its first bad record: the records are those that a text of comma-separated fields has with no header
-- row, after a byte order mark, and each is a row.
unfoldable pub resistance_rows : List ℕ → Result (List ResRow) ResFault
resistance_rows bytes = rows_from 1 (records default_config (strip_bom bytes))

-- an answer that isn't Ok is this one, unless memory ran out
abbrev pub Fails : ResFault → Result (List ResRow) ResFault → Type 0
Fails fault.NoMemory read = Unit {0}
Fails (fault.BadRow number) read = read ≡ Err (fault.BadRow number)

-- an answer is this one, seen so, unless memory ran out
abbrev pub Gives : {X : Type 0} → (X → List ResRow) → Result X ResFault → Result (List ResRow) ResFault → Type 0
Gives view (Ok x) read = read ≡ Ok (view x)
Gives view (Err e) read = Fails e read
