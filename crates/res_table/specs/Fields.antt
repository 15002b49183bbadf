-- What a field of a record is.
use Rattle.std.specs.Prelude.{ℕ, List, if◌then◌else◌, Option, Some, None, option_and_then, ◌^◌, nat_lt, ℤ, pos, codes}
use Rattle.std.specs.Str.{bytes_eq}
use Rattle.base_types.specs.Ids.{is_id}
use Rattle.line_text.specs.Numerals.{natural}
use Rattle.res_table.specs.declared.rows.ResWord.{ResWord}
use Rattle.res_table.specs.declared.rows.ResWord.TheVariants.{Pipe, Resistor, Station}

-- the first field
abbrev pub word_named : List ℕ → Option ResWord
word_named field =
    if bytes_eq field (codes "pipe") then Some Pipe
    else if bytes_eq field (codes "resistor") then Some Resistor
    else if bytes_eq field (codes "station") then Some Station
    else None

-- the second field, which has the limits of an id
abbrev pub id_named : List ℕ → Option (List ℕ)
id_named field = if is_id field then Some field else None

-- a number that 64 signed bits hold; every limit of a row lies far below
abbrev pub held : ℕ → Option ℤ
held n = if nat_lt n (2 ^ 63) then Some (pos n) else None

-- each other field: digits, with no needless zero in front and no sign
abbrev pub number_named : List ℕ → Option ℤ
number_named field = option_and_then held (natural field)
