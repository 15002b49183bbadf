-- The row that a record is.
use Rattle.std.specs.Prelude.{ℕ, ◌==◌, ◌&&◌, not, List, length, Bool, if◌then◌else◌, Option, Some, None, option_and_then, ℤ}
use Rattle.csv.specs.Records.{field_at}
use Rattle.gas_model.specs.Limits.{is_drag_within, is_ratio_within}
use Rattle.base_types.specs.Numbers.{is_difference}
use Rattle.res_table.specs.declared.rows.ResWord.{ResWord}
use Rattle.res_table.specs.declared.rows.ResWord.TheVariants.{Pipe, Resistor, Station}
use Rattle.res_table.specs.declared.rows.ResRow.{ResRow}
use Rattle.res_table.specs.Fields.{word_named, id_named, number_named}

infixl 10 ◌>>=◌
abbrev pub ◌>>=◌ : {A B : Type 0} → Option A → (A → Option B) → Option B
o >>= f = option_and_then f o

-- The numbers lie in the limits of their word: those of a resistance from a / c to b / c with a at most b, or those of the
-- ratio a / b and the rise c.
abbrev pub is_within : ResWord → ℤ → ℤ → ℤ → Bool
is_within Pipe a b c = is_drag_within (record { lo = a; hi = b; den = c })
is_within Resistor a b c = is_drag_within (record { lo = a; hi = b; den = c })
is_within Station a b c = is_difference c && is_ratio_within a b

abbrev pub is_row_within : ResRow → Bool
is_row_within r = is_within r.word r.a r.b r.c

-- the row that the fields are, whatever its numbers
unfoldable pub row_of : List (List ℕ) → Option ResRow
row_of fields = do
  word ← field_at fields 0 >>= word_named
  id ← field_at fields 1 >>= id_named
  a ← field_at fields 2 >>= number_named
  b ← field_at fields 3 >>= number_named
  c ← field_at fields 4 >>= number_named
  Some (record { word = word; id = id; a = a; b = b; c = c })

-- the row, if its numbers lie in their limits
abbrev pub limited : ResRow → Option ResRow
limited r = if is_row_within r then Some r else None

-- The row that a record is: five fields, each what it must be, and numbers in their limits. No other record is a row.
abbrev pub row_in : List (List ℕ) → Option ResRow
row_in fields = if not (length fields == 5) then None else (row_of fields >>= limited)
