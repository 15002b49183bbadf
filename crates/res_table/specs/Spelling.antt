-- The fields that spell a row.
use Rattle.std.specs.Prelude.{◌≡◌, ℕ, List, [], ◌∷◌, Some, true, codes}
use Rattle.line_text.specs.Numerals.{signed_numeral}
use Rattle.base_types.specs.Ids.{is_id}
use Rattle.res_table.specs.declared.rows.ResWord.{ResWord}
use Rattle.res_table.specs.declared.rows.ResWord.TheVariants.{Pipe, Resistor, Station}
use Rattle.res_table.specs.declared.rows.ResRow.{ResRow}
use Rattle.res_table.specs.Row.{is_row_within, row_in}

abbrev pub word_text : ResWord → List ℕ
word_text Pipe = codes "pipe"
word_text Resistor = codes "resistor"
word_text Station = codes "station"

-- the one spelling of a row
abbrev pub spelled : ResRow → List (List ℕ)
spelled r = word_text r.word ∷ r.id ∷ signed_numeral r.a ∷ signed_numeral r.b ∷ signed_numeral r.c ∷ []

-- the id and the numbers lie in their limits
pub record IsRow (r : ResRow) : Type 0 where
  pub id : is_id r.id ≡ true
  pub numbers : is_row_within r ≡ true

-- a record that is a row spells it
abbrev pub RowsAreSpelled : Type 0
RowsAreSpelled = (fields : List (List ℕ)) (r : ResRow) → row_in fields ≡ Some r → (fields ≡ spelled r) × IsRow r

-- what spells a row is a record that is it
abbrev pub SpellingsAreRead : Type 0
SpellingsAreRead = (r : ResRow) → IsRow r → row_in (spelled r) ≡ Some r
