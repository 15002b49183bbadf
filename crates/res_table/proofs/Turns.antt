-- Reading the rows of records one after the other.
use Rattle.std.proofs.Common.{◌≡◌, ℕ, zero, suc, ◌+◌, ◌<◌, List, [], ◌∷◌, ◌++◌, length, true, false, Option, Some, None, Ok, Err, refl, sym, ap, ◌∙◌, append_assoc, arith}
use Rattle.std.specs.Prelude.{Result}
use Rattle.std.proofs.lemmas.List.{append-nil}
use Rattle.csv.specs.Machine.{Read, next_record, ends_at_end}
use Rattle.csv.specs.Reading.{default_config, records_from, records_next}
use Rattle.csv.specs.declared.parser.State.{State}
use Rattle.csv.specs.declared.reader.Reader.{Reader}
use Rattle.res_table.specs.declared.rows.ResRow.{ResRow}
use Rattle.file_faults.specs.declared.table.ResFault.{ResFault}
use Rattle.file_faults.specs.declared.table.ResFault.TheVariants as fault
use Rattle.res_table.specs.Reading.{Bytes, Stands, Took}
use Rattle.res_table.specs.Row.{row_in}
use Rattle.res_table.specs.Table.{◌>>=◌, found_at, rows_from}
use Rattle.res_table.proofs.Between.{takes}

abbrev pub Answer : Type 0
Answer = Result (List ResRow) ResFault

-- the rows that were read, and what the others give
abbrev pub with_front : List ResRow → Answer → Answer
with_front front read = read >>= λ rows. Ok (front ++ rows)

pub nothing_before : (r : Answer) → with_front [] r ≡ r
nothing_before (Ok x) = refl
nothing_before (Err e) = refl

-- where the reader stands, with at most so many records ahead: the rows so far and those of the records ahead are the answer
pub record Ahead (reader : Reader Bytes) (rows : List ResRow) (number : ℕ) (total : Answer) : Type 0 where
  pub count : ℕ
  pub state : State
  pub text : List ℕ
  pub stands : Stands reader state text
  pub between : ends_at_end state ≡ false
  pub enough : length text < count
  pub so_far : with_front rows (rows_from number (records_from default_config count state text)) ≡ total

-- the same once a record was read, and isn't a row yet
pub record Met (reader : Reader Bytes) (rows : List ResRow) (number : ℕ) (fields : List (List ℕ)) (total : Answer) : Type 0 where
  pub count : ℕ
  pub state : State
  pub text : List ℕ
  pub stands : Stands reader state text
  pub between : ends_at_end state ≡ false
  pub enough : length text < count
  pub so_far : with_front rows (found_at number (row_in fields) >>= λ row. rows_from (number + 1) (records_from default_config count state text) >>= λ others. Ok (row ∷ others)) ≡ total

-- the records ahead, where a count above 0 is one more than another
ahead_suc : (reader : Reader Bytes) (rows : List ResRow) (number : ℕ) (total : Answer) (count : ℕ) (s : State) (text : List ℕ) → length text < count
    → with_front rows (rows_from number (records_from default_config count s text)) ≡ total
    → (n : ℕ) × (length text < n + 1) × (with_front rows (rows_from number (records_next (records_from default_config n) (next_record default_config s [] [] text))) ≡ total)
unfolding records_from
ahead_suc reader rows number total zero s text enough e = absurd (omega arith)
ahead_suc reader rows number total (suc n) s text enough e = (n, omega arith, e)

-- no record is left: the rows are whole
pub whole : (before after : Reader Bytes) (rows : List ResRow) (number : ℕ) (fields : List (List ℕ)) (total : Answer) → (h : Ahead before rows number total)
    → Took (next_record default_config h.state [] [] h.text) false fields after → total ≡ Ok rows
whole before after rows number fields total h took = let n = ahead_suc before rows number total h.count h.state h.text h.enough h.so_far in by (next_record default_config h.state [] [] h.text) took n.0 n.2
  where
    by : (o : Option Read) → Took o false fields after → (n : ℕ) → with_front rows (rows_from number (records_next (records_from default_config n) o)) ≡ total → total ≡ Ok rows
    by None t n e = sym e ∙ ap (λ (l : List ResRow). Ok l) (append-nil rows)
    by (Some r) t n e = absurd cc

-- a record was read
pub meets : (before after : Reader Bytes) (rows : List ResRow) (number : ℕ) (fields : List (List ℕ)) (total : Answer) → (h : Ahead before rows number total)
    → Took (next_record default_config h.state [] [] h.text) true fields after → Met after rows number fields total
meets before after rows number fields total h took = let n = ahead_suc before rows number total h.count h.state h.text h.enough h.so_far in by (next_record default_config h.state [] [] h.text) refl took n.0 n.1 n.2
  where
    by : (o : Option Read) → next_record default_config h.state [] [] h.text ≡ o → Took o true fields after → (n : ℕ) → length h.text < n + 1 → with_front rows (rows_from number (records_next (records_from default_config n) o)) ≡ total → Met after rows number fields total
    by None is t n enough e = absurd cc
    by (Some r) is t n enough e = let left = takes h.state h.text r h.between is in record {
      count = n;
      state = r.1;
      text = r.2;
      stands = t.2;
      between = left.0;
      enough = omega (arith, left.1);
      so_far = rw t.1 e;
    }

-- it is no row: the answer is its number
pub bad : (reader : Reader Bytes) (rows : List ResRow) (number : ℕ) (fields : List (List ℕ)) (total : Answer) → Met reader rows number fields total → row_in fields ≡ None → total ≡ Err (fault.BadRow number)
bad reader rows number fields total m e =
    sym m.so_far ∙ ap (λ o. with_front rows (found_at number o >>= λ row. rows_from (number + 1) (records_from default_config m.count m.state m.text) >>= λ others. Ok (row ∷ others))) e

regroup : (rows : List ResRow) (row : ResRow) (r : Answer) → with_front (rows ++ row ∷ []) r ≡ with_front rows (r >>= λ others. Ok (row ∷ others))
regroup rows row (Ok x) = ap (λ (l : List ResRow). Ok l) (append_assoc rows (row ∷ []) x)
regroup rows row (Err e) = refl

-- it is a row: reading goes on
pub goes_on : (reader : Reader Bytes) (rows : List ResRow) (number : ℕ) (fields : List (List ℕ)) (row : ResRow) (total : Answer) → Met reader rows number fields total → row_in fields ≡ Some row → Ahead reader (rows ++ row ∷ []) (number + 1) total
goes_on reader rows number fields row total m e = record {
  count = m.count;
  state = m.state;
  text = m.text;
  stands = m.stands;
  between = m.between;
  enough = m.enough;
  so_far = regroup rows row (rows_from (number + 1) (records_from default_config m.count m.state m.text))
      ∙ sym (ap (λ o. with_front rows (found_at number o >>= λ x. rows_from (number + 1) (records_from default_config m.count m.state m.text) >>= λ others. Ok (x ∷ others))) e)
      ∙ m.so_far;
}
