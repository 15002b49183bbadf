-- The rows of the table, one at a time.
use Rattle.std.proofs.Common.{◌≡◌, ℕ, ◌+◌, ◌<◌, Bool, cond, not, List, length, take, drop, get_or, Option, None, Some, sym, ap, ◌∙◌, arith}
use Rattle.std.specs.List.{list_any}
use Rattle.std.specs.Option.{option_or}
use Rattle.std.proofs.Math.Path.{fun_ext}
use Rattle.std.proofs.lemmas.List.{length-take-le}
use Rattle.gas_model.specs.Rows.{first_offence}
use Rattle.gas_model.proofs.Decided.{take_item}
use Rattle.res_table.specs.declared.rows.ResWord.{ResWord}
use Rattle.res_table.specs.declared.rows.ResWord.TheVariants.{Pipe, Resistor, Station}
use Rattle.res_table.specs.declared.rows.ResRow.{ResRow}
use Rattle.network.specs.declared.table.Table.{Table}
use Rattle.problem_faults.specs.declared.join.JoinFault.{JoinFault}
use Rattle.problem_faults.specs.declared.join.JoinFault.TheVariants as fault
use Rattle.name_places.specs.ByName.{look, nothing}
use Rattle.network.specs.Faults.{Tells}
use Rattle.network.specs.Table.{is_row, row_fault, table_fault}
use Rattle.network.specs.Tables.{look_row, no_rows, row_offence}
use Rattle.network.proofs.Kept.{drop_item}

-- a table without rows
pub empty : (t : Table) → look t.pipes ≡ nothing → look t.resistors ≡ nothing → look t.stations ≡ nothing → look_row t ≡ no_rows
empty t p r s = fun_ext at
  where
    at : (w : ResWord) → look_row t w ≡ no_rows w
    at Pipe = p
    at Resistor = r
    at Station = s

-- where a row stands among others
pub record IsRowTurn (taken seen : ResWord → List ℕ → Bool) (rows : List ResRow) (i : ℕ) (r : ResRow) : Type 0 where
  pub before : i < length rows
  pub here : r ≡ get_or rows i r
  pub marked : (w : ResWord) (id : List ℕ) → seen w id ≡ list_any (is_row w id) (take i rows)
  pub so_far : first_offence (λ x. x) (row_fault taken) (take i rows) (drop i rows) ≡ table_fault taken rows

module _ (taken seen : ResWord → List ℕ → Bool) (rows : List ResRow) (i : ℕ) (r : ResRow) (t : IsRowTurn taken seen rows i r) where
  abbrev pub rest : Option JoinFault
  rest = first_offence (λ x. x) (row_fault taken) (take (i + 1) rows) (drop (i + 1) rows)

  count : length (take i rows) ≡ i
  count = length-take-le i rows (omega (arith, t.before))

  by_row : row_offence taken seen i r ≡ row_fault taken (take i rows) r
  by_row =
      ap (λ b. cond b (Some (fault.TwiceRow (i + 1))) (cond (not (taken r.word r.id)) (Some (fault.UnusedRow (i + 1))) None)) (t.marked r.word r.id)
      ∙ ap (λ n. cond (list_any (is_row r.word r.id) (take i rows)) (Some (fault.TwiceRow (n + 1))) (cond (not (taken r.word r.id)) (Some (fault.UnusedRow (n + 1))) None)) (sym count)

  whole : option_or (row_offence taken seen i r) rest ≡ table_fault taken rows
  whole =
      ap (λ o. option_or o rest) by_row
      ∙ ap (λ l. option_or (row_fault taken (take i rows) r) (first_offence (λ x. x) (row_fault taken) l (drop (i + 1) rows))) (take_item rows i r t.before t.here)
      ∙ ap (λ l. first_offence (λ x. x) (row_fault taken) (take i rows) l) (sym (drop_item rows i r t.before t.here))
      ∙ t.so_far

  pub clean_row : row_offence taken seen i r ≡ None → rest ≡ table_fault taken rows
  clean_row e = ap (λ o. option_or o rest) (sym e) ∙ whole

  told : (e : JoinFault) → row_offence taken seen i r ≡ Some e → table_fault taken rows ≡ Some e
  told e is = sym whole ∙ ap (λ o. option_or o rest) is

  pub told_row : (e : JoinFault) → Tells e (row_offence taken seen i r) → Tells e (table_fault taken rows)
  told_row fault.NoMemory is = tt
  told_row (fault.NoSuchNode id) is = told (fault.NoSuchNode id) is
  told_row (fault.WrongType id) is = told (fault.WrongType id) is
  told_row (fault.TwiceNominated id) is = told (fault.TwiceNominated id) is
  told_row (fault.NoResistance arc) is = told (fault.NoResistance arc) is
  told_row (fault.NoStation arc) is = told (fault.NoStation arc) is
  told_row (fault.TwiceRow row) is = told (fault.TwiceRow row) is
  told_row (fault.UnusedRow row) is = told (fault.UnusedRow row) is
  told_row (fault.Model m) is = told (fault.Model m) is
