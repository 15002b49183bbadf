use Rattle.std.proofs.Common.{◌≡◌, ℕ, List, take, drop}
use Rattle.std.specs.List.{list_any}
use Rattle.gas_model.specs.Rows.{first_offence}
use Rattle.res_table.specs.declared.rows.ResWord.{ResWord}
use Rattle.network.specs.Table.{is_row, row_fault, table_fault}
use Rattle.network.specs.Marks.{is_marked}
use Rattle.network.proofs.table.check_rows.Given as goal

abbrev pub invariant-loop-before : goal.invariant-loop-before
invariant-loop-before l = record {
  seen : (w : ResWord) (id : List ℕ) → is_marked l.seen w id ≡ list_any (is_row w id) (take l.before l.rows);
  so_far : first_offence (λ r. r) (row_fault (is_marked l.taken)) (take l.before l.rows) (drop l.before l.rows) ≡ table_fault (is_marked l.taken) l.rows;
}
