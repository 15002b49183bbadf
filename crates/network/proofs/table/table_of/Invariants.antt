use Rattle.std.proofs.Common.{ℕ, List}
use Rattle.res_table.specs.declared.rows.ResWord.{ResWord}
use Rattle.network.specs.Table.{is_row, numbers}
use Rattle.network.specs.Tables.{look_row}
use Rattle.network.proofs.Kept.{Kept}
use Rattle.network.proofs.table.table_of.Given as goal

abbrev pub invariant-loop-row : goal.invariant-loop-row
invariant-loop-row l = Kept (λ (q : ResWord × List ℕ) r. is_row q.0 q.1 r) numbers (λ q. look_row l.table q.0 q.1) l.rows l.row-index
