use Rattle.std.proofs.Common.{ℕ, List, arith, refl}
use Rattle.res_table.specs.declared.rows.ResWord.{ResWord}
use Rattle.std.proofs.Math.Path.{fun_ext}
use Rattle.network.specs.Table.{is_row, numbers}
use Rattle.network.specs.Tables.{look_row}
use Rattle.network.proofs.Kept.{kept_more, kept_all}
use Rattle.network.proofs.table.table_of.Goals as goal

pub loop-row-init : goal.loop-row-init
loop-row-init c = rw c.no_rows-table.ensures (record { are = λ q. refl })

pub loop-row-preserved : goal.loop-row-preserved
loop-row-preserved c =
    kept_more (λ (q : ResWord × List ℕ) r. is_row q.0 q.1 r) numbers (λ q. look_row c.loop-row.table q.0 q.1) (λ q. look_row c.add_row.new.table q.0 q.1) c.args.rows.now c.loop-row.row-index c.row-item.result (omega (arith, c.loop-row-test.true)) c.row-item.is
    (λ q. c.in_ok-add_row.ensures q.0 q.1) c.loop-row.invariant

pub returns : goal.returns
returns c =
    let all = kept_all (λ (q : ResWord × List ℕ) r. is_row q.0 q.1 r) numbers (λ q. look_row c.loop-row.table q.0 q.1) c.args.rows.now c.loop-row.row-index (omega (arith, c.loop-row-test.false)) c.loop-row.invariant in
    fun_ext (λ w. fun_ext (λ id. all (w, id)))
