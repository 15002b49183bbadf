use Rattle.std.proofs.Common.{ℕ, List, arith, refl}
use Rattle.res_table.specs.declared.rows.ResWord.{ResWord}
use Rattle.std.proofs.Math.Path.{fun_ext}
use Rattle.network.specs.Table.{takes}
use Rattle.network.specs.Marks.{is_marked}
use Rattle.network.proofs.Kept.{noted_more, noted_all}
use Rattle.network.proofs.table.taken_rows.Goals as goal

pub loop-arc-init : goal.loop-arc-init
loop-arc-init c = rw c.no_marks-taken.ensures (record { are = λ q. refl })

pub loop-arc-preserved : goal.loop-arc-preserved
loop-arc-preserved c =
    noted_more (λ (q : ResWord × List ℕ) a. takes q.0 q.1 a) (λ q. is_marked c.loop-arc.taken q.0 q.1) (λ q. is_marked c.mark_taken.new.taken q.0 q.1) c.args.arcs.now c.loop-arc.arc-index c.arc-item.result (omega (arith, c.loop-arc-test.true)) c.arc-item.is
    (λ q. c.in_ok-mark_taken.ensures q.0 q.1) c.loop-arc.invariant

pub returns : goal.returns
returns c =
    let all = noted_all (λ (q : ResWord × List ℕ) a. takes q.0 q.1 a) (λ q. is_marked c.loop-arc.taken q.0 q.1) c.args.arcs.now c.loop-arc.arc-index (omega (arith, c.loop-arc-test.false)) c.loop-arc.invariant in
    fun_ext (λ w. fun_ext (λ id. all (w, id)))
