use Rattle.std.proofs.Common.{ℕ, List, arith, refl, ap}
use Rattle.res_table.specs.declared.rows.ResWord.{ResWord}
use Rattle.std.proofs.lemmas.Result.{err_from_is_err_and}
use Rattle.network.specs.Table.{is_row}
use Rattle.network.specs.Marks.{is_marked}
use Rattle.network.proofs.Kept.{seen_more}
use Rattle.network.proofs.TableTurns.{IsRowTurn, clean_row, told_row}
use Rattle.network.proofs.table.check_rows.Goals as goal

pub loop-before-init : goal.loop-before-init
loop-before-init c = record { seen = λ w id. ap (λ f. f w id) c.no_marks-seen.ensures; so_far = refl }

pub returns-in_err-check_row-clause-err : goal.returns-in_err-check_row-clause-err
returns-in_err-check_row-clause-err c =
    let t : IsRowTurn (is_marked c.args.taken.now) (is_marked c.loop-before.seen) c.args.rows.now c.loop-before.before c.index-rows-before.result =
    record { before = omega (arith, c.loop-before-test.true); here = c.index-rows-before.is; marked = c.loop-before.invariant.seen; so_far = c.loop-before.invariant.so_far } in
    let p = err_from_is_err_and c.from_residual.result c.from_residual.ensures.1 in
    rw (p.1, p.2) (told_row _ _ _ _ _ t c.in_err-check_row.field-0.0 c.in_err-check_row.ensures.err)

pub loop-before-preserved : goal.loop-before-preserved
loop-before-preserved c =
    let t : IsRowTurn (is_marked c.args.taken.now) (is_marked c.loop-before.seen) c.args.rows.now c.loop-before.before c.index-rows-before.result =
    record { before = omega (arith, c.loop-before-test.true); here = c.index-rows-before.is; marked = c.loop-before.invariant.seen; so_far = c.loop-before.invariant.so_far } in
    let all = seen_more (λ (q : ResWord × List ℕ) r. is_row q.0 q.1 r) (λ q. is_marked c.loop-before.seen q.0 q.1) (λ q. is_marked c.check_row.new.seen q.0 q.1) c.args.rows.now c.loop-before.before c.index-rows-before.result t.before t.here
    (λ q. c.in_ok-check_row.ensures.seen q.0 q.1) (λ q. c.loop-before.invariant.seen q.0 q.1) in
    record {
      seen = λ w id. all (w, id);
      so_far = clean_row _ _ _ _ _ t c.in_ok-check_row.ensures.clean;
    }
