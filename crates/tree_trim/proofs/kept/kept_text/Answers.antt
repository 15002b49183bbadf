use Rattle.std.proofs.Common.{sym}
use Rattle.tree_trim.proofs.KeptLines.{line_written, line_passed}
use Rattle.tree_trim.proofs.kept.kept_text.Goals.{then-not-left_out-i+in_ok-write_line, else-not-left_out-i}
use Rattle.tree_trim.proofs.kept.kept_text.Goals as goal

pub loop-i-preserved : goal.loop-i-preserved
loop-i-preserved c =
    let l = c.loop-i in
    let lines = c.args.lines.now in
    let marks = c.args.left_out.now in
    elim c.if-not-left_out-i.branch [
      | then-not-left_out-i+in_ok-write_line w ↦
          line_written l.out c.if-not-left_out-i.out lines marks l.i c.index-lines-i.result l.invariant c.requires.marks c.loop-i-test.true c.index-lines-i.is (sym w.if-not-left_out-i.true)
          (rw w.out-is w.in_ok-write_line.ensures.ok) w.in_ok-write_line.ensures.spelled
      | else-not-left_out-i w ↦
          rw w.out-is (line_passed l.out lines marks l.i c.index-lines-i.result l.invariant c.requires.marks c.loop-i-test.true c.index-lines-i.is (sym w.if-not-left_out-i.false))
    ]
