use Rattle.res_table.specs.Table.{resistance_rows}
use Rattle.res_table.proofs.Turns.{Ahead}
use Rattle.res_table.proofs.table.read_res.Given as goal

abbrev pub invariant-loop-number : goal.invariant-loop-number
invariant-loop-number l = Ahead l.reader l.rows l.number (resistance_rows l.fn.bytes)
