use Rattle.network.proofs.table.check_table.Goals as goal

pub returns-clause-clean : goal.returns-clause-clean
returns-clause-clean c = rw c.in_ok-taken.ensures at c.check_rows.ensures.clean

pub returns-clause-err : goal.returns-clause-err
returns-clause-err c = rw c.in_ok-taken.ensures at c.check_rows.ensures.err
