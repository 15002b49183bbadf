use Rattle.network.proofs.assembly.arcs_with_rows.Goals as goal

pub returns-clause-texts : goal.returns-clause-texts
returns-clause-texts c = rw c.in_ok-table.ensures at c.arc_texts.ensures.texts

pub returns-clause-clean : goal.returns-clause-clean
returns-clause-clean c = rw c.in_ok-table.ensures at c.arc_texts.ensures.clean

pub returns-clause-err : goal.returns-clause-err
returns-clause-err c = rw c.in_ok-table.ensures at c.arc_texts.ensures.err
