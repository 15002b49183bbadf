use Rattle.res_table.proofs.Spelled.{rows_are_spelled, spellings_are_read}
use Rattle.res_table.proofs.row_form.rows_have_their_form.Goals as goal

pub returns-clause-spelled : goal.returns-clause-spelled
returns-clause-spelled c = rows_are_spelled

pub returns-clause-read : goal.returns-clause-read
returns-clause-read c = spellings_are_read
