use Rattle.network.proofs.TableTurns.{empty}
use Rattle.network.proofs.table.no_rows.Goals as goal

pub returns : goal.returns
returns c = empty (record { pipes = c.no_values.result; resistors = c.no_values-2.result; stations = c.no_values-3.result }) c.no_values.ensures c.no_values-2.ensures c.no_values-3.ensures
