use Rattle.std.proofs.Common.{sym}
use Rattle.nomval.specs.Commands.{carried, misused, plain_of}
use Rattle.nomval.proofs.commands.carry_out.Goals as goal

pub returns-in-Ok : goal.returns-in-Ok
returns-in-Ok g c = carried (plain_of c.in-Ok.request) (sym c.in-Ok.ensures) c.execute.ensures

pub returns-in-Err : goal.returns-in-Err
returns-in-Err g c = misused c.in-Err.at (sym c.in-Err.ensures) c.speak.ensures
