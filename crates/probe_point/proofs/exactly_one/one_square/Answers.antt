use Rattle.probe_point.proofs.Unique.{one_square}
use Rattle.probe_point.proofs.exactly_one.one_square.Goals as goal

pub returns : goal.returns
returns c = one_square
