use Rattle.probe_point.proofs.OnlyOne.{one_probe}
use Rattle.probe_point.proofs.exactly_one.one_probe.Goals as goal

pub returns : goal.returns
returns c = one_probe
