use Rattle.probe_point.proofs.SomeProbe.{choices_exist, probe_exists}
use Rattle.probe_point.proofs.exactly_one.some_probe.Goals as goal

pub returns-clause-choices : goal.returns-clause-choices
returns-clause-choices c = choices_exist

pub returns-clause-probe : goal.returns-clause-probe
returns-clause-probe c = probe_exists
