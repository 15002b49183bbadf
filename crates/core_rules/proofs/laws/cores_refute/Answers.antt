use Rattle.core_rules.proofs.CoresSound.{cores_refute}
use Rattle.core_rules.proofs.laws.cores_refute.Goals as goal

pub returns : goal.returns
returns c = cores_refute
