use Rattle.stable_sweep.proofs.Sweeps.{crossed_holds}
use Rattle.stable_sweep.proofs.sweep.first_shut.Goals as goal

pub returns-in-Some-clause-some : goal.returns-in-Some-clause-some
returns-in-Some-clause-some g c = crossed_holds _ _ _ _ _ c.requires.bounds c.in-Some.ensures
