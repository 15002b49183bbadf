use Rattle.topo.proofs.Climb.{halved_step}
use Rattle.topo.proofs.forest.find.Goals as goal

pub loop-up-preserved : goal.loop-up-preserved
loop-up-preserved c = halved_step _ _ _ _ c.requires.node c.loop-up.invariant c.loop-up-test.true
