use Rattle.topo.proofs.OnlyOne.{one_shape}
use Rattle.topo.proofs.laws.one_shape.Goals as goal

pub returns : goal.returns
returns c = one_shape
