use Rattle.box_pool.proofs.Forked as forked
use Rattle.box_pool.proofs.laws.forks_are_expected.Goals as goal

pub returns : goal.returns
returns c = forked.forks_are_expected
