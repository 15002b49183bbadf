use Rattle.std.proofs.Common.{subst, sym}
use Rattle.box_pool.specs.Forks.{IsForkOf}
use Rattle.box_pool.proofs.ForkOf.{fork_is_of}
use Rattle.box_pool.proofs.laws.forks_are_of_the_problem.Goals as goal

pub returns : goal.returns
returns c = λ p part b turn fork within fits h. subst (IsForkOf p) (sym h.fork_is) (fork_is_of p part h.shape b within h.is_shape fits turn)
