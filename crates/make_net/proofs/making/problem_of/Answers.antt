use Rattle.make_net.proofs.MadeProblem.{only_want}
use Rattle.make_net.proofs.making.problem_of.Goals as goal

pub want_of-requires : goal.want_of-requires
want_of-requires c = only_want _ _ c.in-Err.ensures.exact c.requires
