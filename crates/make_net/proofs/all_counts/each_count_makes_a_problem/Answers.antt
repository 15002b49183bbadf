use Rattle.make_net.proofs.MadeProblem.{no_offence}
use Rattle.make_net.proofs.all_counts.each_count_makes_a_problem.Goals as goal

pub returns : goal.returns
returns c = no_offence
