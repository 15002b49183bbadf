use Rattle.solve_command.specs.Words.{words_of}
use Rattle.solve_command.proofs.Solving.{solves_does}
use Rattle.solve_command.proofs.solve.SolveCommand.work.Goals as goal

pub returns-clause-does : goal.returns-clause-does
returns-clause-does g c =
    solves_does _ (words_of c.args.self.now) _ c.in_ok-problem.problem c.in_ok-done.done c.in_ok-problem.ensures.stands
    (rw (c.get.ensures.value, c.get-2.ensures.value) at c.in_ok-done.ensures)
