use Rattle.make_command.specs.Words.{words_of}
use Rattle.make_command.proofs.MakesIt.{makes_does}
use Rattle.make_command.proofs.making.MakeCommand.work.Goals as goal

pub returns-clause-does : goal.returns-clause-does
returns-clause-does g c =
    makes_does _ (words_of c.args.self.now) _ c.in_ok-problem.problem c.in_ok-done.done
    (rw c.get-count.ensures.value at c.in_ok-problem.ensures)
    (rw c.get-count.ensures.value at c.in_ok-done.ensures)
