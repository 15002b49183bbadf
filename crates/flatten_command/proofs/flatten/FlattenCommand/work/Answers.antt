use Rattle.flatten_command.specs.Words.{words_of}
use Rattle.flatten_command.proofs.Flattening.{flattens_does}
use Rattle.flatten_command.proofs.flatten.FlattenCommand.work.Goals as goal

pub returns-clause-does : goal.returns-clause-does
returns-clause-does g c =
    flattens_does _ (words_of c.args.self.now) _ c.in_ok-problem.problem c.in_ok-done.done c.in_ok-problem.ensures.stands c.in_ok-done.ensures
