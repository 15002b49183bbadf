use Rattle.std.proofs.Common.{sym, subst}
use Rattle.gas_model.specs.Choices.{ArePicks}
use Rattle.probe_point.proofs.ChoiceFacts.{picks_fit}
use Rattle.probe_point.proofs.choosing.picks_in.Goals as goal

pub returns-clause-fits : goal.returns-clause-fits
returns-clause-fits c = subst (ArePicks c.args.p.now.groups) (sym c.in_ok-picks.ensures) (picks_fit c.args.p.now c.args.part.now c.groups.ensures.within c.requires)
