use Rattle.std.proofs.Common.{sym, subst}
use Rattle.gas_model.specs.Choices.{PartFits}
use Rattle.probe_point.proofs.ChoiceFacts.{picked_fits}
use Rattle.probe_point.proofs.choosing.states_of.Goals as goal

pub chosen_states-requires : goal.chosen_states-requires
chosen_states-requires c = subst (PartFits c.args.p.now) (sym c.in_ok-picked.ensures) (picked_fits c.args.p.now c.args.part.now c.args.picks.now c.requires.part c.requires.picks)
