use Rattle.std.proofs.Common.{◌∙◌}
use Rattle.gas_model.proofs.PickedWord.{none_says}
use Rattle.gas_model.proofs.rulings.picked_word.Goals as goal

pub returns-in_err-pick : goal.returns-in_err-pick
returns-in_err-pick c picks state e =
    rw c.from_residual.ensures (none_says picks state c.args.rulings.now c.requires (e ∙ c.in_err-pick.was))
