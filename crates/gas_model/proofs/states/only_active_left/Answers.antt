use Rattle.std.proofs.Common.{sym}
use Rattle.gas_model.specs.Rulings.{word_allows}
use Rattle.gas_model.proofs.states.only_active_left.Goals as goal

pub returns : goal.returns
returns c = c.only_of_active.ensures (word_allows c.args.word) (sym c.word_allows-active.ensures) (sym c.word_allows-bypass.ensures) (sym c.word_allows-shut.ensures)
