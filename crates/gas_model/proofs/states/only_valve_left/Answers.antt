use Rattle.std.proofs.Common.{sym}
use Rattle.gas_model.specs.Rulings.{word_allows}
use Rattle.gas_model.proofs.states.only_valve_left.Goals as goal

pub returns : goal.returns
returns c = c.only_of_valve.ensures (word_allows c.args.word) (sym c.word_allows-opened.ensures) (sym c.word_allows-shut.ensures)
