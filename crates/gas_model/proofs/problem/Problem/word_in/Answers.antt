use Rattle.std.proofs.Common.{map, sym, Some}
use Rattle.gas_model.proofs.PickedWord.{unruled, ruled}
use Rattle.gas_model.proofs.problem.Problem.word_in.Goals as goal

pub returns-in-None : goal.returns-in-None
returns-in-None c state =
    unruled (map Some c.args.picks.now) c.args.self.now.groups c.args.arc state c.rulings_at-rulings.result.now c.rulings_at-rulings.ensures.rulings (sym c.in-None.ensures.value)

pub returns-in-Some : goal.returns-in-Some
returns-in-Some c state =
    ruled (map Some c.args.picks.now) c.args.self.now.groups c.args.arc state c.rulings_at-rulings.result.now c.in-Some.ruling.now c.picked_word.result c.pick_of.result
    c.rulings_at-rulings.ensures.rulings (sym c.in-Some.ensures.value) c.pick_of.ensures c.picked_word.ensures
