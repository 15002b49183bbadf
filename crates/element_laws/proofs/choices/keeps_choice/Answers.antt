use Rattle.gas_model.specs.Choices.{may_be}
use Rattle.gas_model.specs.Points.{state_at}
use Rattle.element_laws.proofs.Failing.{passes_row}
use Rattle.element_laws.proofs.choices.keeps_choice.Goals as goal

pub returns : goal.returns
returns c =
    let p = c.args.p.now in
    let s = c.args.setting.now in
    passes_row (λ row. may_be p s.picks c.args.arc row (state_at s.states c.args.arc)) p.arcs c.args.arc c.may_be.result c.requires.arc
    (λ row e. (rw (c.as_slice.ensures, c.as_slice-2.ensures) at c.may_be.ensures row e))
