use Rattle.std.proofs.Common.{◌≡◌, ◌∙◌, true, sym}
use Rattle.make_net.specs.Answer.{is_count}
use Rattle.make_net.proofs.MadeProblem.{no_offence}
use Rattle.make_net.proofs.making.make.Goals as goal

pub problem_of-requires : goal.problem_of-requires
problem_of-requires c =
    let within : is_count c.args.count ≡ true = sym c.is_count.ensures ∙ c.if-not-is_count.false in
    rw c.in_ok-rows.ensures (no_offence c.args.count within)
