use Rattle.check_command.proofs.check.verdict_of.Goals as goal

pub returns-in-Err : goal.returns-in-Err
returns-in-Err c = c.refused.ensures c.args.p.now c.args.text.now c.in-Err.ensures.exact
