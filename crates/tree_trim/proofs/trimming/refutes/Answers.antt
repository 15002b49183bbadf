use Rattle.std.proofs.Common.{Ok, subst}
use Rattle.tree_check.specs.Verdicts.{IsAnswered}
use Rattle.tree_trim.proofs.Refuting.{partial_is_not, fails_is_not}
use Rattle.tree_trim.proofs.trimming.refutes.Goals as goal

pub returns-in-Ok-Partial : goal.returns-in-Ok-Partial
returns-in-Ok-Partial c =
    partial_is_not c.args.p.now c.args.text.now c.in-Ok-Partial.field-0-0
    (subst (λ v. IsAnswered c.args.p.now c.args.text.now (Ok v)) c.in-Ok-Partial.field-0-is c.in-Ok-Partial.ensures.each)

pub returns-in-Err : goal.returns-in-Err
returns-in-Err c = fails_is_not c.args.p.now c.args.text.now c.in-Err.fault c.fails.result c.fails.ensures c.in-Err.ensures.each
