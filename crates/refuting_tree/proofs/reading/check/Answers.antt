use Rattle.std.proofs.Common.{Ok, subst}
use Rattle.tree_check.specs.Verdicts.{IsAnswered}
use Rattle.refuting_tree.proofs.Telling.{whole_said, part_said}
use Rattle.refuting_tree.proofs.reading.check.Goals as goal

pub returns-in-Ok-Refutes-clause-said : goal.returns-in-Ok-Refutes-clause-said
returns-in-Ok-Refutes-clause-said c =
    whole_said c.args.p.now c.args.text.now
    (subst (λ v. IsAnswered c.args.p.now c.args.text.now (Ok v)) c.in-Ok-Refutes.field-0-is c.in-Ok-Refutes.ensures.each)

pub returns-in-Ok-Partial-clause-said : goal.returns-in-Ok-Partial-clause-said
returns-in-Ok-Partial-clause-said c =
    part_said c.args.p.now c.args.text.now c.in-Ok-Partial.first_open
    (subst (λ v. IsAnswered c.args.p.now c.args.text.now (Ok v)) c.in-Ok-Partial.field-0-is c.in-Ok-Partial.ensures.each)

pub returns-in-Err : goal.returns-in-Err
returns-in-Err c =
    let p = c.args.p.now in
    let text = c.args.text.now in
    record {
      says = c.refused.ensures.says p text c.in-Err.ensures.exact;
      said = λ f is. c.refused.ensures.said f (c.in-Err.ensures.each f is);
      sound = tt;
    }
