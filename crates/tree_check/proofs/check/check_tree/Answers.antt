use Rattle.tree_check.proofs.Judging.{each_finding, refuted}
use Rattle.tree_check.proofs.check.check_tree.Goals as goal

pub returns-clause-each : goal.returns-clause-each
returns-clause-each c = each_finding c.args.p.now c.args.text.now c.judge.result c.judge.ensures.exact

pub returns-clause-sound : goal.returns-clause-sound
returns-clause-sound c e =
    refuted c.args.p.now c.args.text.now c.judge.result (rw e at c.judge.ensures.within) c.judge.ensures.exact e
