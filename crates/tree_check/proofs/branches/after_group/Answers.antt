use Rattle.std.proofs.Common.{◌∙◌, sym}
use Rattle.tree_check.proofs.Heads.{no_group, picked_group, free_group, group_decisions, few_decisions}
use Rattle.tree_check.proofs.branches.after_group.Goals as goal

pub count_decisions-count-requires : goal.count_decisions-count-requires
count_decisions-count-requires c = few_decisions c.args.p.now c.args.group c.in-Some.row.now c.requires.within c.in-Some.ensures

pub returns-in-None-clause-after : goal.returns-in-None-clause-after
returns-in-None-clause-after c = no_group c.args.p.now c.args.b.now c.args.group c.in-None.ensures

pub returns-then-is_some-clause-after : goal.returns-then-is_some-clause-after
returns-then-is_some-clause-after c =
    picked_group c.args.p.now c.args.b.now c.args.group (sym (rw c.pick.ensures at c.is_some.ensures) ∙ c.if-is_some.true)

pub returns-else-is_some-clause-after : goal.returns-else-is_some-clause-after
returns-else-is_some-clause-after c =
    free_group c.args.p.now c.args.b.now c.args.group c.count_decisions-count.result c.in-Some.row.now c.in-Some.ensures (sym (rw c.pick.ensures at c.is_some.ensures) ∙ c.if-is_some.false) c.count_decisions-count.ensures

pub returns-else-is_some-clause-fits : goal.returns-else-is_some-clause-fits
returns-else-is_some-clause-fits c =
    rw c.count_decisions-count.ensures (group_decisions c.args.p.now c.args.group c.in-Some.row.now c.in-Some.ensures)
