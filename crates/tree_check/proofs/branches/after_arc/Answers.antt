use Rattle.std.proofs.Common.{◌∙◌, sym}
use Rattle.tree_check.proofs.Heads.{no_arc, free_arc, fixed_arc, arc_states}
use Rattle.tree_check.proofs.branches.after_arc.Goals as goal

pub returns-in-None-clause-after : goal.returns-in-None-clause-after
returns-in-None-clause-after c = no_arc c.args.p.now c.args.b.now c.args.arc c.in-None.ensures

pub returns-in_ok-left-in-Some-clause-after : goal.returns-in_ok-left-in-Some-clause-after
returns-in_ok-left-in-Some-clause-after c =
    free_arc c.args.p.now c.args.b.now c.args.arc c.in-Some.field-0.now c.in_ok-left-in-Some.left c.in-Some.ensures (sym (c.is_free.ensures c.in-Some.field-0.now c.in-Some.ensures) ∙ c.if-is_free.true) (c.in_ok-left-in-Some.ensures c.in-Some.field-0.now c.in-Some.ensures)

pub returns-in_ok-left-in-Some-clause-fits : goal.returns-in_ok-left-in-Some-clause-fits
returns-in_ok-left-in-Some-clause-fits c =
    arc_states c.args.p.now c.args.b.now.part c.args.arc c.in-Some.field-0.now c.in_ok-left-in-Some.left c.in-Some.ensures (c.in_ok-left-in-Some.ensures c.in-Some.field-0.now c.in-Some.ensures)

pub returns-else-is_free-clause-after : goal.returns-else-is_free-clause-after
returns-else-is_free-clause-after c =
    fixed_arc c.args.p.now c.args.b.now c.args.arc c.in-Some.field-0.now c.in-Some.ensures (sym (c.is_free.ensures c.in-Some.field-0.now c.in-Some.ensures) ∙ c.if-is_free.false)
