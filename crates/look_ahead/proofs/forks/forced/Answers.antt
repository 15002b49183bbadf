use Rattle.look_ahead.proofs.Begins.{branch_can_at}
use Rattle.look_ahead.proofs.forks.forced.Goals as goal

pub returns : goal.returns
returns c =
    branch_can_at c.args.p.now c.args.view.now c.branch-p.result c.deref.result.now c.deref-2.result.now c.deref-3.result.now c.nodes-nodes.ensures.within c.requires c.deref.ensures c.deref-2.ensures c.deref-3.ensures
    c.branch-p.ensures
