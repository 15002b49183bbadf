use Rattle.stable_sweep.proofs.SupplySums.{at_turn, turn_fits, turn_more}
use Rattle.stable_sweep.proofs.cuts.supplies.Goals as goal

pub with_node-requires-clause-least : goal.with_node-requires-clause-least
with_node-requires-clause-least c =
    let t = at_turn c.args.p.now c.args.shape.now.root_of c.loop-n.n c.root_of-root.result _ _ c.index-nodes-n.result c.index.result.now c.nodes-nodes.ensures.rows c.loop-n-test.true c.index-nodes-n.is c.root_of-root.ensures (c.requires.roots c.loop-n.n (rw c.nodes-nodes.ensures.rows at c.loop-n-test.true)) c.loop-n.invariant c.index.ensures in
    (turn_fits _ _ _ _ _ _ _ c.nodes-nodes.ensures.within t).least

pub with_node-requires-clause-greatest : goal.with_node-requires-clause-greatest
with_node-requires-clause-greatest c =
    let t = at_turn c.args.p.now c.args.shape.now.root_of c.loop-n.n c.root_of-root.result _ _ c.index-nodes-n.result c.index.result.now c.nodes-nodes.ensures.rows c.loop-n-test.true c.index-nodes-n.is c.root_of-root.ensures (c.requires.roots c.loop-n.n (rw c.nodes-nodes.ensures.rows at c.loop-n-test.true)) c.loop-n.invariant c.index.ensures in
    (turn_fits _ _ _ _ _ _ _ c.nodes-nodes.ensures.within t).greatest

pub loop-n-preserved : goal.loop-n-preserved
loop-n-preserved c =
    let t = at_turn c.args.p.now c.args.shape.now.root_of c.loop-n.n c.root_of-root.result _ _ c.index-nodes-n.result c.index.result.now c.nodes-nodes.ensures.rows c.loop-n-test.true c.index-nodes-n.is c.root_of-root.ensures (c.requires.roots c.loop-n.n (rw c.nodes-nodes.ensures.rows at c.loop-n-test.true)) c.loop-n.invariant c.index.ensures in
    turn_more _ _ _ _ _ _ _ c.with_node.result t c.with_node.ensures.least c.with_node.ensures.greatest
