use Rattle.std.proofs.Common.{length, ap, arith}
use Rattle.tree_pool.proofs.PoolCalls.{held_within, ended}
use Rattle.tree_pool.proofs.pool.TreePool.end.Goals as goal

pub index_mut-requires : goal.index_mut-requires
index_mut-requires c =
    let i = c.self.inside in
    let a = held_within i.places i.nodes.items c.self.invariant.sized c.args.self.now c.self.view_is c.args.id c.requires.held in
    omega (arith, i.nodes.ok.0)

pub invariant_of-self : goal.invariant_of-self
invariant_of-self c =
    (ended c.self.inside.places c.self.inside.nodes.items c.self.inside.from c.self.inside.in_order c.self.inside.branched c.self.inside.lines c.self.invariant c.args.id c.index_mut.result.now c.fill_node.new.node c.args.self.now c.self.view_is
    c.requires.held c.index_mut.ensures.value c.args.steps c.args.standing c.fill_node.ensures c.requires.whole c.requires.worked c.requires.ordered c.in_ok-lines.lines
    (let a = c.in_ok-lines.ensures.sum in let d = ap length c.as_slice.ensures in omega arith) c.in_ok-lines.ensures.fits).0

pub returns-clause-ok : goal.returns-clause-ok
returns-clause-ok c =
    (ended c.self.inside.places c.self.inside.nodes.items c.self.inside.from c.self.inside.in_order c.self.inside.branched c.self.inside.lines c.self.invariant c.args.id c.index_mut.result.now c.fill_node.new.node c.args.self.now c.self.view_is
    c.requires.held c.index_mut.ensures.value c.args.steps c.args.standing c.fill_node.ensures c.requires.whole c.requires.worked c.requires.ordered c.in_ok-lines.lines
    (let a = c.in_ok-lines.ensures.sum in let d = ap length c.as_slice.ensures in omega arith) c.in_ok-lines.ensures.fits).1
