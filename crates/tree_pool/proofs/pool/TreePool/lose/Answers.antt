use Rattle.std.proofs.Common.{arith}
use Rattle.tree_pool.proofs.PoolCalls.{held_within, lost}
use Rattle.tree_pool.proofs.pool.TreePool.lose.Goals as goal

pub index_mut-requires : goal.index_mut-requires
index_mut-requires c =
    let i = c.self.inside in
    let a = held_within i.places i.nodes.items c.self.invariant.sized c.args.self.now c.self.view_is c.args.id c.requires in
    omega (arith, i.nodes.ok.0)

pub invariant_of-self : goal.invariant_of-self
invariant_of-self c =
    (lost c.self.inside.places c.self.inside.nodes.items c.self.inside.from c.self.inside.in_order c.self.inside.branched c.self.inside.lines c.self.invariant c.args.id c.index_mut.result.now c.set_standing.new.node c.args.self.now c.self.view_is
    c.requires c.index_mut.ensures.value c.set_standing.ensures c.lesser-self-inside.result c.lesser-self-inside.ensures.left c.lesser-self-inside.ensures.right).0

pub returns : goal.returns
returns c =
    (lost c.self.inside.places c.self.inside.nodes.items c.self.inside.from c.self.inside.in_order c.self.inside.branched c.self.inside.lines c.self.invariant c.args.id c.index_mut.result.now c.set_standing.new.node c.args.self.now c.self.view_is
    c.requires c.index_mut.ensures.value c.set_standing.ensures c.lesser-self-inside.result c.lesser-self-inside.ensures.left c.lesser-self-inside.ensures.right).1
