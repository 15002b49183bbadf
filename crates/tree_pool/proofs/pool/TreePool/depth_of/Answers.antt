use Rattle.tree_pool.proofs.PoolCalls.{depth_found}
use Rattle.tree_pool.proofs.pool.TreePool.depth_of.Goals as goal

pub depth-requires : goal.depth-requires
depth-requires c = (depth_found c.self.inside.places c.self.inside.nodes.items c.self.invariant.sized c.args.self.now c.self.view_is c.args.id c.requires).0

pub returns : goal.returns
returns c = (depth_found c.self.inside.places c.self.inside.nodes.items c.self.invariant.sized c.args.self.now c.self.view_is c.args.id c.requires).1 c.depth.result c.depth.ensures
