use Rattle.tree_pool.proofs.PoolCalls.{made}
use Rattle.tree_pool.proofs.pool.TreePool.new.Goals as goal

pub invariant_of-pool : goal.invariant_of-pool
invariant_of-pool c = (made c.in_ok-places.places c.in_ok-nodes.nodes.items c.in_ok-places.ensures c.in_ok-nodes.ensures).0

pub returns : goal.returns
returns c = (made c.in_ok-places.places c.in_ok-nodes.nodes.items c.in_ok-places.ensures c.in_ok-nodes.ensures).1
