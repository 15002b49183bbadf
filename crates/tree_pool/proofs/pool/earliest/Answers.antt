use Rattle.std.proofs.Common.{length}
use Rattle.tree_pool.specs.Nodes.{rows_of}
use Rattle.tree_pool.proofs.PoolKeeps.{first_in_order}
use Rattle.tree_pool.proofs.pool.earliest.Goals as goal

pub returns-then-in_order-clause-first : goal.returns-then-in_order-clause-first
returns-then-in_order-clause-first c =
    first_in_order (rows_of c.args.places.now c.args.nodes.now) (length c.args.nodes.now) c.args.from (c.requires.ordered c.if-in_order.true) c.requires.before
