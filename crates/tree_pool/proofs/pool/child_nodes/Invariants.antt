use Rattle.std.proofs.Common.{◌≡◌, take}
use Rattle.tree_pool.specs.Calls.{fresh_nodes}
use Rattle.tree_pool.proofs.pool.child_nodes.Given as goal

abbrev pub invariant-loop-head : goal.invariant-loop-head
invariant-loop-head l = l.nodes.items ≡ fresh_nodes (take l.head-index l.heads)
