use Rattle.tree_pool.specs.Calls.{NodesPass}
use Rattle.tree_pool.proofs.pool.next_waiting.Given as goal

abbrev pub invariant-loop-i : goal.invariant-loop-i
invariant-loop-i l = NodesPass l.nodes l.from l.i
