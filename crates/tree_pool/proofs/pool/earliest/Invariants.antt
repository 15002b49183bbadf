use Rattle.std.proofs.Common.{◌<◌, length}
use Rattle.tree_pool.specs.Nodes.{rows_of, IsFirstBelow}
use Rattle.tree_pool.proofs.pool.earliest.Given as goal

abbrev pub invariant-loop-i : goal.invariant-loop-i
invariant-loop-i l = record {
  first : IsFirstBelow (rows_of l.places l.nodes) l.i l.best;
  inside : l.best < length l.nodes;
}
