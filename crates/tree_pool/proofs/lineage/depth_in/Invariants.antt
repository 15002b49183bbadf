use Rattle.std.proofs.Common.{◌≡◌, ◌+◌, ◌<◌, length, get_or, []}
use Rattle.tree_pool.specs.Lineages.{paths_of}
use Rattle.tree_pool.proofs.lineage.depth_in.Given as goal

abbrev pub invariant-loop-n : goal.invariant-loop-n
invariant-loop-n l = record {
  within : l.n < length l.places;
  so_far : length (get_or (paths_of l.places) l.fn.n []) ≡ l.depth + length (get_or (paths_of l.places) l.n []);
}

abbrev pub decreases-loop-n : goal.decreases-loop-n
decreases-loop-n l = l.n
