use Rattle.std.proofs.Common.{◌≡◌, ◌<◌, length, get_or, []}
use Rattle.tree_pool.specs.Order.{order, or_then}
use Rattle.tree_pool.specs.Lineages.{paths_of}
use Rattle.tree_pool.proofs.lineage.compare_places.Given as goal

abbrev pub invariant-loop-a : goal.invariant-loop-a
invariant-loop-a l = record {
  left : l.a < length l.places;
  right : l.b < length l.places;
  so_far : order (get_or (paths_of l.places) l.fn.a []) (get_or (paths_of l.places) l.fn.b []) ≡ or_then (order (get_or (paths_of l.places) l.a []) (get_or (paths_of l.places) l.b [])) l.below;
}

abbrev pub decreases-loop-a : goal.decreases-loop-a
decreases-loop-a l = l.a
