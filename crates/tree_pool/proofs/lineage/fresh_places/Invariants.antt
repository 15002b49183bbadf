use Rattle.std.proofs.Common.{◌≡◌}
use Rattle.tree_pool.specs.Lineages.{places_of}
use Rattle.tree_pool.proofs.lineage.fresh_places.Given as goal

abbrev pub invariant-loop-nth : goal.invariant-loop-nth
invariant-loop-nth l = l.fresh.items ≡ places_of l.parent 0 l.nth
