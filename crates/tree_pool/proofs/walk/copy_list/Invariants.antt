use Rattle.std.proofs.Common.{◌≡◌, take}
use Rattle.tree_pool.proofs.walk.copy_list.Given as goal

abbrev pub invariant-loop-item : goal.invariant-loop-item
invariant-loop-item l = l.list ≡ take l.item-index l.items
