use Rattle.std.proofs.Common.{◌≡◌, take}
use Rattle.box_pool.specs.Origins.{origins_of, child_origins}
use Rattle.box_pool.proofs.open_box.spots.Given as goal

abbrev pub invariant-loop-head : goal.invariant-loop-head
invariant-loop-head l = origins_of l.all.items ≡ child_origins l.fn.base (take l.head-index l.heads)
