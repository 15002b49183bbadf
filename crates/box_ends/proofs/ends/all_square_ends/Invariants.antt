use Rattle.std.proofs.Common.{◌≡◌, map, take}
use Rattle.gas_model.specs.Boxes.{square_ends}
use Rattle.box_ends.proofs.ends.all_square_ends.Given as goal

abbrev pub invariant-loop-node : goal.invariant-loop-node
invariant-loop-node l = l.all.items ≡ map (square_ends l.scale) (take l.node-index l.node-items)
