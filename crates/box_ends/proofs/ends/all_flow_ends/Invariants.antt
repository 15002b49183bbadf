use Rattle.std.proofs.Common.{◌≡◌, map, take}
use Rattle.gas_model.specs.Boxes.{flow_ends}
use Rattle.box_ends.proofs.ends.all_flow_ends.Given as goal

abbrev pub invariant-loop-row : goal.invariant-loop-row
invariant-loop-row l = l.all.items ≡ map (flow_ends l.scale) (take l.row-index l.row-items)
