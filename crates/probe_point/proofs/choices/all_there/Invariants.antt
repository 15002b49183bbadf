use Rattle.std.proofs.Common.{◌≡◌, map, take, Some}
use Rattle.probe_point.proofs.choices.all_there.Given as goal

abbrev pub invariant-loop-item : goal.invariant-loop-item
invariant-loop-item g l = l.all ≡ map Some (take l.item-index l.items)
