use Rattle.std.proofs.Common.{◌≡◌, take}
use Rattle.gas_model.proofs.copies.copy_arcs.Given as goal

abbrev pub invariant-loop-arc : goal.invariant-loop-arc
invariant-loop-arc l = l.copies ≡ take l.arc-index l.arcs
