use Rattle.std.proofs.Common.{◌≡◌, map, take}
use Rattle.probe_point.specs.Probes.{AreSmall}
use Rattle.probe_point.specs.Points.{middle_supply}
use Rattle.probe_point.proofs.supplies.middle_supplies.Given as goal

abbrev pub invariant-loop-node : goal.invariant-loop-node
invariant-loop-node l = record {
  value : l.all.items ≡ map middle_supply (take l.node-index l.node-items);
  size : AreSmall 1 l.all.items;
}
