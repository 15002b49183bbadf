use Rattle.std.proofs.Common.{◌≡◌, map}
use Rattle.std.specs.List.{range_with_len}
use Rattle.make_net.specs.Made.{made_arc}
use Rattle.make_net.proofs.arcs.made_arcs.Given as goal

abbrev pub invariant-loop-node : goal.invariant-loop-node
invariant-loop-node l = l.arcs ≡ map (made_arc l.fn.count) (range_with_len 0 l.node)
