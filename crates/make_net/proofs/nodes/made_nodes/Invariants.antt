use Rattle.std.proofs.Common.{◌≡◌, map}
use Rattle.std.specs.List.{range_with_len}
use Rattle.make_net.specs.Made.{made_node}
use Rattle.make_net.proofs.nodes.made_nodes.Given as goal

abbrev pub invariant-loop-node : goal.invariant-loop-node
invariant-loop-node l = l.nodes ≡ map (made_node l.fn.count) (range_with_len 0 l.node)
