use Rattle.std.proofs.Common.{◌+◌, ◌-◌, length}
use Rattle.topo.specs.Graphs.{graph_of}
use Rattle.topo.specs.Roles.{has_tree_role}
use Rattle.topo.proofs.Walked.{Walked}
use Rattle.topo.proofs.walking.walk_from.Given as goal

abbrev pub invariant-nodes : goal.invariant-nodes
invariant-nodes l = Walked (graph_of l.arcs) (has_tree_role l.roles) l.root l.fn.walk.items l.walk.items l.i

abbrev pub decreases-nodes : goal.decreases-nodes
decreases-nodes l = (length l.fn.walk.items + length l.at) - l.i
