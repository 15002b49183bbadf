use Rattle.topo.specs.Graphs.{graph_of}
use Rattle.topo.specs.Roles.{has_tree_role}
use Rattle.topo.specs.Walks.{AreWalks}
use Rattle.topo.proofs.walking.walk_of.Given as goal

abbrev pub invariant-loop-root : goal.invariant-loop-root
invariant-loop-root l = AreWalks (graph_of l.arcs) (has_tree_role l.roles) l.roots l.root-index l.walk.items
