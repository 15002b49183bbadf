use Rattle.topo.specs.Graphs.{graph_of}
use Rattle.topo.specs.Roles.{has_tree_role}
use Rattle.topo.proofs.Spanned.{walked_one}
use Rattle.topo.proofs.walking.walk_of.Goals as goal

pub loop-root-preserved : goal.loop-root-preserved
loop-root-preserved c = walked_one (graph_of c.args.arcs.now) (has_tree_role c.args.roles.now) c.args.roots.now c.loop-root.walk.items c.walk_from.new.walk.items c.loop-root.root-index c.loop-root.invariant c.in_ok-walk_from.ensures
