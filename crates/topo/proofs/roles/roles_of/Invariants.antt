use Rattle.std.proofs.Common.{length}
use Rattle.topo.specs.Graphs.{graph_of}
use Rattle.topo.specs.States.{is_kept}
use Rattle.topo.proofs.Placed.{Placed}
use Rattle.topo.proofs.roles.roles_of.Given as goal

abbrev pub invariant-loop-a : goal.invariant-loop-a
invariant-loop-a l = Placed (graph_of l.arcs) (is_kept l.states) (length l.initial.roots) l.roots l.roles.items l.a
