use Rattle.std.proofs.Common.{◌≡◌, map}
use Rattle.topo.specs.Graphs.{graph_of}
use Rattle.topo.specs.States.{is_active, state_in}
use Rattle.topo.specs.Walks.{those}
use Rattle.topo.proofs.split.active_ends.Given as goal

abbrev pub invariant-loop-a : goal.invariant-loop-a
invariant-loop-a l = l.ends.items ≡ map (graph_of l.arcs).to (those (λ a. is_active (state_in l.states a)) l.a)
