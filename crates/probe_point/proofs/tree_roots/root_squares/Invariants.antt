use Rattle.probe_point.specs.Probes.{box_at}
use Rattle.probe_point.proofs.RootFacts.{Rooted}
use Rattle.probe_point.proofs.tree_roots.root_squares.Given as goal

abbrev pub invariant-loop-root : goal.invariant-loop-root
invariant-loop-root l = Rooted (box_at l.boxes) l.roots l.initial.squares l.squares l.root-index
