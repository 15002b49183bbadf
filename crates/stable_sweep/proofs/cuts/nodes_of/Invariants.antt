use Rattle.std.proofs.Common.{◌≡◌, ◌==◌, get_or}
use Rattle.topo.specs.Walks.{those}
use Rattle.stable_sweep.proofs.cuts.nodes_of.Given as goal

abbrev pub invariant-loop-n : goal.invariant-loop-n
invariant-loop-n l = l.nodes ≡ those (λ n. get_or l.shape.root_of n 0 == l.root) l.n
