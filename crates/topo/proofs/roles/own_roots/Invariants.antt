use Rattle.std.proofs.Common.{◌≡◌, ◌==◌, slice_index}
use Rattle.topo.specs.Walks.{those}
use Rattle.topo.proofs.roles.own_roots.Given as goal

abbrev pub invariant-loop-n : goal.invariant-loop-n
invariant-loop-n l = l.roots.items ≡ those (λ n. slice_index l.root_of n == n) l.n
