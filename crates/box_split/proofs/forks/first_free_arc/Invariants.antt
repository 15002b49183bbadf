use Rattle.std.proofs.Common.{◌≡◌, ◌<◌, ℕ, false, is_none}
use Rattle.topo.specs.States.{fixed_at}
use Rattle.box_split.proofs.forks.first_free_arc.Given as goal

abbrev pub invariant-loop-a : goal.invariant-loop-a
invariant-loop-a l = (a : ℕ) → a < l.a → is_none (fixed_at l.p l.state a) ≡ false
