use Rattle.std.proofs.Common.{◌≡◌, ℕ, ◌<◌, length}
use Rattle.topo.specs.States.{fixed_at, state_in}
use Rattle.topo.proofs.fixed.fixed_states.Given as goal

abbrev pub invariant-loop-a : goal.invariant-loop-a
invariant-loop-a l = record {
  count : length l.states.items ≡ l.a;
  each : (k : ℕ) → k < l.a → state_in l.states.items k ≡ fixed_at l.p l.part k;
}
