use Rattle.std.proofs.Common.{◌≡◌, ℕ, ◌<◌, length, slice_index}
use Rattle.topo.proofs.roles.counted.Given as goal

abbrev pub invariant-loop-n : goal.invariant-loop-n
invariant-loop-n l = (length l.numbers.items ≡ l.n) × ((k : ℕ) → k < l.n → slice_index l.numbers.items k ≡ k)
