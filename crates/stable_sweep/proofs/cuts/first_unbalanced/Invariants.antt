use Rattle.std.proofs.Common.{◌≡◌, ℕ, ◌<◌, false, get_or}
use Rattle.stable_sweep.specs.Supplies.{cannot_balance, no_supply}
use Rattle.stable_sweep.proofs.cuts.first_unbalanced.Given as goal

abbrev pub invariant-loop-root : goal.invariant-loop-root
invariant-loop-root l = (i : ℕ) → i < l.root → cannot_balance (get_or l.supplies i no_supply) ≡ false
