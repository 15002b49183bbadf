use Rattle.std.proofs.Common.{◌≡◌, ℕ, ◌<◌, ◌≤◌, false}
use Rattle.link_queue.specs.Queue.{holds}
use Rattle.stable_sweep.proofs.law_queue.first_from.Given as goal

abbrev pub invariant-loop-slot : goal.invariant-loop-slot
invariant-loop-slot l = (i : ℕ) → l.turn ≤ i → i < l.slot → holds i l.round.held ≡ false
