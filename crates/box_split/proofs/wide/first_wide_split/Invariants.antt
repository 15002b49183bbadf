use Rattle.std.proofs.Common.{◌≡◌, ◌<◌, ℕ, false}
use Rattle.box_split.specs.Forks.{at_turn, is_wide}
use Rattle.box_split.proofs.wide.first_wide_split.Given as goal

abbrev pub invariant-loop-k : goal.invariant-loop-k
invariant-loop-k g l = (k : ℕ) → k < l.k → is_wide l.b (at_turn l.split l.turn k) ≡ false
