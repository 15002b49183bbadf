use Rattle.std.proofs.Common.{◌≡◌, ◌<◌, ℕ, false, is_none}
use Rattle.gas_model.specs.Rulings.{pick_in}
use Rattle.box_split.proofs.forks.first_open_group.Given as goal

abbrev pub invariant-loop-k : goal.invariant-loop-k
invariant-loop-k l = (k : ℕ) → k < l.k → is_none (pick_in l.state.picks k) ≡ false
