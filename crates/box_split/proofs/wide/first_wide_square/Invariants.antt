use Rattle.std.proofs.Common.{◌≡◌, ◌<◌, ℕ, false}
use Rattle.base_types.specs.declared.variables.Var.TheVariants.{Square}
use Rattle.box_split.specs.Forks.{is_wide}
use Rattle.box_split.proofs.wide.first_wide_square.Given as goal

abbrev pub invariant-loop-n : goal.invariant-loop-n
invariant-loop-n g l = (n : ℕ) → n < l.n → is_wide l.b (Square n) ≡ false
