use Rattle.std.proofs.Common.{◌≡◌, ◌<◌, ℕ, false}
use Rattle.base_types.specs.declared.variables.Var.TheVariants.{Flow}
use Rattle.box_split.specs.Forks.{is_wide}
use Rattle.box_split.proofs.wide.first_wide_flow.Given as goal

abbrev pub invariant-loop-a : goal.invariant-loop-a
invariant-loop-a g l = (a : ℕ) → a < l.a → is_wide l.b (Flow a) ≡ false
