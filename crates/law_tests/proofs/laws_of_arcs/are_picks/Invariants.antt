use Rattle.std.proofs.Common.{◌≡◌, ℕ, ◌<◌, length, Some}
use Rattle.std.specs.Prelude.{slice_get}
use Rattle.gas_model.specs.declared.rows.Group.{Group}
use Rattle.law_tests.proofs.laws_of_arcs.are_picks.Given as goal

abbrev pub invariant-loop-k : goal.invariant-loop-k
invariant-loop-k l = (i : ℕ) → i < l.k → (g : Group) (j : ℕ) → slice_get l.groups i ≡ Some g → slice_get l.picks i ≡ Some j → j < length g.decisions
