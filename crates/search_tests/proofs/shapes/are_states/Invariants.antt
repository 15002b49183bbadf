use Rattle.std.proofs.Common.{◌≡◌, ℕ, ◌<◌, Some, IsTrue}
use Rattle.std.specs.Prelude.{slice_get}
use Rattle.gas_model.specs.declared.rows.ArcRow.{ArcRow}
use Rattle.base_types.specs.declared.states.ArcState.{ArcState}
use Rattle.gas_model.specs.Choices.{has_state}
use Rattle.search_tests.proofs.shapes.are_states.Given as goal

abbrev pub invariant-loop-a : goal.invariant-loop-a
invariant-loop-a l = (i : ℕ) → i < l.a → (row : ArcRow) (state : ArcState) → slice_get l.arcs i ≡ Some row → slice_get l.states i ≡ Some (Some state) → IsTrue (has_state row.kind state)
