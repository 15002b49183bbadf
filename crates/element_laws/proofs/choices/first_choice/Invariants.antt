use Rattle.std.proofs.Common.{ℕ, ◌<◌, IsTrue}
use Rattle.element_laws.specs.KeptLaws.{keeps_choice}
use Rattle.element_laws.proofs.choices.first_choice.Given as goal

abbrev pub invariant-loop-arc : goal.invariant-loop-arc
invariant-loop-arc l = (k : ℕ) → k < l.arc → IsTrue (keeps_choice l.p l.setting k)
