use Rattle.std.proofs.Common.{ℕ, ◌<◌, IsTrue}
use Rattle.element_laws.specs.KeptLaws.{keeps_law}
use Rattle.element_laws.proofs.arcs.first_law.Given as goal

abbrev pub invariant-loop-arc : goal.invariant-loop-arc
invariant-loop-arc l = (k : ℕ) → k < l.arc → IsTrue (keeps_law l.p l.tol l.setting k)
