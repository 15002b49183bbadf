use Rattle.std.proofs.Common.{ℕ, ◌<◌, IsTrue}
use Rattle.element_laws.specs.KeptLaws.{keeps_pressure_bound}
use Rattle.element_laws.proofs.bounds.first_pressure_bound.Given as goal

abbrev pub invariant-loop-node : goal.invariant-loop-node
invariant-loop-node l = (k : ℕ) → k < l.node → IsTrue (keeps_pressure_bound l.p l.setting k)
