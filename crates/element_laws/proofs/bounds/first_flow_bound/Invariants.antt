use Rattle.std.proofs.Common.{ℕ, ◌<◌, IsTrue}
use Rattle.element_laws.specs.KeptLaws.{keeps_flow_bound}
use Rattle.element_laws.proofs.bounds.first_flow_bound.Given as goal

abbrev pub invariant-loop-arc : goal.invariant-loop-arc
invariant-loop-arc l = (k : ℕ) → k < l.arc → IsTrue (keeps_flow_bound l.p l.setting k)
