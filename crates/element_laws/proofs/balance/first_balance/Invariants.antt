use Rattle.std.proofs.Common.{ℕ, ◌<◌, IsTrue}
use Rattle.element_laws.specs.KeptLaws.{keeps_balance}
use Rattle.element_laws.proofs.balance.first_balance.Given as goal

abbrev pub invariant-loop-node : goal.invariant-loop-node
invariant-loop-node l = (k : ℕ) → k < l.node → IsTrue (keeps_balance l.p l.setting k)
