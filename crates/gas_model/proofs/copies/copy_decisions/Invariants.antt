use Rattle.std.proofs.Common.{◌≡◌, take}
use Rattle.gas_model.proofs.copies.copy_decisions.Given as goal

abbrev pub invariant-loop-decision : goal.invariant-loop-decision
invariant-loop-decision l = l.copies ≡ take l.decision-index l.decisions
