use Rattle.std.proofs.Common.{◌≡◌, take, map}
use Rattle.network.specs.Decisions.{decision_text}
use Rattle.network.proofs.decisions.decision_texts.Given as goal

abbrev pub invariant-loop-decision : goal.invariant-loop-decision
invariant-loop-decision l = l.texts ≡ map decision_text (take l.decision-index l.decisions)
