use Rattle.std.proofs.Common.{◌≡◌, drop}
use Rattle.name_places.specs.ByName.{look}
use Rattle.network.specs.Faults.{first_fault}
use Rattle.network.specs.Decisions.{decision_fault}
use Rattle.network.proofs.decisions.check_group.Given as goal

abbrev pub invariant-loop-decision : goal.invariant-loop-decision
invariant-loop-decision l = record {
  decisions : l.decisions ≡ l.group.decisions;
  so_far : first_fault (decision_fault (look l.words)) (drop l.decision-index l.decisions) ≡ first_fault (decision_fault (look l.words)) l.decisions;
}
