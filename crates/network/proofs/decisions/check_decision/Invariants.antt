use Rattle.std.proofs.Common.{◌≡◌, drop}
use Rattle.name_places.specs.ByName.{look}
use Rattle.network.specs.Faults.{first_fault}
use Rattle.network.specs.Decisions.{set_fault}
use Rattle.network.proofs.decisions.check_decision.Given as goal

abbrev pub invariant-loop-set : goal.invariant-loop-set
invariant-loop-set l = record {
  sets : l.sets ≡ l.decision.sets;
  so_far : first_fault (set_fault (look l.words)) (drop l.set-index l.sets) ≡ first_fault (set_fault (look l.words)) l.sets;
}
