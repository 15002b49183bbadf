use Rattle.std.proofs.Common.{◌≡◌, drop}
use Rattle.name_places.specs.ByName.{look}
use Rattle.network.specs.Faults.{first_fault}
use Rattle.network.specs.Decisions.{group_fault}
use Rattle.network.proofs.decisions.check_groups.Given as goal

abbrev pub invariant-loop-group : goal.invariant-loop-group
invariant-loop-group l = first_fault (group_fault (look l.words)) (drop l.group-index l.groups) ≡ first_fault (group_fault (look l.words)) l.groups
