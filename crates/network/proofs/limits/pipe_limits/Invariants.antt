use Rattle.name_places.specs.ByName.{look}
use Rattle.network.proofs.PipeLimits.{Limited}
use Rattle.network.proofs.limits.pipe_limits.Given as goal

abbrev pub invariant-loop-arc : goal.invariant-loop-arc
invariant-loop-arc l = Limited (look l.limits) l.arcs l.arc-index
