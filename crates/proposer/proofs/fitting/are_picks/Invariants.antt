use Rattle.proposer.proofs.Picks.{AreInRange}
use Rattle.proposer.proofs.fitting.are_picks.Given as goal

abbrev pub invariant-loop-k : goal.invariant-loop-k
invariant-loop-k l = AreInRange l.groups l.picks l.k
