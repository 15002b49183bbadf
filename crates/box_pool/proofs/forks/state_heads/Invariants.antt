use Rattle.std.proofs.Common.{◌≡◌, map, take}
use Rattle.tree_cert.specs.declared.line.Head.TheVariants.{State}
use Rattle.box_pool.proofs.forks.state_heads.Given as goal

abbrev pub invariant-loop-state : goal.invariant-loop-state
invariant-loop-state l = l.heads ≡ map (State l.arc) (take l.state-index l.states)
