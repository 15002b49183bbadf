use Rattle.std.proofs.Common.{◌≡◌, map}
use Rattle.std.specs.List.{range_with_len}
use Rattle.tree_cert.specs.declared.line.Head.TheVariants.{Take}
use Rattle.box_pool.proofs.forks.decision_heads.Given as goal

abbrev pub invariant-loop-decision : goal.invariant-loop-decision
invariant-loop-decision l = l.heads ≡ map (Take l.group) (range_with_len 0 l.decision)
