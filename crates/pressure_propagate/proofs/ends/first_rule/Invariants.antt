use Rattle.pressure_propagate.proofs.RuleLists.{AreDone}
use Rattle.pressure_propagate.proofs.SquareMoves.{Leaves}
use Rattle.pressure_propagate.proofs.ends.first_rule.Given as goal

-- no rule so far moves the end
abbrev pub invariant-loop-rule : goal.invariant-loop-rule
invariant-loop-rule l = AreDone (Leaves l.fn.form l.fn.scale l.fn.e l.fn.from l.fn.low) l.rule-items l.rule-index
