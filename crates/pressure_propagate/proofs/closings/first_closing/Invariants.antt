use Rattle.pressure_propagate.proofs.RuleLists.{AreDone}
use Rattle.pressure_propagate.proofs.ArcClosings.{Opens}
use Rattle.pressure_propagate.proofs.closings.first_closing.Given as goal

-- no rule so far closes the box
abbrev pub invariant-loop-rule : goal.invariant-loop-rule
invariant-loop-rule l = AreDone (Opens l.fn.form l.fn.scale l.fn.e) l.rule-items l.rule-index
