use Rattle.nom_range.specs.Brackets.{IsBracket, turns_left}
use Rattle.nom_range.proofs.ranging.Question.narrow.Given as goal

abbrev pub invariant-loop-known : goal.invariant-loop-known
invariant-loop-known l = IsBracket l.fn.self.p.now l.fn.self.node l.fn.self.low l.fn.self.high l.fn.self.tol l.known

abbrev pub decreases-loop-known : goal.decreases-loop-known
decreases-loop-known l = turns_left l.known
