use Rattle.std.proofs.Common.{length}
use Rattle.element_fields.specs.Lookup.{children}
use Rattle.element_fields.specs.Names.{label}
use Rattle.element_fields.proofs.Folds.{TakenSoFar}
use Rattle.scn_reader.specs.Bounds.{with_child, widest}
use Rattle.scn_reader.proofs.bounds.node_bounds.Given as goal

abbrev pub invariant-loop-q : goal.invariant-loop-q
invariant-loop-q l = TakenSoFar (λ s c. with_child (label l.e) s c.0) (children l.e.depth) widest l.bounds l.rest l.below

abbrev pub decreases-loop-q : goal.decreases-loop-q
decreases-loop-q l = length l.rest
