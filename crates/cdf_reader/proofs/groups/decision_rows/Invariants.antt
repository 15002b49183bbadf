use Rattle.std.proofs.Common.{length}
use Rattle.element_fields.specs.Lookup.{children}
use Rattle.element_fields.specs.Names.{label}
use Rattle.element_fields.proofs.Rows.{SoFar}
use Rattle.cdf_reader.specs.Groups.{decision_in}
use Rattle.cdf_reader.proofs.groups.decision_rows.Given as goal

abbrev pub invariant-loop-e : goal.invariant-loop-e
invariant-loop-e l = SoFar (decision_in (label l.parent)) (children l.parent.depth) l.rows l.rest l.below

abbrev pub decreases-loop-e : goal.decreases-loop-e
decreases-loop-e l = length l.rest
