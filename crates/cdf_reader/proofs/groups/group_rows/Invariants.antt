use Rattle.std.proofs.Common.{length}
use Rattle.element_fields.specs.Lookup.{children}
use Rattle.element_fields.proofs.Rows.{SoFar}
use Rattle.cdf_reader.specs.Groups.{group_in}
use Rattle.cdf_reader.proofs.groups.group_rows.Given as goal

abbrev pub invariant-loop-e : goal.invariant-loop-e
invariant-loop-e l = SoFar (group_in l.root.name) (children l.root.depth) l.rows l.rest l.below

abbrev pub decreases-loop-e : goal.decreases-loop-e
decreases-loop-e l = length l.rest
