use Rattle.std.proofs.Common.{length}
use Rattle.element_fields.specs.Lookup.{children}
use Rattle.element_fields.proofs.Rows.{SoFar}
use Rattle.net_reader.specs.Arcs.{arc_in}
use Rattle.net_reader.proofs.arc.arc_rows.Given as goal

abbrev pub invariant-loop-e : goal.invariant-loop-e
invariant-loop-e l = SoFar (arc_in l.parent.name) (children l.parent.depth) l.rows l.rest l.below

abbrev pub decreases-loop-e : goal.decreases-loop-e
decreases-loop-e l = length l.rest
