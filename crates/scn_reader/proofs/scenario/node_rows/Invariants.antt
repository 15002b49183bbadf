use Rattle.std.proofs.Common.{length, codes}
use Rattle.element_fields.specs.Lookup.{children_named}
use Rattle.element_fields.proofs.Rows.{SoFar}
use Rattle.scn_reader.specs.Scenario.{node_in}
use Rattle.scn_reader.proofs.scenario.node_rows.Given as goal

abbrev pub invariant-loop-e : goal.invariant-loop-e
invariant-loop-e l = SoFar node_in (children_named l.depth (codes "node")) l.rows l.rest l.below

abbrev pub decreases-loop-e : goal.decreases-loop-e
decreases-loop-e l = length l.rest
