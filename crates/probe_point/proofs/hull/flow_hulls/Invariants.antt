use Rattle.std.proofs.Common.{◌≡◌, ℕ, ◌<◌, length}
use Rattle.std.specs.Prelude.{slice_index_or}
use Rattle.gas_model.specs.Boxes.{no_ends}
use Rattle.probe_point.specs.Probes.{box_at}
use Rattle.probe_point.specs.Hulls.{IsHull}
use Rattle.probe_point.proofs.HullFacts.{FlowBox}
use Rattle.probe_point.proofs.hull.flow_hulls.Given as goal

abbrev pub invariant-loop-arc : goal.invariant-loop-arc
invariant-loop-arc l = record {
  count : length l.hulls.items ≡ l.arc;
  each : (i : ℕ) → i < l.arc → IsHull l.fn.b.scale (slice_index_or l.fn.b.bounds.flows i no_ends) (box_at l.hulls.items i);
  limits : (i : ℕ) → i < l.arc → FlowBox (box_at l.hulls.items i);
}
