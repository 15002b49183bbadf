use Rattle.std.proofs.Common.{◌≡◌, ℕ, ◌<◌, length}
use Rattle.std.specs.Prelude.{slice_index_or}
use Rattle.gas_model.specs.Boxes.{no_ends}
use Rattle.probe_point.specs.Probes.{box_at}
use Rattle.probe_point.specs.Hulls.{IsHull}
use Rattle.probe_point.proofs.HullFacts.{SquareBox}
use Rattle.probe_point.proofs.hull.square_hulls.Given as goal

abbrev pub invariant-loop-node : goal.invariant-loop-node
invariant-loop-node l = record {
  count : length l.hulls.items ≡ l.node;
  each : (i : ℕ) → i < l.node → IsHull l.fn.b.scale (slice_index_or l.fn.b.bounds.squares i no_ends) (box_at l.hulls.items i);
  limits : (i : ℕ) → i < l.node → SquareBox (box_at l.hulls.items i);
}
