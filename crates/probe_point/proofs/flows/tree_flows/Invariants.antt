use Rattle.std.proofs.Common.{ℕ, ℤ, ◌≤◌, ◌+◌, ◌-◌, length}
use Rattle.gas_model.specs.Near.{number_at}
use Rattle.topo.specs.Graphs.{graph_of}
use Rattle.probe_point.specs.Probes.{box_at, AreNeeds, AreSmall, KeepsOthers}
use Rattle.probe_point.proofs.Settled.{Settled}
use Rattle.probe_point.proofs.flows.tree_flows.Given as goal

abbrev pub invariant-loop-left : goal.invariant-loop-left
invariant-loop-left l = record {
  within : l.left ≤ length l.walk;
  small : AreSmall (2001 + (length l.walk - l.left)) l.need;
  flows : AreSmall 1 l.flows;
  settled : (supply : ℕ → ℤ) → AreNeeds l.arcs supply (number_at l.initial.flows) l.initial.need → Settled (graph_of l.arcs) (box_at l.boxes) supply l.walk (number_at l.flows) l.need l.left;
  others : KeepsOthers l.walk (number_at l.initial.flows) (number_at l.flows);
}

abbrev pub decreases-loop-left : goal.decreases-loop-left
decreases-loop-left l = l.left
