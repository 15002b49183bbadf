use Rattle.gas_model.specs.Near.{number_at}
use Rattle.probe_point.specs.Probes.{box_at}
use Rattle.probe_point.proofs.Laid.{Laid}
use Rattle.probe_point.proofs.squares.far_squares.Given as goal

abbrev pub invariant-loop-arc : goal.invariant-loop-arc
invariant-loop-arc l = Laid l.arcs l.states (box_at l.boxes) (number_at l.flows) l.walk l.initial.squares l.squares l.arc-index
