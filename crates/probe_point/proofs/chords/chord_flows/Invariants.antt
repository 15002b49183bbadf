use Rattle.probe_point.specs.Probes.{box_at}
use Rattle.probe_point.proofs.ChordFacts.{Given}
use Rattle.probe_point.proofs.chords.chord_flows.Given as goal

abbrev pub invariant-loop-chord : goal.invariant-loop-chord
invariant-loop-chord l = Given l.arcs (box_at l.boxes) l.chords l.initial.flows l.flows l.initial.need l.need l.chord-index
