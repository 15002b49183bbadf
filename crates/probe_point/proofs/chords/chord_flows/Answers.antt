use Rattle.std.proofs.Common.{rules, ◌≡◌, length, sym, ◌∙◌, subst, FitsSigned, to_z-of_z}
use Rattle.std.specs.Int.{w128}
use Rattle.probe_point.specs.Probes.{box_at, AreGraphEnds}
use Rattle.probe_point.proofs.ChordFacts.{given_step}
use Rattle.probe_point.proofs.chords.chord_flows.Goals as goal

pub loop-chord-preserved : goal.loop-chord-preserved
loop-chord-preserved c =
    let s = c.loop-chord.invariant in
    let x = c.chord_flow-flow.result in
    let fits : FitsSigned w128 c.chord_flow-flow.result = search rules in
    let long : length c.loop-chord.flows ≡ length c.args.flows.now = c.loop-chord.auto.flows in
    let size : length c.loop-chord.need ≡ length c.args.need.now = c.loop-chord.auto.need in
    let e1 = simp to_z-of_z at c.give.ensures.flows in
    let e2 = simp to_z-of_z at c.give.ensures.need in
    given_step c.args.arcs.now (box_at c.args.boxes.now) c.args.chords.now c.args.flows.now c.loop-chord.flows c.give.new.flows c.args.need.now c.loop-chord.need c.give.new.need c.loop-chord.chord-index x c.requires.chords
    (subst (AreGraphEnds c.args.arcs.now) (sym size) c.requires.ends) (long ∙ c.requires.flow_of_each) c.loop-chord-test.true c.chord_flow-flow.ensures.value c.chord_flow-flow.ensures.size e1 e2 s
