use Rattle.std.proofs.Common.{rules, arith, ℕ, ◌<◌, ◌+◌, length, sym, subst, FitsSigned, set, to_z-of_z}
use Rattle.std.specs.Int.{w128}
use Rattle.gas_model.specs.Near.{number_at}
use Rattle.topo.specs.Graphs.{graph_of}
use Rattle.topo.specs.Walks.{step_at}
use Rattle.probe_point.specs.Probes.{box_at}
use Rattle.probe_point.specs.Squares.{IsStepSquare}
use Rattle.probe_point.proofs.Settled.{far_of, step_far}
use Rattle.probe_point.proofs.Laid.{Laid, laid_step}
use Rattle.probe_point.proofs.squares.far_squares.Goals as goal

pub loop-arc-preserved : goal.loop-arc-preserved
loop-arc-preserved c =
    let g = graph_of c.args.arcs.now in
    let i : ℕ = c.loop-arc.arc-index in
    let v : ℕ = far_of g c.args.walk.now i in
    let h = step_far g c.args.walk.now i (length c.args.squares.now) c.requires.walk c.loop-arc-test.true (λ a ha. (c.requires.ends.from a ha, c.requires.ends.to a ha)) in
    let hv : v < length c.loop-arc.squares = (let l = c.loop-arc.auto.squares in omega arith) in
    let fits : FitsSigned w128 c.step_square-square.result = search rules in
    let value = subst (λ (n : ℕ). IsStepSquare c.args.arcs.now c.args.states.now (box_at c.args.boxes.now) (number_at c.args.flows.now) (number_at c.loop-arc.squares) (step_at c.args.walk.now i).0 (step_at c.args.walk.now i).1 n c.step_square-square.result) c.far-node.ensures c.step_square-square.ensures.value in
    let next = laid_step c.args.arcs.now c.args.states.now (box_at c.args.boxes.now) (number_at c.args.flows.now) c.args.walk.now c.args.squares.now c.loop-arc.squares i c.step_square-square.result c.requires.walk c.requires.ends.apart c.loop-arc-test.true hv c.step_square-square.ensures.size value c.loop-arc.invariant in
    simp to_z-of_z (subst (λ (n : ℕ). Laid c.args.arcs.now c.args.states.now (box_at c.args.boxes.now) (number_at c.args.flows.now) c.args.walk.now c.args.squares.now (set c.loop-arc.squares n c.step_square-square.result) (i + 1)) (sym c.far-node.ensures) next)
