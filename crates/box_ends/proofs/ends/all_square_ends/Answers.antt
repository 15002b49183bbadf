use Rattle.std.proofs.Common.{◌≡◌, ◌∙◌, to_z-of_z, ap, sym, subst, refl, arith, length, map, take, Some}
use Rattle.std.specs.Prelude.{slice_get}
use Rattle.std.proofs.Math.Seq.{take-length}
use Rattle.std.proofs.lemmas.Option.{slice_get_read}
use Rattle.gas_model.specs.Boxes.{square_ends}
use Rattle.gas_model.specs.BoxLimits.{AreSquareEnds}
use Rattle.box_ends.specs.Scaled.{AreHeld}
use Rattle.gas_model.proofs.LimitFacts.{node_pressures}
use Rattle.box_ends.proofs.HeldEnds.{held_squares}
use Rattle.box_ends.proofs.ends.all_square_ends.Goals as goal

pub square_ends-requires-clause-low : goal.square_ends-requires-clause-low
square_ends-requires-clause-low c =
    let nodes = c.nodes-node-items.result.now in
    let node = c.node-item.result in
    let here : slice_get nodes c.loop-node.node-index ≡ Some node = slice_get_read nodes (length nodes) c.loop-node.node-index node refl c.loop-node-test.true c.node-item.is in
    (node_pressures node (c.nodes-node-items.ensures.within.nodes c.loop-node.node-index node (rw c.nodes-node-items.ensures.rows at here))).0

pub square_ends-requires-clause-high : goal.square_ends-requires-clause-high
square_ends-requires-clause-high c =
    let nodes = c.nodes-node-items.result.now in
    let node = c.node-item.result in
    let here : slice_get nodes c.loop-node.node-index ≡ Some node = slice_get_read nodes (length nodes) c.loop-node.node-index node refl c.loop-node-test.true c.node-item.is in
    (node_pressures node (c.nodes-node-items.ensures.within.nodes c.loop-node.node-index node (rw c.nodes-node-items.ensures.rows at here))).1

pub returns-clause-value : goal.returns-clause-value
returns-clause-value c =
    let nodes = c.nodes-node-items.result.now in
    let done : c.loop-node.node-index ≡ length nodes = omega arith in
    simp (to_z-of_z, c.ranges.scale) at c.loop-node.invariant ∙ ap (map (square_ends c.args.scale)) (ap (λ k. take k nodes) done ∙ take-length nodes ∙ c.nodes-node-items.ensures.rows)

pub returns-clause-held : goal.returns-clause-held
returns-clause-held c =
    let nodes = c.nodes-node-items.result.now in
    let done : c.loop-node.node-index ≡ length nodes = omega arith in
    let value = simp (to_z-of_z, c.ranges.scale) at c.loop-node.invariant ∙ ap (map (square_ends c.args.scale)) (ap (λ k. take k nodes) done ∙ take-length nodes ∙ c.nodes-node-items.ensures.rows) in
    subst (AreHeld (AreSquareEnds c.args.scale)) (sym value) (held_squares c.args.p.now c.args.scale c.requires c.nodes-node-items.ensures.within)
