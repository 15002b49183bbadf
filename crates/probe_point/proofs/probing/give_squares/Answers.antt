use Rattle.std.proofs.Common.{subst, sym}
use Rattle.gas_model.specs.Near.{number_at}
use Rattle.probe_point.specs.Probes.{box_at}
use Rattle.probe_point.specs.Squares.{AreKindsWithin, HasSquares, KeepsNearSquares}
use Rattle.probe_point.specs.Chords.{HasMiddles}
use Rattle.probe_point.proofs.ShapeFacts.{kinds_within}
use Rattle.probe_point.proofs.Given.{roots_kept}
use Rattle.probe_point.proofs.probing.give_squares.Goals as goal

pub far_squares-requires-clause-kinds : goal.far_squares-requires-clause-kinds
far_squares-requires-clause-kinds c = subst AreKindsWithin (sym c.arcs.ensures.rows) (kinds_within c.args.p.now c.arcs.ensures.within)

pub returns-clause-roots : goal.returns-clause-roots
returns-clause-roots c =
    let middles : HasMiddles (box_at c.args.hulls.now) c.args.shape.now.roots (number_at c.root_squares.new.squares) = rw c.roots.ensures at c.root_squares.ensures.middles in
    let others : KeepsNearSquares c.args.p.now.arcs c.args.shape.now.walk (number_at c.root_squares.new.squares) (number_at c.far_squares.new.squares) = rw (c.arcs.ensures.rows, c.walk.ensures) at c.far_squares.ensures.others in
    roots_kept c.args.p.now c.requires.shape.part c.args.shape.now (box_at c.args.hulls.now) c.root_squares.new.squares c.far_squares.new.squares c.requires.shape.is_shape middles others

pub returns-clause-others : goal.returns-clause-others
returns-clause-others c =
    let given : HasSquares c.args.p.now.arcs c.args.states.now (box_at c.args.hulls.now) (number_at c.args.flows.now) c.args.shape.now.walk (number_at c.far_squares.new.squares) = rw (c.arcs.ensures.rows, c.walk.ensures) at c.far_squares.ensures.given in
    given
