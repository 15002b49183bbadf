use Rattle.std.proofs.Common.{◌≡◌, sym, ap, subst, arith, List, length, ℤ, pos}
use Rattle.std.proofs.lemmas.List.{length-replicate}
use Rattle.probe_point.specs.Points.{AreProbeSquares}
use Rattle.probe_point.proofs.NumberFacts.{written}
use Rattle.probe_point.proofs.probing.squares_of.Goals as goal

pub returns-clause-value : goal.returns-clause-value
returns-clause-value c =
    let v = c.in_ok-squares.squares in
    let new : List ℤ = c.give_squares.new.squares in
    let kept = c.give_squares.auto.squares in
    let seen = ap length c.as_mut_slice.ensures.value in
    let one = ap length c.in_ok-squares.ensures in
    let two = length-replicate (length c.nodes-nodes.result.now) (pos 0) in
    let rows = ap length c.nodes-nodes.ensures.rows in
    let size = c.as_mut_slice.ensures.len in
    let long : length new ≡ v.len = omega arith in
    subst (AreProbeSquares c.args.b.now.scale c.args.p.now c.args.states.now c.args.shape.now c.args.b.now.bounds.squares c.args.flows.now) (sym (written v.len new v.items long)) (record {
      count = omega arith;
      hulls = c.in_ok-hulls.hulls.items;
      are_hulls = c.in_ok-hulls.ensures.hulls;
      roots = rw c.as_slice.ensures.value at c.give_squares.ensures.roots;
      others = rw c.as_slice.ensures.value at c.give_squares.ensures.others;
    })
