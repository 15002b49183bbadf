use Rattle.std.proofs.Common.{ℕ, ℤ, ◌<◌, length, arith, subst, lt-ltb, rules, FitsSigned, to_z-of_z}
use Rattle.std.specs.Int.{w128}
use Rattle.std.specs.Prelude.{slice_index_or}
use Rattle.std.proofs.lemmas.List.{length_push}
use Rattle.gas_model.specs.declared.rows.Ends.{Ends}
use Rattle.base_types.specs.declared.variables.Var.TheVariants as var
use Rattle.gas_model.specs.Boxes.{no_ends}
use Rattle.gas_model.specs.BoxLimits.{AreSquareEnds}
use Rattle.probe_point.specs.Hulls.{IsHull}
use Rattle.probe_point.proofs.HullFacts.{SquareBox, square_box, one_more}
use Rattle.probe_point.proofs.hull.square_hulls.Goals as goal

pub loop-node-preserved : goal.loop-node-preserved
loop-node-preserved c =
    let s = c.loop-node.invariant in
    let h = c.hull_of.result in
    let n : ℕ = c.loop-node.node in
    let K = c.args.b.now.scale in
    let e : Ends = slice_index_or c.args.b.now.bounds.squares n no_ends in
    let same = c.ends.ensures.value in
    let inside : n < length c.args.b.now.bounds.squares = (let lt = c.loop-node-test.true in let count = c.requires.count in omega arith) in
    let scale_fits : FitsSigned w128 c.scale.result = search rules in
    let low_fits : FitsSigned w128 c.ends.result.lo = search rules in
    let high_fits : FitsSigned w128 c.ends.result.hi = search rules in
    let made : IsHull c.scale.result c.ends.result h = simp to_z-of_z at c.hull_of.ensures in
    let scaled = subst (λ (k : ℤ). IsHull k c.ends.result h) c.scale.ensures.value made in
    let hull : IsHull K e h = subst (λ (x : Ends). IsHull K x h) same scaled in
    let within : AreSquareEnds K e = subst (AreSquareEnds K) same c.ends.ensures.limits in
    let limits : SquareBox h = square_box K e h c.ends.ensures.scale within (c.requires.all (var.Square n) (lt-ltb n _ inside)) hull in
    rw c.in_ok-push.ensures.items (record {
      count = let l = length_push c.loop-node.hulls.items h in omega arith;
      each = one_more (λ i e. IsHull c.args.b.now.scale (slice_index_or c.args.b.now.bounds.squares i no_ends) e) c.loop-node.hulls.items h n s.count s.each hull;
      limits = one_more (λ i e. SquareBox e) c.loop-node.hulls.items h n s.count s.limits limits;
    })
