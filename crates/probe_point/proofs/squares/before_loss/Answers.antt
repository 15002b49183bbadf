use Rattle.std.proofs.Common.{rules, ℤ, pos, ◌+ℤ◌, ◌*ℤ◌, FitsSigned, to_z-of_z, ap, ◌∙◌}
use Rattle.std.specs.Int.{w128}
use Rattle.probe_point.proofs.squares.before_loss.Goals as goal

pub returns : goal.returns
returns c =
    let x = c.ranges.x in
    let low = c.ranges.low in
    let r = c.ranges.r in
    let t : FitsSigned w128 c.twice.result = search rules in
    let l : FitsSigned w128 c.loss_square.result = search rules in
    let s : FitsSigned w128 (c.args.x +ℤ c.twice.result) = search rules in
    let u : FitsSigned w128 (c.args.x +ℤ c.twice.result +ℤ c.loss_square.result) = search rules in
    let one = simp to_z-of_z at c.twice.ensures.value in
    let two = simp to_z-of_z at c.loss_square.ensures.value in
    simp to_z-of_z (ap (λ (y : ℤ). c.args.x +ℤ y +ℤ c.loss_square.result) one ∙ ap (λ (y : ℤ). c.args.x +ℤ pos 2 *ℤ (c.args.low *ℤ c.args.r) +ℤ y) two)
