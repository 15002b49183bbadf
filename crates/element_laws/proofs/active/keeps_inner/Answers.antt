use Rattle.std.proofs.Common.{◌∙◌, sym, to_z-of_z, FitsSigned, rules}
use Rattle.std.specs.Int.{w128}
use Rattle.element_laws.proofs.Connectives.{and_second}
use Rattle.element_laws.proofs.ActiveFits.{inner_at_one}
use Rattle.element_laws.proofs.active.keeps_inner.Goals as goal

pub returns-then-square-u : goal.returns-then-square-u
returns-then-square-u c =
    let low : FitsSigned w128 c.square.result = search rules in
    let high : FitsSigned w128 c.square-then-square-u.result = search rules in
    let low_is = simp (to_z-of_z, c.ranges.in_min) at c.square.ensures in
    let high_is = simp (to_z-of_z, c.ranges.out_max) at c.square-then-square-u.ensures in
    let test = simp (to_z-of_z, low, c.ranges.u) at c.if-square-u.true in
    simp (to_z-of_z, high, c.ranges.v) (rw high_is (and_second _ _ (rw low_is at test) ∙ sym (inner_at_one c.args.in_min c.args.out_max c.args.u c.args.v)))
