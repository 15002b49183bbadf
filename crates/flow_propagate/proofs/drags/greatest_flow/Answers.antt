use Rattle.std.proofs.Common.{◌≡◌, ◌^◌, to_z, of_z, to_z-of_z, arith, rules, subst, lit≤, ℤ, pos, neg_ℤ, ◌-ℤ◌, FitsSigned}
use Rattle.std.specs.Int.{w128}
use Rattle.integer_laws.proofs.Ring.{linear}
use Rattle.integer_laws.proofs.SizeLemmas.{within_fits}
use Rattle.flow_propagate.specs.Drops.{IsLeastFlow}
use Rattle.flow_propagate.proofs.Drops.{negated_fits, negated_within, greatest_is}
use Rattle.flow_propagate.proofs.drags.greatest_flow.Goals as goal

pub returns : goal.returns
returns c =
    let gap : FitsSigned w128 (pos 0 -ℤ c.args.gap) = negated_fits c.args.gap c.requires.gap in
    let flow : FitsSigned w128 c.least_flow.result = search rules in
    let back : FitsSigned w128 (pos 0 -ℤ c.least_flow.result) = within_fits (2 ^ 64) (pos 0 -ℤ c.least_flow.result) (negated_within (2 ^ 64) c.least_flow.result c.least_flow.ensures.size) (lit≤ tt) in
    let raw : IsLeastFlow c.args.law.now (to_z w128 (of_z w128 (pos 0 -ℤ to_z w128 (of_z w128 c.args.gap)))) c.least_flow.result = c.least_flow.ensures.least in
    let least = simp (to_z-of_z, c.ranges.gap, gap) at raw in
    let minus : pos 0 -ℤ c.args.gap ≡ neg_ℤ c.args.gap = omega (arith, linear) in
    let turned : pos 0 -ℤ c.least_flow.result ≡ neg_ℤ c.least_flow.result = omega (arith, linear) in
    simp (to_z-of_z, flow, back) (rw turned (greatest_is c.args.law.now c.args.gap c.least_flow.result (subst (λ (g : ℤ). IsLeastFlow c.args.law.now g c.least_flow.result) minus least)))
