use Rattle.std.proofs.Common.{◌≡◌, ◌^◌, to_z-of_z, rules, sym, subst, ℤ, ◌-ℤ◌, ◌*ℤ◌, FitsSigned}
use Rattle.std.specs.Int.{w128}
use Rattle.integer_laws.specs.Sizes.{IsWithin}
use Rattle.box_rules.proofs.SideFits.{sides_fit}
use Rattle.tight_steps.proofs.Allowed.{safe_sides}
use Rattle.flow_propagate.specs.Drops.{IsLeastFlow, IsGreatestFlow}
use Rattle.flow_propagate.proofs.ArcFlows.{greatest_bound, least_bound}
use Rattle.flow_propagate.proofs.Drops.{gap_size}
use Rattle.flow_propagate.proofs.drags.flow_to.Goals as goal

pub drop_gap-requires-clause-high : goal.drop_gap-requires-clause-high
drop_gap-requires-clause-high c = let s = safe_sides c.args.scale c.args.e c.requires.ends in let f = sides_fit c.args.e s in simp (to_z-of_z, f.u_lo) s.u.lo

pub drop_gap-requires-clause-low : goal.drop_gap-requires-clause-low
drop_gap-requires-clause-low c = let s = safe_sides c.args.scale c.args.e c.requires.ends in let f = sides_fit c.args.e s in simp (to_z-of_z, f.v_hi) s.v.hi

pub drop_gap-requires-else-low-clause-high : goal.drop_gap-requires-else-low-clause-high
drop_gap-requires-else-low-clause-high c = let s = safe_sides c.args.scale c.args.e c.requires.ends in let f = sides_fit c.args.e s in simp (to_z-of_z, f.u_hi) s.u.hi

pub drop_gap-requires-else-low-clause-low : goal.drop_gap-requires-else-low-clause-low
drop_gap-requires-else-low-clause-low c = let s = safe_sides c.args.scale c.args.e c.requires.ends in let f = sides_fit c.args.e s in simp (to_z-of_z, f.v_lo) s.v.lo

pub greatest_flow-requires-clause-gap : goal.greatest_flow-requires-clause-gap
greatest_flow-requires-clause-gap c =
    let s = safe_sides c.args.scale c.args.e c.requires.ends in
    let f = sides_fit c.args.e s in
    let gap : FitsSigned w128 c.drop_gap.result = search rules in
    let is = simp (to_z-of_z, c.ranges.scale, f.u_lo, f.v_hi) at c.drop_gap.ensures in
    simp (to_z-of_z, gap) (subst (IsWithin (2 ^ 126)) (sym is) (gap_size c.args.law.now.drag c.args.scale c.args.e.u.lo c.args.e.v.hi c.requires.law c.requires.ends.scale s.u.lo s.v.hi))

pub least_flow-requires-clause-gap : goal.least_flow-requires-clause-gap
least_flow-requires-clause-gap c =
    let s = safe_sides c.args.scale c.args.e c.requires.ends in
    let f = sides_fit c.args.e s in
    let gap : FitsSigned w128 c.drop_gap-else-low.result = search rules in
    let is = simp (to_z-of_z, c.ranges.scale, f.u_hi, f.v_lo) at c.drop_gap-else-low.ensures in
    simp (to_z-of_z, gap) (subst (IsWithin (2 ^ 126)) (sym is) (gap_size c.args.law.now.drag c.args.scale c.args.e.u.hi c.args.e.v.lo c.requires.law c.requires.ends.scale s.u.hi s.v.lo))

pub returns-then-low : goal.returns-then-low
returns-then-low c =
    let law = c.args.law.now in
    let e = c.args.e in
    let f = sides_fit e (safe_sides c.args.scale e c.requires.ends) in
    let gap : FitsSigned w128 c.drop_gap.result = search rules in
    let flow : FitsSigned w128 c.greatest_flow.result = search rules in
    let is = simp (to_z-of_z, c.ranges.scale, f.u_lo, f.v_hi) at c.drop_gap.ensures in
    let greatest = simp (to_z-of_z, gap) at c.greatest_flow.ensures in
    simp (to_z-of_z, flow) (rw c.if-low.true (greatest_bound law c.args.scale c.greatest_flow.result e e.q (subst (λ (g : ℤ). IsGreatestFlow law.drag g c.greatest_flow.result) is greatest)))

pub returns-else-low : goal.returns-else-low
returns-else-low c =
    let law = c.args.law.now in
    let e = c.args.e in
    let f = sides_fit e (safe_sides c.args.scale e c.requires.ends) in
    let gap : FitsSigned w128 c.drop_gap-else-low.result = search rules in
    let flow : FitsSigned w128 c.least_flow.result = search rules in
    let is = simp (to_z-of_z, c.ranges.scale, f.u_hi, f.v_lo) at c.drop_gap-else-low.ensures in
    let least = simp (to_z-of_z, gap) at c.least_flow.ensures.least in
    simp (to_z-of_z, flow) (rw c.if-low.false (least_bound law c.args.scale c.least_flow.result e e.q (subst (λ (g : ℤ). IsLeastFlow law.drag g c.least_flow.result) is least)))
