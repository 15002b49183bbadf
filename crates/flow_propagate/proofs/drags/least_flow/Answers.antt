use Rattle.std.proofs.Common.{◌≡◌, ◌<◌, ◌^◌, to_z-of_z, arith, lit≤, rules, ℤ, pos, neg_ℤ, ◌-ℤ◌, ◌<ℤ◌, ◌≤ℤ◌, FitsSigned, unsigned_abs, subst, sym}
use Rattle.std.proofs.lemmas.Int.{to_z_pos}
use Rattle.std.specs.Int.{w128}
use Rattle.integer_laws.proofs.Ring.{linear}
use Rattle.element_laws.proofs.DropFits.{drag_parts, drop_fits}
use Rattle.gas_units.specs.Rounds.{IsFloor, IsCeiling}
use Rattle.tight_steps.proofs.Allowed.{drag_is}
use Rattle.flow_propagate.proofs.Drops.{size_is_same, negated_fits, forward_flow, back_flow, ceiling_nonneg, floor_nonneg, root_fits}
use Rattle.flow_propagate.proofs.drags.least_flow.Goals as goal

pub returns-then-gap-gt0-clause-least : goal.returns-then-gap-gt0-clause-least
returns-then-gap-gt0-clause-least c =
    let gap = c.ranges.gap in
    let law = drag_is c.args.law.now c.requires.law in
    let lo = drop_fits c.args.law.now.lo (pos 0) (drag_parts c.args.law.now c.requires.law).lo (lit≤ tt) in
    let ratio : FitsSigned w128 c.ceil_div-ratio.result = search rules in
    let ceiling = simp (to_z-of_z, gap, lo.small, lo.wide) at c.ceil_div-ratio.ensures in
    let is_root = simp to_z-of_z at c.root_up.ensures.root in
    let positive : pos 0 <ℤ c.args.gap = omega (arith, linear) in
    let same = size_is_same c.ceil_div-ratio.result (ceiling_nonneg c.args.gap c.args.law.now.lo c.ceil_div-ratio.result positive law.lo ceiling) in
    let at_size = subst (λ (q : ℤ). IsCeiling c.args.gap c.args.law.now.lo q) (sym same) ceiling in
    let below : c.root_up.result < 2 ^ 127 = omega (arith, c.root_up.ensures.bound) in
    let root = to_z_pos w128 c.root_up.result below in
    simp root (forward_flow c.args.law.now c.args.gap (unsigned_abs c.ceil_div-ratio.result) c.root_up.result law positive at_size is_root)

pub returns-else-gap-gt0-clause-least : goal.returns-else-gap-gt0-clause-least
returns-else-gap-gt0-clause-least c =
    let gap = c.ranges.gap in
    let law = drag_is c.args.law.now c.requires.law in
    let hi = drop_fits c.args.law.now.hi (pos 0) (drag_parts c.args.law.now c.requires.law).hi (lit≤ tt) in
    let ratio : FitsSigned w128 c.floor_div-ratio.result = search rules in
    let negated : FitsSigned w128 (pos 0 -ℤ c.args.gap) = negated_fits c.args.gap c.requires.gap in
    let floor = simp (to_z-of_z, gap, negated, hi.small, hi.wide) at c.floor_div-ratio.ensures in
    let is_root = simp to_z-of_z at c.root_down.ensures.root in
    let negative : c.args.gap ≤ℤ pos 0 = omega (arith, linear) in
    let minus : pos 0 -ℤ c.args.gap ≡ neg_ℤ c.args.gap = omega (arith, linear) in
    let same = size_is_same c.floor_div-ratio.result (floor_nonneg (pos 0 -ℤ c.args.gap) c.args.law.now.hi c.floor_div-ratio.result (omega (arith, linear)) law.hi floor) in
    let at_size = subst (λ (q : ℤ). IsFloor (neg_ℤ c.args.gap) c.args.law.now.hi q) (sym same) (subst (λ (z : ℤ). IsFloor z c.args.law.now.hi c.floor_div-ratio.result) minus floor) in
    let below : c.root_down.result < 2 ^ 127 = omega (arith, c.root_down.ensures.bound) in
    let root = to_z_pos w128 c.root_down.result below in
    let value : FitsSigned w128 (pos 0 -ℤ pos c.root_down.result) = root_fits c.root_down.result c.root_down.ensures.bound in
    let turned : pos 0 -ℤ pos c.root_down.result ≡ neg_ℤ (pos c.root_down.result) = omega (arith, linear) in
    simp (root, to_z-of_z) (rw turned (back_flow c.args.law.now c.args.gap (unsigned_abs c.floor_div-ratio.result) c.root_down.result law negative at_size is_root))
