use Rattle.std.proofs.Common.{to_z-of_z, sym, arith}
use Rattle.integer_laws.proofs.Ring.{linear}
use Rattle.gas_model.proofs.CurveFacts.{curve_forward, curve_back}
use Rattle.element_laws.proofs.DropFits.{drag_parts, drop_fits}
use Rattle.element_laws.proofs.drops.drop_low.Goals as goal

pub overflow_mul-result : goal.overflow_mul-result
overflow_mul-result c =
    let f = drop_fits c.args.law.now.lo c.args.q (drag_parts c.args.law.now c.requires.law).lo c.requires.flow in
    simp (to_z-of_z, f.small, f.wide, f.q, f.square) f.product

pub overflow_mul-result-else-q-ge0 : goal.overflow_mul-result-else-q-ge0
overflow_mul-result-else-q-ge0 c =
    let f = drop_fits c.args.law.now.hi c.args.q (drag_parts c.args.law.now c.requires.law).hi c.requires.flow in
    simp (to_z-of_z, f.small, f.wide, f.q, f.square) f.product

pub overflow_sub-result : goal.overflow_sub-result
overflow_sub-result c =
    let f = drop_fits c.args.law.now.hi c.args.q (drag_parts c.args.law.now c.requires.law).hi c.requires.flow in
    simp (to_z-of_z, f.small, f.wide, f.q, f.square, f.product) f.negated

pub returns-then-q-ge0 : goal.returns-then-q-ge0
returns-then-q-ge0 c =
    let f = drop_fits c.args.law.now.lo c.args.q (drag_parts c.args.law.now c.requires.law).lo c.requires.flow in
    simp (to_z-of_z, f.small, f.wide, f.q, f.square, f.product) (sym (curve_forward _ _ c.args.q (omega (arith, linear))))

pub returns-else-q-ge0 : goal.returns-else-q-ge0
returns-else-q-ge0 c =
    let f = drop_fits c.args.law.now.hi c.args.q (drag_parts c.args.law.now c.requires.law).hi c.requires.flow in
    simp (to_z-of_z, f.small, f.wide, f.q, f.square, f.product, f.negated) (omega (arith, linear, curve_back c.args.law.now.lo c.args.law.now.hi c.args.q (omega (arith, linear))))
