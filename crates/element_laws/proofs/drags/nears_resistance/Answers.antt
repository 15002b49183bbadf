use Rattle.std.proofs.Common.{to_z-of_z, rules, FitsSigned}
use Rattle.std.specs.Int.{w128}
use Rattle.element_laws.proofs.Connectives.{and_first, and_second}
use Rattle.element_laws.proofs.NearFits.{near_fits}
use Rattle.element_laws.proofs.drags.nears_resistance.Goals as goal

pub overflow_add-drop : goal.overflow_add-drop
overflow_add-drop c =
    let f = near_fits c.args.law.now c.args.tol c.args.q c.args.u c.args.v c.requires.law c.requires.tol c.requires.flow c.requires.from c.requires.to in
    simp (to_z-of_z, f.tol_fits, f.u_fits, f.v_fits, f.drop) f.more

pub overflow_mul-den : goal.overflow_mul-den
overflow_mul-den c =
    let f = near_fits c.args.law.now c.args.tol c.args.q c.args.u c.args.v c.requires.law c.requires.tol c.requires.flow c.requires.from c.requires.to in
    simp (to_z-of_z, f.den_small, f.den_wide, f.tol_fits, f.u_fits, f.v_fits, f.drop, f.more) f.above

pub overflow_sub-result : goal.overflow_sub-result
overflow_sub-result c =
    let f = near_fits c.args.law.now c.args.tol c.args.q c.args.u c.args.v c.requires.law c.requires.tol c.requires.flow c.requires.from c.requires.to in
    simp (to_z-of_z, f.tol_fits, f.u_fits, f.v_fits, f.drop) f.less

pub overflow_mul-result : goal.overflow_mul-result
overflow_mul-result c =
    let f = near_fits c.args.law.now c.args.tol c.args.q c.args.u c.args.v c.requires.law c.requires.tol c.requires.flow c.requires.from c.requires.to in
    simp (to_z-of_z, f.den_small, f.den_wide, f.tol_fits, f.u_fits, f.v_fits, f.drop, f.less) f.below

pub drop_low-requires-clause-flow : goal.drop_low-requires-clause-flow
drop_low-requires-clause-flow c =
    let f = near_fits c.args.law.now c.args.tol c.args.q c.args.u c.args.v c.requires.law c.requires.tol c.requires.flow c.requires.from c.requires.to in
    simp (to_z-of_z, f.q_fits) f.flow

pub drop_high-requires-clause-flow : goal.drop_high-requires-clause-flow
drop_high-requires-clause-flow c =
    let f = near_fits c.args.law.now c.args.tol c.args.q c.args.u c.args.v c.requires.law c.requires.tol c.requires.flow c.requires.from c.requires.to in
    simp (to_z-of_z, f.q_fits) f.flow

pub returns-then-drop_low-den : goal.returns-then-drop_low-den
returns-then-drop_low-den c =
    let f = near_fits c.args.law.now c.args.tol c.args.q c.args.u c.args.v c.requires.law c.requires.tol c.requires.flow c.requires.from c.requires.to in
    let low : FitsSigned w128 c.drop_low.result = search rules in
    let high : FitsSigned w128 c.drop_high.result = search rules in
    let low_is = simp (to_z-of_z, f.q_fits) at c.drop_low.ensures in
    let high_is = simp (to_z-of_z, f.q_fits) at c.drop_high.ensures in
    let test = simp (to_z-of_z, low, f.den_small, f.den_wide, f.tol_fits, f.u_fits, f.v_fits, f.drop, f.more, f.above) at c.if-drop_low-den.true in
    simp (to_z-of_z, high, f.den_small, f.den_wide, f.tol_fits, f.u_fits, f.v_fits, f.drop, f.less, f.below) (rw high_is (and_second _ _ (rw low_is at test)))

pub returns-else-drop_low-den : goal.returns-else-drop_low-den
returns-else-drop_low-den c =
    let f = near_fits c.args.law.now c.args.tol c.args.q c.args.u c.args.v c.requires.law c.requires.tol c.requires.flow c.requires.from c.requires.to in
    let low : FitsSigned w128 c.drop_low.result = search rules in
    let low_is = simp (to_z-of_z, f.q_fits) at c.drop_low.ensures in
    let test = simp (to_z-of_z, low, f.den_small, f.den_wide, f.tol_fits, f.u_fits, f.v_fits, f.drop, f.more, f.above) at c.if-drop_low-den.false in
    simp (to_z-of_z, low, f.den_small, f.den_wide, f.tol_fits, f.u_fits, f.v_fits, f.drop, f.more, f.above) (rw low_is (and_first _ _ (rw low_is at test)))
