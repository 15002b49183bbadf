use Rattle.std.proofs.Common.{sym, ◌∙◌, to_z-of_z, rules, FitsSigned}
use Rattle.std.specs.Int.{w128}
use Rattle.stable_sweep.proofs.Sweeps.{turn, falls_more, settled_more, step_inside, step_within}
use Rattle.stable_sweep.proofs.sweep.settle_law.Goals as goal

pub tighten-requires-clause-var : goal.tighten-requires-clause-var
tighten-requires-clause-var g c = step_inside _ _ _ _ _ c.steps.invariant.bounds c.in-Some-first_step.ensures.move

pub tighten-requires-clause-value : goal.tighten-requires-clause-value
tighten-requires-clause-value g c =
    let fits : FitsSigned w128 c.in-Some-first_step.step.value = search rules in
    simp to_z-of_z (step_within _ _ _ _ _ c.in-Some-first_step.ensures.move)

pub is_empty-requires : goal.is_empty-requires
is_empty-requires g c =
    let fits : FitsSigned w128 c.in-Some-first_step.step.value = search rules in
    (turn _ _ _ _ _ _ _ _ c.steps.invariant.bounds c.steps.invariant.filled c.in-Some-first_step.ensures (simp to_z-of_z at c.tighten.ensures) c.in_ok-push.ensures.ok).inside

pub returns-then-is_empty-clause-extends : goal.returns-then-is_empty-clause-extends
returns-then-is_empty-clause-extends g c =
    let fits : FitsSigned w128 c.in-Some-first_step.step.value = search rules in
    let t = turn _ _ _ _ _ _ _ _ c.steps.invariant.bounds c.steps.invariant.filled c.in-Some-first_step.ensures (simp to_z-of_z at c.tighten.ensures) c.in_ok-push.ensures.ok in
    t.extends _ _ c.steps.invariant.extends

pub returns-then-is_empty-clause-falls : goal.returns-then-is_empty-clause-falls
returns-then-is_empty-clause-falls g c =
    let fits : FitsSigned w128 c.in-Some-first_step.step.value = search rules in
    let t = turn _ _ _ _ _ _ _ _ c.steps.invariant.bounds c.steps.invariant.filled c.in-Some-first_step.ensures (simp to_z-of_z at c.tighten.ensures) c.in_ok-push.ensures.ok in
    falls_more _ _ _ _ _ _ c.steps.invariant.falls t.less

pub steps-smaller : goal.steps-smaller
steps-smaller g c =
    let fits : FitsSigned w128 c.in-Some-first_step.step.value = search rules in
    (turn _ _ _ _ _ _ _ _ c.steps.invariant.bounds c.steps.invariant.filled c.in-Some-first_step.ensures (simp to_z-of_z at c.tighten.ensures) c.in_ok-push.ensures.ok).less

pub steps-preserved : goal.steps-preserved
steps-preserved g c =
    let fits : FitsSigned w128 c.in-Some-first_step.step.value = search rules in
    let made = simp to_z-of_z at c.tighten.ensures in
    let t = turn _ _ _ _ _ _ _ _ c.steps.invariant.bounds c.steps.invariant.filled c.in-Some-first_step.ensures made c.in_ok-push.ensures.ok in
    record {
      bounds = t.fits;
      size = c.put_back.ensures.size ∙ c.steps.invariant.size;
      few = c.put_back.ensures.few;
      filled = t.filled (sym c.is_empty.ensures ∙ c.if-is_empty.false);
      extends = t.extends _ _ c.steps.invariant.extends;
      falls = falls_more _ _ _ _ _ _ c.steps.invariant.falls t.less;
      settled = rw made (settled_more _ _ _ _ _ c.in-Some-first_step.step c.steps.invariant.settled c.put_back.ensures.kept c.put_back.ensures.put);
    }
