use Rattle.std.proofs.Common.{◌≡◌, ◌∙◌, sym, true, false, FitsSigned, to_z-of_z, rules}
use Rattle.std.specs.Int.{w128}
use Rattle.tight_steps.specs.Best.{IsLoosest}
use Rattle.tree_rules.specs.Looser.{reaches}
use Rattle.tight_steps.proofs.Bests.{ends_fit, best_from, none_from, reach_is_bound, reaches_loosen}
use Rattle.tight_steps.proofs.best.best_to.Goals as goal

pub returns-then-reaches : goal.returns-then-reaches
returns-then-reaches c =
    let e = c.args.e in
    let f = ends_fit e c.requires in
    let value : FitsSigned w128 c.in_ok-value.value = search rules in
    let result : FitsSigned w128 c.cut.result = search rules in
    let loosest : IsLoosest c.args.low e c.in_ok-value.value = c.in_ok-value.ensures in
    let test = simp (to_z-of_z, value, c.ranges.bound) at c.reaches.ensures in
    let is = simp (to_z-of_z, f.lo, f.hi, c.ranges.bound) at c.cut.ensures in
    simp (to_z-of_z, result) (rw is (best_from c.args.low e (reaches c.args.low c.args.bound) c.in_ok-value.value c.args.bound loosest (sym test ∙ c.if-reaches.true) (reach_is_bound c.args.low e c.args.bound)))

pub returns-else-reaches : goal.returns-else-reaches
returns-else-reaches c =
    let e = c.args.e in
    let f = ends_fit e c.requires in
    let value : FitsSigned w128 c.in_ok-value.value = search rules in
    let loosest : IsLoosest c.args.low e c.in_ok-value.value = c.in_ok-value.ensures in
    let test = simp (to_z-of_z, value, c.ranges.bound) at c.reaches.ensures in
    none_from c.args.low e (reaches c.args.low c.args.bound) c.in_ok-value.value loosest (λ h. let x : false ≡ true = sym c.if-reaches.false ∙ test ∙ h in absurd cc) (λ B D w n t. reaches_loosen c.args.low c.args.bound B D n t)
