use Rattle.std.proofs.Common.{ℕ, List, length, ap, subst, sym, ◌∙◌}
use Rattle.tree_pool.specs.Rows.{Row, Held, stand}
use Rattle.tree_pool.specs.Calls.{IsHeld}
use Rattle.tree_pool.proofs.Lists.{length-update}
use Rattle.tree_pool.proofs.StillHeld.{held_now, held_still}
use Rattle.search_tests.proofs.tree_pools.take.Goals as goal

pub returns-clause-held : goal.returns-clause-held
returns-clause-held c =
    let some = c.in-Some.ensures.some in
    subst (λ (n : ℕ). IsHeld c.take.new.self n) c.if-m-n.false (subst (λ (rs : List Row). IsHeld rs c.in-Some.m) (sym some.1) (held_now c.args.pool.now c.in-Some.m some.0))

pub returns-clause-others : goal.returns-clause-others
returns-clause-others c m held =
    let some = c.in-Some.ensures.some in
    subst (λ (rs : List Row). IsHeld rs m) (sym some.1) (held_still c.args.pool.now c.in-Some.m m some.0 held)

pub returns-clause-count : goal.returns-clause-count
returns-clause-count c = ap length c.in-Some.ensures.some.1 ∙ length-update c.args.pool.now c.in-Some.m (stand Held)
