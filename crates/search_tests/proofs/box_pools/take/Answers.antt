use Rattle.std.proofs.Common.{ℕ, List, length, ap, subst, sym, ◌∙◌}
use Rattle.tree_pool.specs.Rows.{Row, Held, stand}
use Rattle.tree_pool.specs.Calls.{IsHeld}
use Rattle.tree_pool.proofs.Lists.{length-update}
use Rattle.tree_pool.proofs.StillHeld.{held_now}
use Rattle.box_pool.proofs.Pooled.{held_within}
use Rattle.box_pool.proofs.StillFits.{same_fits}
use Rattle.search_tests.proofs.box_pools.take.Goals as goal

pub returns-clause-held : goal.returns-clause-held
returns-clause-held c =
    let some = c.in-Some.ensures.some in
    subst (λ (n : ℕ). IsHeld c.take.new.self.rows n) c.if-m-n.false (subst (λ (rows : List Row). IsHeld rows c.in-Some.m) (sym some.1) (held_now c.args.pool.now.rows c.in-Some.m some.0))

pub returns-clause-id : goal.returns-clause-id
returns-clause-id c = held_within c.take.new.self.rows c.args.n (returns-clause-held c)

pub returns-clause-fits : goal.returns-clause-fits
returns-clause-fits c = same_fits c.args.p.now c.args.pool.now c.take.new.self c.in-Some.ensures.origins c.requires

pub returns-clause-count : goal.returns-clause-count
returns-clause-count c = ap length c.in-Some.ensures.some.1 ∙ length-update c.args.pool.now.rows c.in-Some.m (stand Held)
