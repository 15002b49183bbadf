use Rattle.std.proofs.Common.{sym, ap, ◌∙◌, length, refl, subst}
use Rattle.tree_pool.specs.Rows.{Waiting, stand}
use Rattle.tree_pool.proofs.Lists.{length-update}
use Rattle.tree_pool.specs.Calls.{IsHeld}
use Rattle.box_pool.specs.Origins.{origins_of}
use Rattle.box_pool.specs.Pools.{Boxed}
use Rattle.box_pool.specs.PoolOf.{IsPoolOf}
use Rattle.box_pool.proofs.KeptOf.{boxed, lost_of}
use Rattle.box_pool.proofs.pool.Pool.lose.Goals as goal

pub invariant_of-self : goal.invariant_of-self
invariant_of-self c = c.self.invariant ∙ sym (ap length c.lose.ensures ∙ length-update c.self.inside.tree c.args.id (stand Waiting))

pub returns-clause-keeps : goal.returns-clause-keeps
returns-clause-keeps c = λ p root owned.
    lost_of p root (boxed c.self.inside.tree (origins_of c.self.inside.spots.items)) (boxed c.lose.new.self (origins_of c.self.inside.spots.items)) c.args.id
    (subst (λ (b : Boxed). IsHeld b.rows c.args.id) (sym c.self.view_is) c.requires) c.lose.ensures refl (subst (IsPoolOf p root) (sym c.self.view_is) owned)
