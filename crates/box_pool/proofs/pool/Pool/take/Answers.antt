use Rattle.std.proofs.Common.{sym, ◌∙◌, refl, subst}
use Rattle.box_pool.proofs.Pooled.{took_length}
use Rattle.box_pool.specs.Origins.{origins_of}
use Rattle.box_pool.specs.PoolOf.{IsPoolOf}
use Rattle.box_pool.proofs.KeptOf.{boxed, taken_of}
use Rattle.box_pool.proofs.pool.Pool.take.Goals as goal

pub invariant_of-self : goal.invariant_of-self
invariant_of-self c = c.self.invariant ∙ sym (took_length c.self.inside.tree c.take.new.self c.take.result c.take.ensures.none c.take.ensures.some)

pub returns-clause-keeps : goal.returns-clause-keeps
returns-clause-keeps c = λ p root owned.
    taken_of p root (boxed c.self.inside.tree (origins_of c.self.inside.spots.items)) (boxed c.take.new.self (origins_of c.self.inside.spots.items)) c.take.result c.take.ensures.none c.take.ensures.some refl
    (subst (IsPoolOf p root) (sym c.self.view_is) owned)
