use Rattle.std.proofs.Common.{sym, ap, ◌∙◌, length-set}
use Rattle.std.specs.Prelude.{slice_set, None}
use Rattle.box_pool.specs.Pools.{Boxed}
use Rattle.box_pool.proofs.Pooled.{given_length, origins_set}
use Rattle.box_pool.proofs.pool.Pool.end.Goals as goal

pub invariant_of-self-2 : goal.invariant_of-self-2
invariant_of-self-2 c =
    length-set c.self.inside.spots.items c.args.id None ∙ c.self.invariant
    ∙ sym (given_length c.self.inside.tree c.give_back.new.self c.args.id c.args.work.steps c.args.work.end c.requires.whole c.in_ok-give_back.ensures.ok)

pub returns-clause-origins : goal.returns-clause-origins
returns-clause-origins c = origins_set c.self.inside.spots.items c.args.id ∙ ap (λ (p : Boxed). slice_set p.origins c.args.id None) c.self.view_is
