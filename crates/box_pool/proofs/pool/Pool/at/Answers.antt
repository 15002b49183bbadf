use Rattle.box_pool.specs.Pools.{IsNew}
use Rattle.box_pool.specs.PoolOf.{IsPoolOf, root_at}
use Rattle.box_pool.proofs.KeptOf.{new_of, if_ok_map}
use Rattle.box_pool.proofs.pool.Pool.at.Goals as goal

pub returns-clause-keeps : goal.returns-clause-keeps
returns-clause-keeps c = λ fits.
    if_ok_map c.of_one_box.result (IsNew c.args.p.now c.args.part c.args.bounds) (IsPoolOf c.args.p.now (root_at c.args.part c.args.bounds))
    (λ pool is. new_of c.args.p.now c.args.part c.args.bounds pool c.requires.part fits is) c.of_one_box.ensures
