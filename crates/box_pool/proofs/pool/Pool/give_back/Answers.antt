use Rattle.box_pool.proofs.KeptOf.{given_or_kept}
use Rattle.box_pool.proofs.pool.Pool.give_back.Goals as goal

pub returns-clause-keeps : goal.returns-clause-keeps
returns-clause-keeps c = λ root within owned work.
    given_or_kept c.args.p.now root c.args.self.now c.put_work.new.self c.args.id c.args.work.steps c.args.work.end c.args.left c.put_work.result c.put_work.ensures.ok c.put_work.ensures.err within c.requires.held c.requires.end work owned
