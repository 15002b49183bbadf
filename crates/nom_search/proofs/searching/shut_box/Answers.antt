use Rattle.box_pool.specs.declared.pool.WorkEnd.TheVariants.{Shut}
use Rattle.nom_search.proofs.Runs.{ordered_closing}
use Rattle.nom_search.proofs.Forking.{work_on}
use Rattle.box_pool.specs.Pools.{box_of_view}
use Rattle.nom_search.proofs.searching.shut_box.Goals as goal

pub give_back-requires-clause-ordered : goal.give_back-requires-clause-ordered
give_back-requires-clause-ordered c = ordered_closing c.args.p.now (box_of_view c.args.view) c.args.closing c.requires.closing

pub returns-clause-keeps : goal.returns-clause-keeps
returns-clause-keeps c = λ root owned. c.give_back.ensures.keeps root c.requires.problem owned (work_on c.args.p.now c.args.pool.now c.args.id c.args.steps (Shut c.args.closing) c.args.view c.requires.origin c.requires.closing)
