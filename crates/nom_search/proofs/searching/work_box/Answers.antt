use Rattle.std.proofs.Common.{pos}
use Rattle.nom_search.proofs.Views.{seen_fits, seen_head, seen_comes, seen_leads}
use Rattle.nom_search.proofs.searching.work_box.Goals as goal

pub settled-requires-clause-fits : goal.settled-requires-clause-fits
settled-requires-clause-fits c = seen_fits c.args.p.now c.args.pool.now c.args.id c.in_ok-view.field-0 c.in-Some.view c.requires.fits c.in-Some.is c.in_ok-view.ensures

pub settled-requires-clause-head : goal.settled-requires-clause-head
settled-requires-clause-head c = seen_head c.args.p.now c.args.pool.now c.args.id c.in_ok-view.field-0 c.in-Some.view c.requires.fits c.in-Some.is c.in_ok-view.ensures

pub settled-requires-clause-comes : goal.settled-requires-clause-comes
settled-requires-clause-comes c = seen_comes c.args.p.now c.args.pool.now c.args.id c.in_ok-view.field-0 c.in-Some.view c.requires.stable c.in-Some.is c.in_ok-view.ensures

pub branch_box-requires-clause-origin : goal.branch_box-requires-clause-origin
branch_box-requires-clause-origin c = seen_leads c.args.p.now c.args.pool.now c.args.id c.in_ok-view.field-0 c.in-Some.view c.settled.new.view c.in_ok-steps.steps c.in_ok-steps.end c.in-Some.is c.in_ok-view.ensures c.in_ok-steps.ensures.settled

pub returns-in-Shut-clause-turn : goal.returns-in-Shut-clause-turn
returns-in-Shut-clause-turn c = c.shut_box.ensures.turn (pos c.args.tol)
