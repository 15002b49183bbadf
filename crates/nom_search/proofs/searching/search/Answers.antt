use Rattle.std.proofs.Common.{pos}
use Rattle.nom_search.specs.Halted.{Answers}
use Rattle.nom_search.specs.Texts.{IsFound}
use Rattle.box_pool.proofs.KeptOf.{if_ok_map}
use Rattle.nom_search.proofs.Answering.{begins_searched, begins_of, names_box, answers_are}
use Rattle.nom_search.proofs.searching.search.Goals as goal

pub returns-in_err-queue-clause-keeps : goal.returns-in_err-queue-clause-keeps
returns-in_err-queue-clause-keeps c = λ root b. begins_of c.args.p.now root c.args.pool.now b

pub drain-requires-clause-searched : goal.drain-requires-clause-searched
drain-requires-clause-searched c = (c.requires.begins.0, begins_searched c.args.p.now (pos c.args.tol) c.requires.begins.0 c.args.boxes c.args.pool.now c.requires.begins.1)

pub returns-in_err-outcome-clause-keeps : goal.returns-in_err-outcome-clause-keeps
returns-in_err-outcome-clause-keeps c = λ root b. c.drain.ensures.keeps root (begins_of c.args.p.now root c.args.pool.now b)

pub answered-requires : goal.answered-requires
answered-requires c =
    let root = c.requires.begins.0 in
    let b = begins_searched c.args.p.now (pos c.args.tol) root c.args.boxes c.args.pool.now c.requires.begins.1 in
    names_box c.args.p.now (pos c.args.tol) root c.args.boxes c.drain.new.pool c.in_ok-outcome.outcome (c.in_ok-outcome.ensures.ends root b)

pub returns-clause-keeps : goal.returns-clause-keeps
returns-clause-keeps c = λ root b. c.drain.ensures.keeps root (begins_of c.args.p.now root c.args.pool.now b)

pub returns-clause-answers : goal.returns-clause-answers
returns-clause-answers c = λ root b.
    let e = c.in_ok-outcome.ensures.ends root (begins_searched c.args.p.now (pos c.args.tol) root c.args.boxes c.args.pool.now b) in
    if_ok_map c.answered.result (IsFound c.drain.new.pool.rows c.in_ok-outcome.outcome) (Answers c.args.p.now (pos c.args.tol) root c.args.boxes c.drain.new.pool)
    (λ f h. answers_are c.args.p.now (pos c.args.tol) root c.args.boxes c.drain.new.pool c.in_ok-outcome.outcome f e h) c.answered.ensures
