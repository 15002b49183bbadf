use Rattle.problem_answer.proofs.Halting.{halts_with}
use Rattle.problem_answer.proofs.finding.answer_of.Goals as goal

pub carried-requires-clause-near : goal.carried-requires-clause-near
carried-requires-clause-near c = let found = rw c.in-Carried.is at c.in_ok-setting.ensures.found in found.0

pub carried-requires-clause-fits : goal.carried-requires-clause-fits
carried-requires-clause-fits c = let found = rw c.in-Carried.is at c.in_ok-setting.ensures.found in found.1

pub returns-in-Carried : goal.returns-in-Carried
returns-in-Carried c = c.carried.ensures c.args.boxes

pub refuted-requires : goal.refuted-requires
refuted-requires c = let found = rw c.in-Refuted.is at c.in_ok-setting.ensures.found in found

pub returns-in-Refuted : goal.returns-in-Refuted
returns-in-Refuted c = c.refuted.ensures c.args.tol c.args.boxes

pub left-requires : goal.left-requires
left-requires c =
    let found = rw c.in-Left.is at c.in_ok-setting.ensures.found in
    (c.args.tol, c.args.boxes, halts_with c.reason.result c.args.tol c.args.boxes c.args.p.now c.in-Left.why found.0.rows c.in-Left.tree c.in-Left.line c.decided.ensures.within c.reason.ensures found.1)

pub returns-in-Left : goal.returns-in-Left
returns-in-Left c =
    let found = rw c.in-Left.is at c.in_ok-setting.ensures.found in
    c.left.ensures c.args.tol c.args.boxes (halts_with c.reason.result c.args.tol c.args.boxes c.args.p.now c.in-Left.why found.0.rows c.in-Left.tree c.in-Left.line c.decided.ensures.within c.reason.ensures found.1)
