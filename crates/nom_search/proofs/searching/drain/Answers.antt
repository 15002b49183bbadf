use Rattle.std.proofs.Common.{ℕ, Option, sym, subst, arith, pos}
use Rattle.search_order.specs.Searches.{FirstQuit}
use Rattle.nom_search.proofs.Drained.{done_is, least_is, full_is, held, taken_length, taken_splits, taken_fits, taken_stable, taken_origin, shrinks, quits_not, quits_left, searched_on, stopped}
use Rattle.nom_search.proofs.searching.drain.Goals as goal

pub work_box-requires-clause-held : goal.work_box-requires-clause-held
work_box-requires-clause-held c = held c.args.p.now c.requires.problem (pos c.args.tol) c.args.boxes c.loop-id.pool c.take.new.self c.in-Some.id c.in-Some.ensures.some.0 c.in-Some.ensures.some.1 c.take.ensures.origins

pub work_box-requires-clause-fits : goal.work_box-requires-clause-fits
work_box-requires-clause-fits c =
    taken_fits c.args.p.now c.requires.problem (pos c.args.tol) c.args.boxes c.loop-id.pool c.take.new.self c.in-Some.id c.in-Some.ensures.some.0 c.in-Some.ensures.some.1 c.take.ensures.origins c.requires.searched.0 (c.loop-id.invariant.kept c.requires.searched.0 c.requires.searched.1)

pub work_box-requires-clause-stable : goal.work_box-requires-clause-stable
work_box-requires-clause-stable c =
    taken_stable c.args.p.now c.requires.problem (pos c.args.tol) c.args.boxes c.loop-id.pool c.take.new.self c.in-Some.id c.in-Some.ensures.some.0 c.in-Some.ensures.some.1 c.take.ensures.origins c.requires.searched.0 (c.loop-id.invariant.kept c.requires.searched.0 c.requires.searched.1)

pub work_box-requires-clause-origin : goal.work_box-requires-clause-origin
work_box-requires-clause-origin c =
    taken_origin c.args.p.now c.requires.problem (pos c.args.tol) c.args.boxes c.loop-id.pool c.take.new.self c.in-Some.id c.in-Some.ensures.some.0 c.in-Some.ensures.some.1 c.take.ensures.origins c.requires.searched.0 (c.loop-id.invariant.kept c.requires.searched.0 c.requires.searched.1)

pub work_box-requires-clause-room : goal.work_box-requires-clause-room
work_box-requires-clause-room c =
    let a = taken_length c.args.p.now c.requires.problem (pos c.args.tol) c.args.boxes c.loop-id.pool c.take.new.self c.in-Some.id c.in-Some.ensures.some.0 c.in-Some.ensures.some.1 c.take.ensures.origins in
    let b = c.loop-id.invariant.room in
    omega arith

pub work_box-requires-clause-within : goal.work_box-requires-clause-within
work_box-requires-clause-within c =
    let a = taken_splits c.args.p.now c.requires.problem (pos c.args.tol) c.args.boxes c.loop-id.pool c.take.new.self c.in-Some.id c.in-Some.ensures.some.0 c.in-Some.ensures.some.1 c.take.ensures.origins in
    let b = c.loop-id.invariant.within in
    omega arith

pub loop-id-smaller-in-Done : goal.loop-id-smaller-in-Done
loop-id-smaller-in-Done c =
    let d = done_is c.args.p.now (pos c.args.tol) c.args.boxes c.take.new.self c.work_box.new.pool c.in-Some.id c.in_ok-work_box.field-0 c.in-Done.is c.in_ok-work_box.ensures.turn in
    (shrinks c.args.p.now c.requires.problem (pos c.args.tol) c.args.boxes c.loop-id.pool c.take.new.self c.in-Some.id c.in-Some.ensures.some.0 c.in-Some.ensures.some.1 c.take.ensures.origins c.requires.searched.0 (c.loop-id.invariant.kept c.requires.searched.0 c.requires.searched.1) c.work_box.new.pool d.0 d.2).0

pub loop-id-preserved-in-Done : goal.loop-id-preserved-in-Done
loop-id-preserved-in-Done c =
    let d = done_is c.args.p.now (pos c.args.tol) c.args.boxes c.take.new.self c.work_box.new.pool c.in-Some.id c.in_ok-work_box.field-0 c.in-Done.is c.in_ok-work_box.ensures.turn in
    let now = c.loop-id.invariant.kept c.requires.searched.0 c.requires.searched.1 in
    let s = shrinks c.args.p.now c.requires.problem (pos c.args.tol) c.args.boxes c.loop-id.pool c.take.new.self c.in-Some.id c.in-Some.ensures.some.0 c.in-Some.ensures.some.1 c.take.ensures.origins c.requires.searched.0 now c.work_box.new.pool d.0 d.2 in
    record {
      tools = c.in_ok-work_box.ensures.tools;
      within = s.1;
      room = (let a = c.loop-id.invariant.room in let b = s.2 in omega arith);
      first = quits_not c.args.p.now c.requires.problem (pos c.args.tol) c.args.boxes c.loop-id.pool c.take.new.self c.in-Some.id c.in-Some.ensures.some.0 c.in-Some.ensures.some.1 c.take.ensures.origins c.requires.searched.0 now c.work_box.new.pool d.0 d.2 d.1 c.loop-id.first c.loop-id.invariant.first;
      whole = λ root h. c.work_box.ensures.keeps root (c.take.ensures.keeps c.args.p.now root (c.loop-id.invariant.whole root h));
      kept = λ root h. searched_on c.args.p.now c.requires.problem (pos c.args.tol) c.args.boxes c.loop-id.pool c.take.new.self c.in-Some.id c.in-Some.ensures.some.0 c.in-Some.ensures.some.1 c.take.ensures.origins root (c.loop-id.invariant.kept root h) c.work_box.new.pool d.0 d.2;
    }

pub loop-id-smaller : goal.loop-id-smaller
loop-id-smaller c =
    let w = least_is c.args.p.now (pos c.args.tol) c.args.boxes c.take.new.self c.work_box.new.pool c.in-Some.id c.in_ok-work_box.field-0 c.in-Least.is c.in_ok-work_box.ensures.turn in
    (shrinks c.args.p.now c.requires.problem (pos c.args.tol) c.args.boxes c.loop-id.pool c.take.new.self c.in-Some.id c.in-Some.ensures.some.0 c.in-Some.ensures.some.1 c.take.ensures.origins c.requires.searched.0 (c.loop-id.invariant.kept c.requires.searched.0 c.requires.searched.1) c.work_box.new.pool _ w).0

pub loop-id-preserved : goal.loop-id-preserved
loop-id-preserved c =
    let w = least_is c.args.p.now (pos c.args.tol) c.args.boxes c.take.new.self c.work_box.new.pool c.in-Some.id c.in_ok-work_box.field-0 c.in-Least.is c.in_ok-work_box.ensures.turn in
    let now = c.loop-id.invariant.kept c.requires.searched.0 c.requires.searched.1 in
    let s = shrinks c.args.p.now c.requires.problem (pos c.args.tol) c.args.boxes c.loop-id.pool c.take.new.self c.in-Some.id c.in-Some.ensures.some.0 c.in-Some.ensures.some.1 c.take.ensures.origins c.requires.searched.0 now c.work_box.new.pool _ w in
    record {
      tools = c.in_ok-work_box.ensures.tools;
      within = s.1;
      room = (let a = c.loop-id.invariant.room in let b = s.2 in omega arith);
      first =
          subst (λ (o : Option ℕ). FirstQuit c.work_box.new.pool.rows o) (sym c.or-first.ensures)
          (quits_left c.args.p.now c.requires.problem (pos c.args.tol) c.args.boxes c.loop-id.pool c.take.new.self c.in-Some.id c.in-Some.ensures.some.0 c.in-Some.ensures.some.1 c.take.ensures.origins c.requires.searched.0 now c.work_box.new.pool w c.loop-id.first c.loop-id.invariant.first);
      whole = λ root h. c.work_box.ensures.keeps root (c.take.ensures.keeps c.args.p.now root (c.loop-id.invariant.whole root h));
      kept = λ root h. searched_on c.args.p.now c.requires.problem (pos c.args.tol) c.args.boxes c.loop-id.pool c.take.new.self c.in-Some.id c.in-Some.ensures.some.0 c.in-Some.ensures.some.1 c.take.ensures.origins root (c.loop-id.invariant.kept root h) c.work_box.new.pool _ w;
    }

pub returns-in-Full-clause-ends : goal.returns-in-Full-clause-ends
returns-in-Full-clause-ends c = λ root h.
    stopped c.args.p.now c.requires.problem (pos c.args.tol) c.args.boxes c.loop-id.pool c.take.new.self c.in-Some.id c.in-Some.ensures.some.0 c.in-Some.ensures.some.1 c.take.ensures.origins root (c.loop-id.invariant.kept root h) c.work_box.new.pool
    (full_is c.args.p.now (pos c.args.tol) c.args.boxes c.take.new.self c.work_box.new.pool c.in-Some.id c.in_ok-work_box.field-0 c.in-Full.is c.in_ok-work_box.ensures.turn)

pub returns-in-Full-clause-keeps : goal.returns-in-Full-clause-keeps
returns-in-Full-clause-keeps c = λ root h. c.work_box.ensures.keeps root (c.take.ensures.keeps c.args.p.now root (c.loop-id.invariant.whole root h))

pub returns-in_err-work_box-clause-keeps : goal.returns-in_err-work_box-clause-keeps
returns-in_err-work_box-clause-keeps c = λ root h. c.work_box.ensures.keeps root (c.take.ensures.keeps c.args.p.now root (c.loop-id.invariant.whole root h))

pub returns-in-Carried-clause-keeps : goal.returns-in-Carried-clause-keeps
returns-in-Carried-clause-keeps c = λ root h. c.work_box.ensures.keeps root (c.take.ensures.keeps c.args.p.now root (c.loop-id.invariant.whole root h))

pub returns-clause-keeps : goal.returns-clause-keeps
returns-clause-keeps c = λ root h. c.take.ensures.keeps c.args.p.now root (c.loop-id.invariant.whole root h)
