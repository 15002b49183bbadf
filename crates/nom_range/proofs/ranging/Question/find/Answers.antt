use Rattle.std.proofs.Common.{rules, FitsSigned, w64, to_z-of_z}
use Rattle.std.specs.Prelude.{IfOk, Result, Ok, Err}
use Rattle.nom_range.proofs.ranging.Question.find.Goals as goal

whatever : {A E : Type 0} {P : Type 0} (r : Result A E) → P → IfOk r (λ _. P)
whatever (Ok x) h = h
whatever (Err e) h = tt

pub returns-clause-within : goal.returns-clause-within
returns-clause-within c =
    let least : FitsSigned w64 c.args.least = search rules in
    let most : FitsSigned w64 c.args.most = search rules in
    let is = simp (to_z-of_z, least, most) at c.in_ok-drawn.ensures in
    whatever c.decided.result (rw is at c.decided.ensures.within)

pub returns-clause-found : goal.returns-clause-found
returns-clause-found c =
    let least : FitsSigned w64 c.args.least = search rules in
    let most : FitsSigned w64 c.args.most = search rules in
    let is = simp (to_z-of_z, least, most) at c.in_ok-drawn.ensures in
    rw is at c.decided.ensures.found
