use Rattle.std.proofs.Common.{rules, arith, pos, ◌+ℤ◌, ◌<ℤ◌, FitsSigned, w64}
use Rattle.std.proofs.lemmas.Int.{ints}
use Rattle.nom_range.proofs.Narrowing.{ends_narrow}
use Rattle.nom_range.proofs.ranging.Question.narrow.Goals as goal

pub returns : goal.returns
returns c =
    let asked = c.args.self.now in
    let known = c.loop-known.known in
    let carried : FitsSigned w64 known.carried = search rules in
    let first : FitsSigned w64 known.refused.first = search rules in
    let close : known.refused.first <ℤ (known.carried +ℤ pos 2) = omega (arith, ints) in
    let ended = c.ended.ensures in
    rw ended (ends_narrow asked.p.now asked.node asked.low asked.high asked.tol asked.boxes asked.there asked.from asked.to known c.loop-known.invariant close)
