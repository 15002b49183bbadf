use Rattle.std.proofs.Common.{rules, arith, ◌<ℤ◌, FitsSigned, w64, to_z-of_z}
use Rattle.std.proofs.lemmas.Int.{ints}
use Rattle.nom_range.proofs.Narrowing.{begins}
use Rattle.nom_range.proofs.ranging.Question.from_low.Goals as goal

pub narrow-requires : goal.narrow-requires
narrow-requires c =
    let asked = c.args.self.now in
    let low : FitsSigned w64 asked.low = search rules in
    let high : FitsSigned w64 asked.high = search rules in
    let apart : asked.low <ℤ asked.high = omega (arith, ints, asked.order) in
    let within = simp (to_z-of_z, high) at c.in_ok-setting.ensures.within in
    let found = rw c.in-Refuted.is at (simp (to_z-of_z, high) at c.in_ok-setting.ensures.found) in
    simp (to_z-of_z, low, high) (begins asked.p.now asked.node asked.low asked.high asked.tol asked.boxes c.args.setting apart c.requires c.in-Refuted.tree within found)
