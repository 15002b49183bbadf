use Rattle.std.proofs.Common.{◌≡◌, rules, arith, ℤ, pos, neg_ℤ, ◌-ℤ◌, FitsSigned, w64, to_z-of_z}
use Rattle.std.proofs.lemmas.Int.{ints}
use Rattle.nom_range.proofs.ranging.Question.drawn.Goals as goal

negated : (z : ℤ) → pos 0 -ℤ z ≡ neg_ℤ z
negated z = omega (arith, ints)

pub returns : goal.returns
returns c =
    let most : FitsSigned w64 c.args.most = search rules in
    let least : FitsSigned w64 c.args.least = search rules in
    let low : FitsSigned w64 (neg_ℤ c.args.most) = omega (arith, ints) in
    let high : FitsSigned w64 (neg_ℤ c.args.least) = omega (arith, ints) in
    simp (to_z-of_z, most, least, low, high, negated) at c.with_supply.ensures
