use Rattle.std.proofs.Common.{rules, sym, subst, ℤ, IsTrue, FitsSigned, to_z-of_z}
use Rattle.std.specs.Int.{w128}
use Rattle.base_types.specs.Numbers.{is_square}
use Rattle.probe_point.proofs.Picks.{nearest_square}
use Rattle.probe_point.proofs.squares.far_square.Goals as goal

pub returns-clause-size : goal.returns-clause-size
returns-clause-size c =
    let fits : FitsSigned w128 c.nearest.result = search rules in
    simp to_z-of_z (subst (λ (z : ℤ). IsTrue (is_square z)) (sym c.nearest.ensures) (nearest_square c.args.ends _ c.requires.low c.requires.high c.requires.order))
