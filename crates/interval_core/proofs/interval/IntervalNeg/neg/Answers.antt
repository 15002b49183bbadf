use Rattle.std.proofs.Common.{to_z-of_z, arith, FitsSigned, ◌-ℤ◌, pos}
use Rattle.std.specs.Int.{w128}
use Rattle.integer_laws.proofs.Ring.{linear}
use Rattle.interval_core.proofs.EnclosureLemmas.{is_negative, pair_of_negative, small_fits, scale_positive, parts, one_part}
use Rattle.interval_core.proofs.interval.IntervalNeg.neg.Goals as goal

pub returns : goal.returns
returns g c =
    let a = c.self.inside in
    let low = small_fits a.lo c.self.invariant.low in
    let high = small_fits a.hi c.self.invariant.high in
    let p = c.self.invariant in
    let nlow : FitsSigned w128 (pos 0 -ℤ a.lo) = omega (arith, linear, parts, p.low, one_part (pos 0 -ℤ a.lo)) in
    let nhigh : FitsSigned w128 (pos 0 -ℤ a.hi) = omega (arith, linear, parts, p.high, one_part (pos 0 -ℤ a.hi)) in
    rw (← c.self.view_is) (simp to_z-of_z (is_negative g.G.Grid.SCALE (a.lo, a.hi) (pos 0 -ℤ a.hi, pos 0 -ℤ a.lo) (scale_positive g.G.Grid.SCALE g.met.G.Grid.scale_is) p (omega (arith, linear)) (omega (arith, linear)) (pair_of_negative (a.lo, a.hi) p)))
