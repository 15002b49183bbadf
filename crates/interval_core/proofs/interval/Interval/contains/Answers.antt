use Rattle.std.proofs.Common.{to_z-of_z, FitsSigned, rules, ◌*ℤ◌, ◌≤ℤ◌}
use Rattle.std.specs.Int.{w128}
use Rattle.interval_core.specs.Enclosures.{IsSmall}
use Rattle.interval_core.proofs.EnclosureLemmas.{small_fits}
use Rattle.interval_core.proofs.FitLemmas.{contains_is, le_of_test}
use Rattle.interval_core.proofs.interval.Interval.contains.Goals as goal

pub returns-then-self-d : goal.returns-then-self-d
returns-then-self-d g c =
    let a = c.self.inside in
    let n = c.ranges.num in
    let d = c.ranges.d in
    let s : FitsSigned w128 c.SCALE.result = search rules in
    let lo = small_fits a.lo c.self.invariant.low in
    let hi = small_fits a.hi c.self.invariant.high in
    let low : IsSmall (a.lo *ℤ c.args.d) = rw (← c.self.view_is) at c.requires.low in
    let high : IsSmall (a.hi *ℤ c.args.d) = rw (← c.self.view_is) at c.requires.high in
    let lows = small_fits (a.lo *ℤ c.args.d) low in
    let highs = small_fits (a.hi *ℤ c.args.d) high in
    let scaled : FitsSigned w128 (c.SCALE.result *ℤ c.args.num) = rw c.SCALE.ensures (small_fits (g.G.Grid.SCALE *ℤ c.args.num) c.requires.number) in
    let above : (a.lo *ℤ c.args.d) ≤ℤ (c.SCALE.result *ℤ c.args.num) = le_of_test _ _ (simp to_z-of_z at c.if-self-d.true) in
    rw (← c.self.view_is) (simp to_z-of_z (contains_is g.G.Grid.SCALE c.SCALE.result (a.lo, a.hi) c.args.num c.args.d c.SCALE.ensures above))
