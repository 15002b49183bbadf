use Rattle.std.proofs.Common.{to_z-of_z, refl, ◌-ℤ◌}
use Rattle.interval_core.proofs.EnclosureLemmas.{is_difference, differences_fit, pair_of_difference, scale_positive}
use Rattle.interval_core.proofs.interval.IntervalSub.sub.Goals as goal

pub invariant_of-result : goal.invariant_of-result
invariant_of-result g c =
    let a = c.self.inside in
    let b = c.other.inside in
    let f = differences_fit (a.lo, a.hi) (b.lo, b.hi) c.self.invariant c.other.invariant in
    let small = rw (← c.self.view_is, ← c.other.view_is) at c.requires in
    simp (to_z-of_z, f.a_low, f.a_high, f.b_low, f.b_high, f.low, f.high) (pair_of_difference (a.lo, a.hi) (b.lo, b.hi) c.self.invariant c.other.invariant small.0 small.1)

pub returns : goal.returns
returns g c =
    let a = c.self.inside in
    let b = c.other.inside in
    let f = differences_fit (a.lo, a.hi) (b.lo, b.hi) c.self.invariant c.other.invariant in
    let small = rw (← c.self.view_is, ← c.other.view_is) at c.requires in
    rw (← c.self.view_is, ← c.other.view_is) (simp (to_z-of_z, f.a_low, f.a_high, f.b_low, f.b_high, f.low, f.high) (is_difference g.G.Grid.SCALE (a.lo, a.hi) (b.lo, b.hi) (a.lo -ℤ b.hi, a.hi -ℤ b.lo) (scale_positive g.G.Grid.SCALE g.met.G.Grid.scale_is) c.self.invariant c.other.invariant refl refl (pair_of_difference (a.lo, a.hi) (b.lo, b.hi) c.self.invariant c.other.invariant small.0 small.1)))
