use Rattle.std.proofs.Common.{to_z-of_z, FitsSigned, rules, sym, refl, ◌≤ℤ◌, ◌<ℤ◌}
use Rattle.std.proofs.lemmas.Bool.{false≢true}
use Rattle.std.specs.Int.{w128}
use Rattle.interval_core.proofs.EnclosureLemmas.{small_fits, scale_positive}
use Rattle.interval_core.proofs.MeetLemmas.{ends_of, is_meet, is_common, no_common}
use Rattle.interval_core.proofs.interval.Interval.meet.Goals as goal

pub returns-then-lo-hi-clause-some : goal.returns-then-lo-hi-clause-some
returns-then-lo-hi-clause-some g c =
    let a = small_fits c.self.inside.lo c.self.invariant.low in
    let b = small_fits c.self.inside.hi c.self.invariant.high in
    let d = small_fits c.other.inside.lo c.other.invariant.low in
    let e = small_fits c.other.inside.hi c.other.invariant.high in
    let m : FitsSigned w128 c.max-lo.result = search rules in
    let n : FitsSigned w128 c.min-hi.result = search rules in
    let ends = ends_of (c.self.inside.lo, c.self.inside.hi) (c.other.inside.lo, c.other.inside.hi) (c.max-lo.result, c.min-hi.result) c.self.invariant c.other.invariant (simp to_z-of_z at c.max-lo.ensures.value) (simp to_z-of_z at c.min-hi.ensures.value) in
    let order : c.max-lo.result ≤ℤ c.min-hi.result = search rules in
    rw (← c.self.view_is, ← c.other.view_is) (simp to_z-of_z (is_meet g.G.Grid.SCALE _ _ _ ends order))

pub returns-then-lo-hi-clause-none : goal.returns-then-lo-hi-clause-none
returns-then-lo-hi-clause-none g c =
    let a = small_fits c.self.inside.lo c.self.invariant.low in
    let b = small_fits c.self.inside.hi c.self.invariant.high in
    let d = small_fits c.other.inside.lo c.other.invariant.low in
    let e = small_fits c.other.inside.hi c.other.invariant.high in
    let m : FitsSigned w128 c.max-lo.result = search rules in
    let n : FitsSigned w128 c.min-hi.result = search rules in
    let ends = ends_of (c.self.inside.lo, c.self.inside.hi) (c.other.inside.lo, c.other.inside.hi) (c.max-lo.result, c.min-hi.result) c.self.invariant c.other.invariant (simp to_z-of_z at c.max-lo.ensures.value) (simp to_z-of_z at c.min-hi.ensures.value) in
    let order : c.max-lo.result ≤ℤ c.min-hi.result = search rules in
    let k = scale_positive g.G.Grid.SCALE g.met.G.Grid.scale_is in
    rw (← c.self.view_is, ← c.other.view_is) (λ e. absurd (false≢true (sym e)), λ no. absurd (no (is_common g.G.Grid.SCALE _ _ _ k ends order)))

pub returns-else-lo-hi-clause-none : goal.returns-else-lo-hi-clause-none
returns-else-lo-hi-clause-none g c =
    let a = small_fits c.self.inside.lo c.self.invariant.low in
    let b = small_fits c.self.inside.hi c.self.invariant.high in
    let d = small_fits c.other.inside.lo c.other.invariant.low in
    let e = small_fits c.other.inside.hi c.other.invariant.high in
    let m : FitsSigned w128 c.max-lo.result = search rules in
    let n : FitsSigned w128 c.min-hi.result = search rules in
    let ends = ends_of (c.self.inside.lo, c.self.inside.hi) (c.other.inside.lo, c.other.inside.hi) (c.max-lo.result, c.min-hi.result) c.self.invariant c.other.invariant (simp to_z-of_z at c.max-lo.ensures.value) (simp to_z-of_z at c.min-hi.ensures.value) in
    let order : c.min-hi.result <ℤ c.max-lo.result = search rules in
    rw (← c.self.view_is, ← c.other.view_is) (λ e. no_common g.G.Grid.SCALE _ _ _ ends order, λ no. refl)
