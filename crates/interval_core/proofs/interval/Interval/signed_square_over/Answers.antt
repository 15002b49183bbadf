use Rattle.std.proofs.Common.{to_z-of_z, FitsSigned, rules, sym, subst, ℤ, ◌*ℤ◌}
use Rattle.std.specs.Int.{w128}
use Rattle.gas_units.specs.Rounds.{IsFloor, IsCeiling}
use Rattle.interval_core.proofs.EnclosureLemmas.{small_fits, scale_positive}
use Rattle.interval_core.proofs.SquareLemmas.{Ends, ends_pair, is_signed_square}
use Rattle.interval_core.proofs.FitLemmas.{IsUnit, unit_is}
use Rattle.interval_core.proofs.interval.Interval.signed_square_over.Given.{Over}
use Rattle.interval_core.proofs.interval.Interval.signed_square_over.Goals as goal

-- the unit, as the code has it
unit : (g : Over) (c : goal.After-SCALE g) → IsUnit c.SCALE.result c.args.den
unit g c = subst (λ (K : ℤ). IsUnit K c.args.den) (sym c.SCALE.ensures) (unit_is g.G.Grid.SCALE c.args.den g.met.G.Grid.scale_is c.requires.range.den_positive c.requires.range.den_high)

pub overflow_mul-unit : goal.overflow_mul-unit
overflow_mul-unit g c =
    let d = c.ranges.den in
    let s : FitsSigned w128 c.SCALE.result = search rules in
    simp to_z-of_z (unit g c).fits

pub floor_div-requires : goal.floor_div-requires
floor_div-requires g c =
    let d = c.ranges.den in
    let s : FitsSigned w128 c.SCALE.result = search rules in
    let u = (unit g c).fits in
    simp to_z-of_z (unit g c).positive

-- what the calls gave, without the passage through bits
gave : (g : Over) (c : goal.After-ceil_div g) → Ends g.G.Grid.SCALE c.args.lo c.args.hi c.args.den (c.self.inside.lo, c.self.inside.hi) (c.floor_div.result, c.ceil_div.result) c.lowest-least.result c.highest-greatest.result
gave g c =
    let d = c.ranges.den in
    let l = c.ranges.lo in
    let h = c.ranges.hi in
    let s : FitsSigned w128 c.SCALE.result = search rules in
    let u = (unit_is g.G.Grid.SCALE c.args.den g.met.G.Grid.scale_is c.requires.range.den_positive c.requires.range.den_high).fits in
    let v : FitsSigned w128 (c.args.den *ℤ c.SCALE.result) = rw c.SCALE.ensures u in
    let a = small_fits c.self.inside.lo c.self.invariant.low in
    let b = small_fits c.self.inside.hi c.self.invariant.high in
    let m : FitsSigned w128 c.lowest-least.result = search rules in
    let n : FitsSigned w128 c.highest-greatest.result = search rules in
    record {
      scale = scale_positive g.G.Grid.SCALE g.met.G.Grid.scale_is;
      operand = c.self.invariant;
      range = c.requires.range;
      small = rw (← c.self.view_is) at c.requires.size;
      lowest = simp to_z-of_z at c.lowest-least.ensures;
      highest = simp to_z-of_z at c.highest-greatest.ensures;
      floor = subst (λ (K : ℤ). IsFloor c.lowest-least.result (c.args.den *ℤ K) c.floor_div.result) c.SCALE.ensures (simp to_z-of_z at c.floor_div.ensures);
      ceiling = subst (λ (K : ℤ). IsCeiling c.highest-greatest.result (c.args.den *ℤ K) c.ceil_div.result) c.SCALE.ensures (simp to_z-of_z at c.ceil_div.ensures);
    }

pub invariant_of-result : goal.invariant_of-result
invariant_of-result g c =
    let l : FitsSigned w128 c.floor_div.result = search rules in
    let h : FitsSigned w128 c.ceil_div.result = search rules in
    simp to_z-of_z (ends_pair _ _ _ _ _ _ _ _ (gave g c))

pub returns : goal.returns
returns g c =
    let l : FitsSigned w128 c.floor_div.result = search rules in
    let h : FitsSigned w128 c.ceil_div.result = search rules in
    rw (← c.self.view_is) (simp to_z-of_z (is_signed_square _ _ _ _ _ _ _ _ (gave g c)))
