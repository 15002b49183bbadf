use Rattle.std.proofs.Common.{to_z-of_z, FitsSigned, rules, pos, ◌≤ℤ◌, ◌*ℤ◌, subst, ℤ}
use Rattle.std.specs.Int.{w128}
use Rattle.gas_units.specs.Rounds.{IsFloor, IsCeiling}
use Rattle.interval_core.specs.Enclosures.{Pair, HaveSmallProducts, IsLeastOf, IsGreatestOf}
use Rattle.interval_core.proofs.EnclosureLemmas.{small_fits, scale_positive}
use Rattle.interval_core.proofs.ProductLemmas.{is_product, product_pair}
use Rattle.interval_core.proofs.interval.Interval.times.Given.{Over}
use Rattle.interval_core.proofs.interval.Interval.times.Goals as goal

pub floor_div-requires : goal.floor_div-requires
floor_div-requires g c =
    let fits : FitsSigned w128 c.SCALE.result = search rules in
    let k = scale_positive g.G.Grid.SCALE g.met.G.Grid.scale_is in
    simp to_z-of_z (rw c.SCALE.ensures k)

-- what the calls gave, without the passage through bits
record Gave (K : ℤ) (a b : Pair) (m M l h : ℤ) : Type 0 where
  scale : pos 1 ≤ℤ K
  products : HaveSmallProducts a b
  least : IsLeastOf m (a.0 *ℤ b.0) (a.0 *ℤ b.1) (a.1 *ℤ b.0) (a.1 *ℤ b.1)
  greatest : IsGreatestOf M (a.0 *ℤ b.0) (a.0 *ℤ b.1) (a.1 *ℤ b.0) (a.1 *ℤ b.1)
  floor : IsFloor m K l
  ceiling : IsCeiling M K h

gave : (g : Over) (c : goal.After-ceil_div g) → Gave g.G.Grid.SCALE (c.self.inside.lo, c.self.inside.hi) (c.other.inside.lo, c.other.inside.hi) c.least_of-least.result c.greatest_of-greatest.result c.floor_div.result c.ceil_div.result
gave g c =
    let small : HaveSmallProducts (c.self.inside.lo, c.self.inside.hi) (c.other.inside.lo, c.other.inside.hi) = rw (← c.self.view_is, ← c.other.view_is) at c.requires in
    let a = small_fits c.self.inside.lo c.self.invariant.low in
    let b = small_fits c.self.inside.hi c.self.invariant.high in
    let d = small_fits c.other.inside.lo c.other.invariant.low in
    let e = small_fits c.other.inside.hi c.other.invariant.high in
    let ll = small_fits (c.self.inside.lo *ℤ c.other.inside.lo) small.low_low in
    let lh = small_fits (c.self.inside.lo *ℤ c.other.inside.hi) small.low_high in
    let hl = small_fits (c.self.inside.hi *ℤ c.other.inside.lo) small.high_low in
    let hh = small_fits (c.self.inside.hi *ℤ c.other.inside.hi) small.high_high in
    let m : FitsSigned w128 c.least_of-least.result = search rules in
    let n : FitsSigned w128 c.greatest_of-greatest.result = search rules in
    let s : FitsSigned w128 c.SCALE.result = search rules in
    let t : FitsSigned w128 c.SCALE-2.result = search rules in
    record {
      scale = scale_positive g.G.Grid.SCALE g.met.G.Grid.scale_is;
      products = small;
      least = simp to_z-of_z at c.least_of-least.ensures;
      greatest = simp to_z-of_z at c.greatest_of-greatest.ensures;
      floor = subst (λ (K : ℤ). IsFloor c.least_of-least.result K c.floor_div.result) c.SCALE.ensures (simp to_z-of_z at c.floor_div.ensures);
      ceiling = subst (λ (K : ℤ). IsCeiling c.greatest_of-greatest.result K c.ceil_div.result) c.SCALE-2.ensures (simp to_z-of_z at c.ceil_div.ensures);
    }

pub invariant_of-result : goal.invariant_of-result
invariant_of-result g c =
    let r = gave g c in
    let l : FitsSigned w128 c.floor_div.result = search rules in
    let h : FitsSigned w128 c.ceil_div.result = search rules in
    simp to_z-of_z (product_pair g.G.Grid.SCALE _ _ _ _ _ _ _ _ r.scale r.least r.greatest r.products.low_low r.products.low_high r.products.high_low r.products.high_high r.floor r.ceiling)

pub returns : goal.returns
returns g c =
    let r = gave g c in
    let l : FitsSigned w128 c.floor_div.result = search rules in
    let h : FitsSigned w128 c.ceil_div.result = search rules in
    rw (← c.self.view_is, ← c.other.view_is) (simp to_z-of_z (is_product g.G.Grid.SCALE (c.self.inside.lo, c.self.inside.hi) (c.other.inside.lo, c.other.inside.hi) (c.floor_div.result, c.ceil_div.result) c.least_of-least.result c.greatest_of-greatest.result r.scale c.self.invariant c.other.invariant r.least r.greatest r.floor r.ceiling (product_pair g.G.Grid.SCALE _ _ _ _ _ _ _ _ r.scale r.least r.greatest r.products.low_low r.products.low_high r.products.high_low r.products.high_high r.floor r.ceiling)))
