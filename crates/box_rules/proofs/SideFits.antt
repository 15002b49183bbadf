-- The ends of an arc fit.
use Rattle.std.proofs.Common.{lit≤, arith, ℤ, pos, ◌≤ℤ◌, FitsSigned, w64, IsTrue}
use borrow.Author.Differences.{fits_in}
use Rattle.integer_laws.proofs.Ring.{linear}
use Rattle.base_types.specs.Numbers.{is_difference, is_ratio_part}
use Rattle.std.specs.Int.{w128}
use Rattle.integer_laws.specs.Sizes.{IsWithin}
use Rattle.integer_laws.proofs.SizeLemmas.{within_fits}
use Rattle.element_laws.specs.Sizes.{most_flow}
use Rattle.tree_rules.specs.declared.arc_vars.ArcEnds.{ArcEnds}
use Rattle.tree_rules.specs.declared.arc_vars.ArcVar.{ArcVar}
use Rattle.tree_rules.specs.declared.arc_vars.ArcVar.TheVariants.{OfFlow, OfFrom, OfTo}
use Rattle.box_rules.specs.ArcLimits.{AreSafeSides, IsSafeAt}
use Rattle.element_laws.proofs.ScaledFits.{wide_fits}

pub flow_fits : (q : ℤ) → IsWithin most_flow q → FitsSigned w128 q
flow_fits q w = within_fits most_flow q w (lit≤ tt)

pub record SidesFit (e : ArcEnds) : Type 0 where
  pub q_lo : FitsSigned w128 e.q.lo
  pub q_hi : FitsSigned w128 e.q.hi
  pub u_lo : FitsSigned w128 e.u.lo
  pub u_hi : FitsSigned w128 e.u.hi
  pub v_lo : FitsSigned w128 e.v.lo
  pub v_hi : FitsSigned w128 e.v.hi

pub sides_fit : (e : ArcEnds) → AreSafeSides e → SidesFit e
sides_fit e s = record {
  q_lo = flow_fits e.q.lo s.q.lo;
  q_hi = flow_fits e.q.hi s.q.hi;
  u_lo = wide_fits e.u.lo s.u.lo;
  u_hi = wide_fits e.u.hi s.u.hi;
  v_lo = wide_fits e.v.lo s.v.lo;
  v_hi = wide_fits e.v.hi s.v.hi;
}

pub safe_at_fits : (x : ArcVar) (C : ℤ) → IsSafeAt x C → FitsSigned w128 C
safe_at_fits OfFlow C s = flow_fits C s
safe_at_fits OfFrom C s = wide_fits C s
safe_at_fits OfTo C s = wide_fits C s

pub difference_fits : (d : ℤ) → IsTrue (is_difference d) → FitsSigned w64 d
difference_fits d t =
    let low : pos 0 ≤ℤ d = grind (arith, linear) in
    let high : d ≤ℤ pos 400000000 = grind (arith, linear) in
    fits_in w64 d (omega (arith, linear))

pub part_fits : (d : ℤ) → IsTrue (is_ratio_part d) → FitsSigned w64 d
part_fits d t =
    let low : pos 0 ≤ℤ d = grind (arith, linear) in
    let high : d ≤ℤ pos 1048576 = grind (arith, linear) in
    fits_in w64 d (omega (arith, linear))
