-- What the code of a resistance's law computes fits.
use Rattle.std.proofs.Common.{◌*◌, ◌+◌, ◌^◌, lit≤, arith, ℤ, ◌+ℤ◌, ◌-ℤ◌, ◌*ℤ◌, FitsSigned, w64, IsTrue}
use Rattle.std.specs.Int.{w128}
use borrow.Author.Differences.{fits_in}
use Rattle.integer_laws.specs.Sizes.{IsWithin}
use Rattle.integer_laws.proofs.Ring.{linear}
use Rattle.integer_laws.proofs.SizeLemmas.{within_fits, product_within, sum_within, difference_within}
use Rattle.gas_model.specs.declared.law_forms.PipeLaw.{PipeLaw}
use Rattle.base_types.specs.Numbers.{is_flow, is_square}
use Rattle.gas_model.specs.Laws.{is_pipe_within}
use Rattle.gas_model.proofs.LimitFacts.{flow_size, square_size}
use Rattle.element_laws.specs.Sizes.{most_flow}
use Rattle.element_laws.proofs.DropFits.{drag_parts, part_from, part_most, part_size}

pub record NearFits (law : PipeLaw) (tol q u v : ℤ) : Type 0 where
  pub den_small : FitsSigned w64 law.drag.den
  pub den_wide : FitsSigned w128 law.drag.den
  pub tol_fits : FitsSigned w128 tol
  pub q_fits : FitsSigned w128 q
  pub u_fits : FitsSigned w128 u
  pub v_fits : FitsSigned w128 v
  pub drop : FitsSigned w128 (u -ℤ v)
  pub more : FitsSigned w128 (u -ℤ v +ℤ tol)
  pub less : FitsSigned w128 (u -ℤ v -ℤ tol)
  pub above : FitsSigned w128 (law.drag.den *ℤ (u -ℤ v +ℤ tol))
  pub below : FitsSigned w128 (law.drag.den *ℤ (u -ℤ v -ℤ tol))
  pub flow : IsWithin most_flow q

pub near_fits : (law : PipeLaw) (tol q u v : ℤ) → IsTrue (is_pipe_within law) → IsTrue (is_square tol) → IsTrue (is_flow q) → IsTrue (is_square u) → IsTrue (is_square v) → NearFits law tol q u v
near_fits law tol q u v l t f a b =
    let part = (drag_parts law.drag l).den in
    let den = part_size law.drag.den part in
    let tol_size = square_size tol t in
    let q_size = flow_size q f in
    let u_size = square_size u a in
    let v_size = square_size v b in
    let drop_size = difference_within u v (10 ^ 16) (10 ^ 16) u_size v_size in
    let more_size = sum_within (u -ℤ v) tol (10 ^ 16 + 10 ^ 16) (10 ^ 16) drop_size tol_size in
    let less_size = difference_within (u -ℤ v) tol (10 ^ 16 + 10 ^ 16) (10 ^ 16) drop_size tol_size in
    record {
      den_small = fits_in w64 law.drag.den (omega (arith, linear, part_from law.drag.den part, part_most law.drag.den part));
      den_wide = within_fits (2 ^ 38) law.drag.den den (lit≤ tt);
      tol_fits = within_fits (10 ^ 16) tol tol_size (lit≤ tt);
      q_fits = within_fits 1000000000000 q q_size (lit≤ tt);
      u_fits = within_fits (10 ^ 16) u u_size (lit≤ tt);
      v_fits = within_fits (10 ^ 16) v v_size (lit≤ tt);
      drop = within_fits (10 ^ 16 + 10 ^ 16) (u -ℤ v) drop_size (lit≤ tt);
      more = within_fits (10 ^ 16 + 10 ^ 16 + 10 ^ 16) (u -ℤ v +ℤ tol) more_size (lit≤ tt);
      less = within_fits (10 ^ 16 + 10 ^ 16 + 10 ^ 16) (u -ℤ v -ℤ tol) less_size (lit≤ tt);
      above = within_fits (2 ^ 38 * (10 ^ 16 + 10 ^ 16 + 10 ^ 16)) (law.drag.den *ℤ (u -ℤ v +ℤ tol)) (product_within law.drag.den (u -ℤ v +ℤ tol) (2 ^ 38) (10 ^ 16 + 10 ^ 16 + 10 ^ 16) den more_size) (lit≤ tt);
      below = within_fits (2 ^ 38 * (10 ^ 16 + 10 ^ 16 + 10 ^ 16)) (law.drag.den *ℤ (u -ℤ v -ℤ tol)) (product_within law.drag.den (u -ℤ v -ℤ tol) (2 ^ 38) (10 ^ 16 + 10 ^ 16 + 10 ^ 16) den less_size) (lit≤ tt);
      flow = omega (arith, q_size);
    }
