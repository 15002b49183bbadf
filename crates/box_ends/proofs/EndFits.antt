-- What the code of a bound's ends computes fits, and lies within the limits.
use Rattle.std.proofs.Common.{◌^◌, ◌*◌, lit≤, arith, ℤ, pos, neg_ℤ, ◌*ℤ◌, ◌≤ℤ◌, FitsSigned, w64, IsTrue}
use Rattle.std.specs.Int.{w128}
use borrow.Author.Differences.{fits_in}
use Rattle.integer_laws.proofs.Ring.{linear, mul_le_left, mul_neg, mul_zero, square_le, square_nonneg}
use Rattle.integer_laws.proofs.SizeLemmas.{within_fits, product_within}
use Rattle.gas_model.specs.declared.rows.ArcRow.{ArcRow}
use Rattle.gas_model.specs.declared.rows.NodeRow.{NodeRow}
use Rattle.base_types.specs.Numbers.{is_flow, is_pressure}
use Rattle.gas_model.specs.Curves.{square}
use Rattle.gas_model.specs.Boxes.{flow_ends, square_ends}
use Rattle.gas_model.specs.BoxLimits.{IsScale, AreFlowEnds, AreSquareEnds}
use Rattle.gas_model.proofs.LimitFacts.{flow_from, flow_most, flow_size, pressure_from, pressure_most, pressure_size, scale_from, scale_size}

pub record EndFits (K q : ℤ) : Type 0 where
  pub small : FitsSigned w64 q
  pub wide : FitsSigned w128 q
  pub product : FitsSigned w128 (K *ℤ q)

pub flow_end_fits : (K q : ℤ) → IsScale K → IsTrue (is_flow q) → EndFits K q
flow_end_fits K q k t =
    let size = flow_size q t in
    record {
      small = fits_in w64 q (omega (arith, linear, flow_from q t, flow_most q t));
      wide = within_fits (10 ^ 12) q size (lit≤ tt);
      product = within_fits (16 * 10 ^ 12) (K *ℤ q) (product_within K q 16 (10 ^ 12) (scale_size K k) size) (lit≤ tt);
    }

scale_nonneg : (K : ℤ) → IsScale K → pos 0 ≤ℤ K
scale_nonneg K k = omega (arith, linear, scale_from K k)

-- K times numbers from least to most
scaled : (K least most x : ℤ) → IsScale K → least ≤ℤ x → x ≤ℤ most → ((K *ℤ least) ≤ℤ (K *ℤ x)) × ((K *ℤ x) ≤ℤ (K *ℤ most))
scaled K least most x k a b = (mul_le_left K least x (scale_nonneg K k) a, mul_le_left K x most (scale_nonneg K k) b)

pub flow_ends_limited : (K : ℤ) (row : ArcRow) → IsScale K → IsTrue (is_flow row.q_min) → IsTrue (is_flow row.q_max) → AreFlowEnds K (flow_ends K row)
flow_ends_limited K row k s t =
    let low = scaled K (neg_ℤ (pos (10 ^ 12))) (pos (10 ^ 12)) row.q_min k (flow_from row.q_min s) (flow_most row.q_min s) in
    let high = scaled K (neg_ℤ (pos (10 ^ 12))) (pos (10 ^ 12)) row.q_max k (flow_from row.q_max t) (flow_most row.q_max t) in
    let turned = mul_neg K (pos (10 ^ 12)) in
    record {
      low_from = omega (arith, linear, low.0, turned);
      low_to = omega (arith, linear, low.1);
      high_from = omega (arith, linear, high.0, turned);
      high_to = high.1;
    }

pub record SquareFits (K p : ℤ) : Type 0 where
  pub small : FitsSigned w64 p
  pub wide : FitsSigned w128 p
  pub squared : FitsSigned w128 (square p)
  pub product : FitsSigned w128 (K *ℤ square p)

pub square_fits : (K p : ℤ) → IsScale K → IsTrue (is_pressure p) → SquareFits K p
square_fits K p k t =
    let size = pressure_size p t in
    let squared_size = product_within p p (10 ^ 8) (10 ^ 8) size size in
    record {
      small = fits_in w64 p (omega (arith, linear, pressure_from p t, pressure_most p t));
      wide = within_fits (10 ^ 8) p size (lit≤ tt);
      squared = within_fits (10 ^ 8 * 10 ^ 8) (square p) squared_size (lit≤ tt);
      product = within_fits (16 * (10 ^ 8 * 10 ^ 8)) (K *ℤ square p) (product_within K (square p) 16 (10 ^ 8 * 10 ^ 8) (scale_size K k) squared_size) (lit≤ tt);
    }

square_limited : (K p : ℤ) → IsScale K → IsTrue (is_pressure p) → (pos 0 ≤ℤ (K *ℤ square p)) × ((K *ℤ square p) ≤ℤ (K *ℤ pos (10 ^ 16)))
square_limited K p k t =
    let most = square_le p (pos (10 ^ 8)) (pressure_from p t) (pressure_most p t) in
    let s = scaled K (pos 0) (pos (10 ^ 16)) (square p) k (square_nonneg p) most in
    (omega (arith, linear, s.0, mul_zero K), s.1)

pub square_ends_limited : (K : ℤ) (node : NodeRow) → IsScale K → IsTrue (is_pressure node.p_min) → IsTrue (is_pressure node.p_max) → AreSquareEnds K (square_ends K node)
square_ends_limited K node k s t =
    let low = square_limited K node.p_min k s in
    let high = square_limited K node.p_max k t in
    record {
      low_from = low.0;
      low_to = omega (arith, linear, low.1);
      high_from = omega (arith, linear, high.0);
      high_to = high.1;
    }
