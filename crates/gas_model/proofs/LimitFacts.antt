-- What the limits of numbers say of their order and their sizes.
use Rattle.std.proofs.Common.{inl, inr, ◌^◌, arith, ℤ, pos, neg_ℤ, ◌≤ℤ◌, IsTrue}
use Rattle.integer_laws.specs.Sizes.{IsWithin}
use Rattle.integer_laws.proofs.Ring.{linear}
use Rattle.integer_laws.proofs.SizeLemmas.{within_parts, one_part, between_within}
use Rattle.gas_model.specs.declared.rows.ArcRow.{ArcRow}
use Rattle.gas_model.specs.declared.rows.NodeRow.{NodeRow}
use Rattle.base_types.specs.Numbers.{is_flow, is_pressure, is_square, is_ratio_part}
use Rattle.gas_model.specs.Limits.{is_node_within}
use Rattle.gas_model.specs.Within.{is_row_within}
use Rattle.gas_model.specs.BoxLimits.{IsScale}

-- ---- flows and supplies
pub flow_from : (q : ℤ) → IsTrue (is_flow q) → neg_ℤ (pos (10 ^ 12)) ≤ℤ q
flow_from q t = grind (arith, linear)

pub flow_most : (q : ℤ) → IsTrue (is_flow q) → q ≤ℤ pos (10 ^ 12)
flow_most q t = grind (arith, linear)

pub flow_size : (q : ℤ) → IsTrue (is_flow q) → IsWithin (10 ^ 12) q
flow_size q t = omega (arith, linear, flow_from q t, flow_most q t, within_parts, one_part q)

pub row_flows : (row : ArcRow) → IsTrue (is_row_within row) → IsTrue (is_flow row.q_min) × IsTrue (is_flow row.q_max)
row_flows row t =
    let a : IsTrue (is_flow row.q_min) = grind arith in
    let b : IsTrue (is_flow row.q_max) = grind arith in
    (a, b)

pub node_supplies : (node : NodeRow) → IsTrue (is_node_within node) → IsTrue (is_flow node.b_min) × IsTrue (is_flow node.b_max)
node_supplies node t =
    let a : IsTrue (is_flow node.b_min) = grind arith in
    let b : IsTrue (is_flow node.b_max) = grind arith in
    (a, b)

-- ---- pressures and squares
pub pressure_from : (p : ℤ) → IsTrue (is_pressure p) → pos 0 ≤ℤ p
pressure_from p t = grind (arith, linear)

pub pressure_most : (p : ℤ) → IsTrue (is_pressure p) → p ≤ℤ pos (10 ^ 8)
pressure_most p t = grind (arith, linear)

pub pressure_size : (p : ℤ) → IsTrue (is_pressure p) → IsWithin (10 ^ 8) p
pressure_size p t = between_within (10 ^ 8) p (pressure_from p t) (pressure_most p t)

pub node_pressures : (node : NodeRow) → IsTrue (is_node_within node) → IsTrue (is_pressure node.p_min) × IsTrue (is_pressure node.p_max)
node_pressures node t =
    let a : IsTrue (is_pressure node.p_min) = grind arith in
    let b : IsTrue (is_pressure node.p_max) = grind arith in
    (a, b)

pub square_from : (s : ℤ) → IsTrue (is_square s) → pos 0 ≤ℤ s
square_from s t = grind (arith, linear)

pub square_most : (s : ℤ) → IsTrue (is_square s) → s ≤ℤ pos (10 ^ 16)
square_most s t = grind (arith, linear)

pub square_size : (s : ℤ) → IsTrue (is_square s) → IsWithin (10 ^ 16) s
square_size s t = between_within (10 ^ 16) s (square_from s t) (square_most s t)

-- ---- ratios and scales
pub ratio_from : (part : ℤ) → IsTrue (is_ratio_part part) → pos 1 ≤ℤ part
ratio_from part t = grind (arith, linear)

pub ratio_most : (part : ℤ) → IsTrue (is_ratio_part part) → part ≤ℤ pos (2 ^ 20)
ratio_most part t = grind (arith, linear)

pub ratio_size : (part : ℤ) → IsTrue (is_ratio_part part) → IsWithin (2 ^ 20) part
ratio_size part t = between_within (2 ^ 20) part (omega (arith, linear, ratio_from part t)) (ratio_most part t)

pub scale_size : (K : ℤ) → IsScale K → IsWithin 16 K
scale_size K (inl e) = omega (arith, linear, e, within_parts, one_part K)
scale_size K (inr e) = omega (arith, linear, e, within_parts, one_part K)

pub scale_from : (K : ℤ) → IsScale K → pos 1 ≤ℤ K
scale_from K (inl e) = omega (arith, linear, e)
scale_from K (inr e) = omega (arith, linear, e)
