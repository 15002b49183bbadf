-- How wide a variable is at first, in sixteenths.
use Rattle.std.proofs.Common.{◌≡◌, ℕ, zero, suc, ◌*◌, ◌^◌, refl, arith, pos, neg_ℤ, ◌-ℤ◌, ◌*ℤ◌, ◌≤ℤ◌, List, [], ◌∷◌, map, Some, slice_index_or, IsTrue}
use Rattle.std.specs.Prelude.{slice_get}
use Rattle.integer_laws.proofs.Ring.{linear, mul_le_left, square_le, square_nonneg}
use Rattle.gas_model.specs.declared.rows.ArcRow.{ArcRow}
use Rattle.gas_model.specs.declared.rows.NodeRow.{NodeRow}
use Rattle.gas_model.specs.declared.rows.Ends.{Ends}
use Rattle.base_types.specs.declared.variables.Var.{Var}
use Rattle.base_types.specs.declared.variables.Var.TheVariants.{Flow, Square}
use Rattle.gas_model.specs.Rows.{Network}
use Rattle.gas_model.specs.Limits.{is_node_within}
use Rattle.gas_model.specs.Within.{IsWithin, is_row_within}
use Rattle.gas_model.specs.Curves.{square}
use Rattle.gas_model.specs.Boxes.{no_ends, ends_of, width_of, opening, flow_ends, square_ends}
use Rattle.gas_model.proofs.LimitFacts.{flow_from, flow_most, row_flows, pressure_from, pressure_most, node_pressures}
use Rattle.box_pool.specs.Grid.{pool_scale}

abbrev IsNarrow : Ends → Type 0
IsNarrow e = width_of e ≤ℤ pos (16 * 10 ^ 16)

mapped : {A : Type 0} (f : A → Ends) (xs : List A) (i : ℕ) → ((x : A) → slice_get xs i ≡ Some x → IsNarrow (f x)) → IsNarrow (slice_index_or (map f xs) i no_ends)
mapped f [] i h = omega (arith, linear)
mapped f (x ∷ xs) zero h = h x refl
mapped f (x ∷ xs) (suc i) h = mapped f xs i h

flow_narrow : (row : ArcRow) → IsTrue (is_row_within row) → IsNarrow (flow_ends pool_scale row)
flow_narrow row t =
    let f = row_flows row t in
    let low : neg_ℤ (pos (16 * 10 ^ 12)) ≤ℤ (pos 16 *ℤ row.q_min) = mul_le_left (pos 16) (neg_ℤ (pos (10 ^ 12))) row.q_min (omega (arith, linear)) (flow_from row.q_min f.0) in
    let high : (pos 16 *ℤ row.q_max) ≤ℤ pos (16 * 10 ^ 12) = mul_le_left (pos 16) row.q_max (pos (10 ^ 12)) (omega (arith, linear)) (flow_most row.q_max f.1) in
    let narrow : ((pos 16 *ℤ row.q_max) -ℤ (pos 16 *ℤ row.q_min)) ≤ℤ pos (16 * 10 ^ 16) = omega (arith, linear, low, high) in
    narrow

square_narrow : (node : NodeRow) → IsTrue (is_node_within node) → IsNarrow (square_ends pool_scale node)
square_narrow node t =
    let f = node_pressures node t in
    let low : pos 0 ≤ℤ (pos 16 *ℤ square node.p_min) = mul_le_left (pos 16) (pos 0) (square node.p_min) (omega (arith, linear)) (square_nonneg node.p_min) in
    let most = square_le node.p_max (pos (10 ^ 8)) (pressure_from node.p_max f.1) (pressure_most node.p_max f.1) in
    let high : (pos 16 *ℤ square node.p_max) ≤ℤ pos (16 * 10 ^ 16) = mul_le_left (pos 16) (square node.p_max) (pos (10 ^ 16)) (omega (arith, linear)) most in
    let narrow : ((pos 16 *ℤ square node.p_max) -ℤ (pos 16 *ℤ square node.p_min)) ≤ℤ pos (16 * 10 ^ 16) = omega (arith, linear, low, high) in
    narrow

pub opening_narrow : (p : Network) → IsWithin p → (v : Var) → width_of (ends_of (opening pool_scale p) v) ≤ℤ pos (16 * 10 ^ 16)
opening_narrow p within (Flow a) = mapped (flow_ends pool_scale) p.arcs a (λ row at. flow_narrow row (within.arcs a row at))
opening_narrow p within (Square n) = mapped (square_ends pool_scale) p.nodes n (λ node at. square_narrow node (within.nodes n node at))
