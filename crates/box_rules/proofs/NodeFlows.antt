-- What leaves a node at least less what enters it at most, as a sum over the arcs at it; and what that leaves to one of them.
use Rattle.std.proofs.Common.{◌≡◌, ◌≢◌, ℕ, ◌+◌, ◌*◌, ◌^◌, ◌≤◌, sym, ap, ◌∙◌, arith, lit≤, ℤ, ◌+ℤ◌, ◌-ℤ◌, ◌*ℤ◌, neg_ℤ, List, eq-eqb, ne_eqb, Bool, true, false, cond, ◌==◌, Some, FitsSigned, IsTrue, int_le, int_lt}
use Rattle.std.specs.Prelude.{◌||◌, slice_get}
use Rattle.std.specs.Int.{w128}
use Rattle.integer_laws.specs.Sizes.{IsWithin}
use Rattle.integer_laws.proofs.Ring.{linear}
use Rattle.integer_laws.proofs.SizeLemmas.{within_parts, one_part, within_fits, sum_within, difference_within, product_within}
use Rattle.gas_model.specs.declared.rows.ArcRow.{ArcRow}
use Rattle.gas_model.specs.declared.rows.Ends.{Ends}
use Rattle.gas_model.specs.declared.rows.NodeRow.{NodeRow}
use Rattle.base_types.specs.Numbers.{is_flow}
use Rattle.gas_model.specs.Points.{sum_out, sum_in}
use Rattle.element_laws.specs.Sizes.{most_flow}
use Rattle.gas_model.proofs.LimitFacts.{flow_size, scale_size}
use Rattle.gas_model.proofs.NodeSums.{NetSums, own_out, own_in}
use Rattle.tree_rules.specs.NodeRules.{leaving_step, entering_step}
use Rattle.gas_model.specs.Rows.{Network}
use Rattle.tree_rules.specs.Rules.{PartBox, flow_lo, flow_hi, flow_step}
use Rattle.gas_model.specs.BoxLimits.{IsScale}
use Rattle.box_rules.specs.Balance.{supply_of, leaves_with, enters_with}

pub net_size : (x y : ℕ → ℤ) (all : List ArcRow) (n : ℕ) (at : List ℕ) (k : ℕ) (total : ℤ) → NetSums most_flow x y all n at k total → k ≤ 2000 → IsWithin (2000 * most_flow) total
net_size x y all n at k total s few = omega (arith, s.size)

pub sum_fits : (total : ℤ) → IsWithin (2000 * most_flow) total → FitsSigned w128 total
sum_fits total s = within_fits (2000 * most_flow) total s (lit≤ tt)

-- ---- what is left to one flow
pub leaving_is : (node : NodeRow) (K : ℤ) (supply net q : Ends) (ql qh : ℕ → ℤ) (n : ℕ) (arcs : List ArcRow) (a : ℕ) (row : ArcRow) (low : Bool) (C : ℤ) → slice_get arcs a ≡ Some row → row.from ≡ n
    → supply ≡ supply_of K node → net.lo ≡ sum_out ql n arcs -ℤ sum_in qh n arcs → net.hi ≡ sum_out qh n arcs -ℤ sum_in ql n arcs → q.lo ≡ ql a → q.hi ≡ qh a
    → leaves_with supply net q low C ≡ leaving_step node K ql qh n arcs a low C
leaving_is node K supply net q ql qh n arcs a row true C e f s l h x y =
    ap (int_le C) (omega (arith, linear, own_out a n qh row arcs e f, (ap (λ (z : Ends). z.lo) s), h, y))
leaving_is node K supply net q ql qh n arcs a row false C e f s l h x y =
    ap (λ (z : ℤ). int_le z C) (omega (arith, linear, own_out a n ql row arcs e f, (ap (λ (z : Ends). z.hi) s), l, x))

pub entering_is : (node : NodeRow) (K : ℤ) (supply net q : Ends) (ql qh : ℕ → ℤ) (n : ℕ) (arcs : List ArcRow) (a : ℕ) (row : ArcRow) (low : Bool) (C : ℤ) → slice_get arcs a ≡ Some row → row.to ≡ n
    → supply ≡ supply_of K node → net.lo ≡ sum_out ql n arcs -ℤ sum_in qh n arcs → net.hi ≡ sum_out qh n arcs -ℤ sum_in ql n arcs → q.lo ≡ ql a → q.hi ≡ qh a
    → enters_with supply net q low C ≡ entering_step node K ql qh n arcs a low C
entering_is node K supply net q ql qh n arcs a row true C e f s l h x y =
    ap (int_le C) (omega (arith, linear, own_in a n qh row arcs e f, (ap (λ (z : Ends). z.hi) s), l, y))
entering_is node K supply net q ql qh n arcs a row false C e f s l h x y =
    ap (λ (z : ℤ). int_le z C) (omega (arith, linear, own_in a n ql row arcs e f, (ap (λ (z : Ends). z.lo) s), h, x))

-- a difference and a flow
pub record LeftFits (x y q : ℤ) : Type 0 where
  pub first : FitsSigned w128 x
  pub second : FitsSigned w128 y
  pub third : FitsSigned w128 q
  pub apart : FitsSigned w128 (x -ℤ y)
  pub left : FitsSigned w128 (x -ℤ y +ℤ q)

pub left_fits : (x y q : ℤ) → IsWithin (2000 * most_flow) x → IsWithin (2000 * most_flow) y → IsWithin most_flow q → LeftFits x y q
left_fits x y q a b d =
    let apart = difference_within x y (2000 * most_flow) (2000 * most_flow) a b in
    record {
      first = sum_fits x a;
      second = sum_fits y b;
      third = within_fits most_flow q d (lit≤ tt);
      apart = within_fits (2000 * most_flow + 2000 * most_flow) (x -ℤ y) apart (lit≤ tt);
      left = within_fits (2000 * most_flow + 2000 * most_flow + most_flow) (x -ℤ y +ℤ q) (sum_within (x -ℤ y) q (2000 * most_flow + 2000 * most_flow) most_flow apart d) (lit≤ tt);
    }

-- a supply in units of 1/K
pub supply_size : (K x : ℤ) → IsScale K → IsTrue (is_flow x) → IsWithin (2000 * most_flow) (K *ℤ x)
supply_size K x k t =
    let size = product_within K x 16 (10 ^ 12) (scale_size K k) (flow_size x t) in
    omega (arith, size)

pub negated_within : (q : ℤ) → IsWithin most_flow q → IsWithin most_flow (neg_ℤ q)
negated_within q h = omega (arith, linear, within_parts, one_part q, one_part (neg_ℤ q))

pub flow_leaves : (p : Network) (b : PartBox) (n a : ℕ) (low : Bool) (C : ℤ) (node : NodeRow) (row : ArcRow) → row.from ≡ n → leaving_step node b.scale (flow_lo b.bounds) (flow_hi b.bounds) n p.arcs a low C ≡ flow_step p b n a low C node row
flow_leaves p b n a low C node row e =
    ap (λ (t : Bool). cond t (leaving_step node b.scale (flow_lo b.bounds) (flow_hi b.bounds) n p.arcs a low C) (cond (row.to == n) (entering_step node b.scale (flow_lo b.bounds) (flow_hi b.bounds) n p.arcs a low C) false)) (sym (eq-eqb row.from n e))

pub flow_enters : (p : Network) (b : PartBox) (n a : ℕ) (low : Bool) (C : ℤ) (node : NodeRow) (row : ArcRow) → row.from ≢ n → row.to ≡ n → entering_step node b.scale (flow_lo b.bounds) (flow_hi b.bounds) n p.arcs a low C ≡ flow_step p b n a low C node row
flow_enters p b n a low C node row m e =
    ap (λ (t : Bool). cond t (entering_step node b.scale (flow_lo b.bounds) (flow_hi b.bounds) n p.arcs a low C) false) (sym (eq-eqb row.to n e))
    ∙ ap (λ (t : Bool). cond t (leaving_step node b.scale (flow_lo b.bounds) (flow_hi b.bounds) n p.arcs a low C) (cond (row.to == n) (entering_step node b.scale (flow_lo b.bounds) (flow_hi b.bounds) n p.arcs a low C) false)) (sym (ne_eqb row.from n m))

pub beyond_is : (node : NodeRow) (K L G : ℤ) (supply net : Ends) → supply ≡ supply_of K node → net.lo ≡ L → net.hi ≡ G
    → (int_lt supply.hi net.lo || int_lt net.hi supply.lo) ≡ (int_lt (K *ℤ node.b_max) L || int_lt G (K *ℤ node.b_min))
beyond_is node K L G supply net s l h =
    ap (λ (x : Ends). int_lt x.hi net.lo || int_lt net.hi x.lo) s
    ∙ ap (λ (z : ℤ). int_lt (K *ℤ node.b_max) z || int_lt net.hi (K *ℤ node.b_min)) l
    ∙ ap (λ (z : ℤ). int_lt (K *ℤ node.b_max) L || int_lt z (K *ℤ node.b_min)) h
