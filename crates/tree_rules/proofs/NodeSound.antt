-- A step by the balance of a node keeps every point, over any denominator, and a closing has none.
use Rattle.std.proofs.Common.{◌≡◌, ℕ, suc, ◌+◌, inl, inr, refl, sym, ap, ◌∙◌, subst, arith, ℤ, pos, ◌+ℤ◌, ◌-ℤ◌, ◌*ℤ◌, ◌≤ℤ◌, ◌<ℤ◌, Bool, true, false, cond, ◌==◌, int_le, int_lt, IsTrue, List, [], ◌∷◌, slice_get, Some, add-zero, zero-add}
use Rattle.std.proofs.lemmas.Bool.{and_parts}
use Rattle.integer_laws.proofs.Ring.{linear, mul_add, mul_neg, mul_left_comm, mul_sub, mul_le_left, mul_lt_left, mul_zero}
use Rattle.gas_model.specs.declared.rows.ArcRow.{ArcRow}
use Rattle.gas_model.specs.declared.rows.NodeRow.{NodeRow}
use Rattle.gas_model.specs.Points.{sum_arcs, leaving, entering, other, sum_out, sum_in, sum_other_out, sum_other_in, net_flow, balances}
use Rattle.gas_model.proofs.NodeSums.{own_out, own_in}
use Rattle.tree_rules.specs.NodeRules.{leaving_step, entering_step, balance_closing}
use Rattle.tree_rules.proofs.UnitSound.{either}
use Rattle.tree_rules.proofs.ArcSound.{Keeps}

-- k f is at most m g at each row, counted from i
pub record Below (k m : ℤ) (f g : ℕ → ArcRow → ℤ) (i : ℕ) (rows : List ArcRow) : Type 0 where
  pub at : (j : ℕ) (row : ArcRow) → slice_get rows j ≡ Some row → (k *ℤ f (i + j) row) ≤ℤ (m *ℤ g (i + j) row)

below_first : (k m : ℤ) (f g : ℕ → ArcRow → ℤ) (i : ℕ) (row : ArcRow) (rows : List ArcRow) → Below k m f g i (row ∷ rows) → (k *ℤ f i row) ≤ℤ (m *ℤ g i row)
below_first k m f g i row rows h = subst (λ (n : ℕ). (k *ℤ f n row) ≤ℤ (m *ℤ g n row)) (add-zero i) (h.at 0 row refl)

below_rest : (k m : ℤ) (f g : ℕ → ArcRow → ℤ) (i : ℕ) (row : ArcRow) (rows : List ArcRow) → Below k m f g i (row ∷ rows) → Below k m f g (i + 1) rows
below_rest k m f g i row rows h = record { at = λ j r e. subst (λ (n : ℕ). (k *ℤ f n r) ≤ℤ (m *ℤ g n r)) (let e : i + suc j ≡ i + 1 + j = omega arith in e) (h.at (suc j) r e) }

pub sum_below : (k m : ℤ) (f g : ℕ → ArcRow → ℤ) (i : ℕ) (rows : List ArcRow) → Below k m f g i rows → (k *ℤ sum_arcs f i rows) ≤ℤ (m *ℤ sum_arcs g i rows)
sum_below k m f g i [] h = omega (arith, linear, mul_zero k, mul_zero m)
sum_below k m f g i (row ∷ rows) h =
    omega (arith, linear, mul_add k (f i row) (sum_arcs f (i + 1) rows), mul_add m (g i row) (sum_arcs g (i + 1) rows), below_first k m f g i row rows h, sum_below k m f g (i + 1) rows (below_rest k m f g i row rows h))

-- ---- the terms of one arc
-- a term that is chosen by a test is in order where the chosen value is
chosen_below : (k m : ℤ) (b : Bool) (x y : ℤ) → (k *ℤ x) ≤ℤ (m *ℤ y) → (k *ℤ cond b x (pos 0)) ≤ℤ (m *ℤ cond b y (pos 0))
chosen_below k m true x y h = h
chosen_below k m false x y h = omega (arith, linear, mul_zero k, mul_zero m)

unchosen_below : (k m : ℤ) (b : Bool) (x y : ℤ) → (k *ℤ x) ≤ℤ (m *ℤ y) → (k *ℤ cond b (pos 0) x) ≤ℤ (m *ℤ cond b (pos 0) y)
unchosen_below k m false x y h = h
unchosen_below k m true x y h = omega (arith, linear, mul_zero k, mul_zero m)

-- k x is at most m y at each arc
pub record EachBelow (k m : ℤ) (x y : ℕ → ℤ) (arcs : List ArcRow) : Type 0 where
  pub at : (j : ℕ) (row : ArcRow) → slice_get arcs j ≡ Some row → (k *ℤ x j) ≤ℤ (m *ℤ y j)

leaving_below : (k m : ℤ) (x y : ℕ → ℤ) (n : ℕ) (arcs : List ArcRow) → EachBelow k m x y arcs → (j : ℕ) (row : ArcRow) → slice_get arcs j ≡ Some row → (k *ℤ leaving x n j row) ≤ℤ (m *ℤ leaving y n j row)
leaving_below k m x y n arcs h j row e = chosen_below k m (row.from == n) (x j) (y j) (h.at j row e)

entering_below : (k m : ℤ) (x y : ℕ → ℤ) (n : ℕ) (arcs : List ArcRow) → EachBelow k m x y arcs → (j : ℕ) (row : ArcRow) → slice_get arcs j ≡ Some row → (k *ℤ entering x n j row) ≤ℤ (m *ℤ entering y n j row)
entering_below k m x y n arcs h j row e = chosen_below k m (row.to == n) (x j) (y j) (h.at j row e)

from_start : (k m : ℤ) (f g : ℕ → ArcRow → ℤ) (arcs : List ArcRow) → ((j : ℕ) (row : ArcRow) → slice_get arcs j ≡ Some row → (k *ℤ f j row) ≤ℤ (m *ℤ g j row)) → Below k m f g 0 arcs
from_start k m f g arcs h = record { at = λ j row e. subst (λ (n : ℕ). (k *ℤ f n row) ≤ℤ (m *ℤ g n row)) (sym (zero-add j)) (h j row e) }

out_below : (k m : ℤ) (x y : ℕ → ℤ) (n : ℕ) (arcs : List ArcRow) → EachBelow k m x y arcs → (k *ℤ sum_out x n arcs) ≤ℤ (m *ℤ sum_out y n arcs)
out_below k m x y n arcs h = sum_below k m (leaving x n) (leaving y n) 0 arcs (from_start k m _ _ arcs (leaving_below k m x y n arcs h))

in_below : (k m : ℤ) (x y : ℕ → ℤ) (n : ℕ) (arcs : List ArcRow) → EachBelow k m x y arcs → (k *ℤ sum_in x n arcs) ≤ℤ (m *ℤ sum_in y n arcs)
in_below k m x y n arcs h = sum_below k m (entering x n) (entering y n) 0 arcs (from_start k m _ _ arcs (entering_below k m x y n arcs h))

other_out_below : (k m : ℤ) (a : ℕ) (x y : ℕ → ℤ) (n : ℕ) (arcs : List ArcRow) → EachBelow k m x y arcs → (k *ℤ sum_other_out a x n arcs) ≤ℤ (m *ℤ sum_other_out a y n arcs)
other_out_below k m a x y n arcs h = sum_below k m (other a (leaving x n)) (other a (leaving y n)) 0 arcs (from_start k m _ _ arcs (λ j row e. unchosen_below k m (j == a) _ _ (leaving_below k m x y n arcs h j row e)))

other_in_below : (k m : ℤ) (a : ℕ) (x y : ℕ → ℤ) (n : ℕ) (arcs : List ArcRow) → EachBelow k m x y arcs → (k *ℤ sum_other_in a x n arcs) ≤ℤ (m *ℤ sum_other_in a y n arcs)
other_in_below k m a x y n arcs h = sum_below k m (other a (entering x n)) (other a (entering y n)) 0 arcs (from_start k m _ _ arcs (λ j row e. unchosen_below k m (j == a) _ _ (entering_below k m x y n arcs h j row e)))

-- ---- a point of the box
-- each flow lies between its ends
pub record Flows (K d : ℤ) (x ql qh : ℕ → ℤ) (arcs : List ArcRow) : Type 0 where
  pub above : EachBelow d K ql x arcs
  pub below : EachBelow K d x qh arcs

-- the node's balance, times K
pub record Balanced (node : NodeRow) (K d : ℤ) (x : ℕ → ℤ) (n : ℕ) (arcs : List ArcRow) : Type 0 where
  pub low : (K *ℤ (d *ℤ node.b_min)) ≤ℤ (K *ℤ sum_out x n arcs -ℤ K *ℤ sum_in x n arcs)
  pub high : (K *ℤ sum_out x n arcs -ℤ K *ℤ sum_in x n arcs) ≤ℤ (K *ℤ (d *ℤ node.b_max))

pub balance_says : (node : NodeRow) (d : ℤ) (x : ℕ → ℤ) (n : ℕ) (arcs : List ArcRow) → IsTrue (balances node d x n arcs) → ((d *ℤ node.b_min) ≤ℤ net_flow x n arcs) × (net_flow x n arcs ≤ℤ (d *ℤ node.b_max))
balance_says node d x n arcs h =
    let t = and_parts (int_le (d *ℤ node.b_min) (net_flow x n arcs)) (int_le (net_flow x n arcs) (d *ℤ node.b_max)) h in
    (omega (arith, linear, t.0), omega (arith, linear, t.1))

balanced : (node : NodeRow) (K d : ℤ) (x : ℕ → ℤ) (n : ℕ) (arcs : List ArcRow) → pos 0 <ℤ K → IsTrue (balances node d x n arcs) → Balanced node K d x n arcs
balanced node K d x n arcs k h =
    let s = balance_says node d x n arcs h in
    let spread = mul_sub K (sum_out x n arcs) (sum_in x n arcs) in
    record {
      low = omega (arith, linear, spread, mul_le_left K (d *ℤ node.b_min) (net_flow x n arcs) (omega (arith, linear)) s.0);
      high = omega (arith, linear, spread, mul_le_left K (net_flow x n arcs) (d *ℤ node.b_max) (omega (arith, linear)) s.1);
    }

-- ---- the rule
leaving_low : (node : NodeRow) (K d : ℤ) (x ql qh : ℕ → ℤ) (n : ℕ) (arcs : List ArcRow) (a : ℕ) (row : ArcRow) (C : ℤ) → pos 0 <ℤ K → pos 0 <ℤ d → Flows K d x ql qh arcs → IsTrue (balances node d x n arcs) → slice_get arcs a ≡ Some row → row.from ≡ n → IsTrue (leaving_step node K ql qh n arcs a true C) → (d *ℤ C) ≤ℤ (K *ℤ x a)
leaving_low node K d x ql qh n arcs a row C k p w b e f t =
    let O = sum_other_out a qh n arcs in
    let I = sum_in ql n arcs in
    let test = mul_le_left d C (K *ℤ node.b_min -ℤ O +ℤ I) (omega (arith, linear)) (omega (arith, linear)) in
    let spread : d *ℤ (K *ℤ node.b_min -ℤ O +ℤ I) ≡ K *ℤ (d *ℤ node.b_min) -ℤ d *ℤ O +ℤ d *ℤ I = simp (mul_add, mul_neg) (omega (arith, linear, mul_left_comm d K node.b_min)) in
    let low = (balanced node K d x n arcs k b).low in
    let outs = other_out_below K d a x qh n arcs w.below in
    let ins = in_below d K ql x n arcs w.above in
    let own : K *ℤ sum_out x n arcs ≡ K *ℤ sum_other_out a x n arcs +ℤ K *ℤ x a = ap (λ (z : ℤ). K *ℤ z) (sym (own_out a n x row arcs e f)) ∙ mul_add K (sum_other_out a x n arcs) (x a) in
    omega (arith, linear, test, spread, low, outs, ins, own)

leaving_high : (node : NodeRow) (K d : ℤ) (x ql qh : ℕ → ℤ) (n : ℕ) (arcs : List ArcRow) (a : ℕ) (row : ArcRow) (C : ℤ) → pos 0 <ℤ K → pos 0 <ℤ d → Flows K d x ql qh arcs → IsTrue (balances node d x n arcs) → slice_get arcs a ≡ Some row → row.from ≡ n → IsTrue (leaving_step node K ql qh n arcs a false C) → (K *ℤ x a) ≤ℤ (d *ℤ C)
leaving_high node K d x ql qh n arcs a row C k p w b e f t =
    let O = sum_other_out a ql n arcs in
    let I = sum_in qh n arcs in
    let test = mul_le_left d (K *ℤ node.b_max -ℤ O +ℤ I) C (omega (arith, linear)) (omega (arith, linear)) in
    let spread : d *ℤ (K *ℤ node.b_max -ℤ O +ℤ I) ≡ K *ℤ (d *ℤ node.b_max) -ℤ d *ℤ O +ℤ d *ℤ I = simp (mul_add, mul_neg) (omega (arith, linear, mul_left_comm d K node.b_max)) in
    let high = (balanced node K d x n arcs k b).high in
    let outs = other_out_below d K a ql x n arcs w.above in
    let ins = in_below K d x qh n arcs w.below in
    let own : K *ℤ sum_out x n arcs ≡ K *ℤ sum_other_out a x n arcs +ℤ K *ℤ x a = ap (λ (z : ℤ). K *ℤ z) (sym (own_out a n x row arcs e f)) ∙ mul_add K (sum_other_out a x n arcs) (x a) in
    omega (arith, linear, test, spread, high, outs, ins, own)

entering_low : (node : NodeRow) (K d : ℤ) (x ql qh : ℕ → ℤ) (n : ℕ) (arcs : List ArcRow) (a : ℕ) (row : ArcRow) (C : ℤ) → pos 0 <ℤ K → pos 0 <ℤ d → Flows K d x ql qh arcs → IsTrue (balances node d x n arcs) → slice_get arcs a ≡ Some row → row.to ≡ n → IsTrue (entering_step node K ql qh n arcs a true C) → (d *ℤ C) ≤ℤ (K *ℤ x a)
entering_low node K d x ql qh n arcs a row C k p w b e f t =
    let O = sum_out ql n arcs in
    let I = sum_other_in a qh n arcs in
    let test = mul_le_left d C (O -ℤ I -ℤ K *ℤ node.b_max) (omega (arith, linear)) (omega (arith, linear)) in
    let spread : d *ℤ (O -ℤ I -ℤ K *ℤ node.b_max) ≡ d *ℤ O -ℤ d *ℤ I -ℤ K *ℤ (d *ℤ node.b_max) = simp (mul_add, mul_neg) (omega (arith, linear, mul_left_comm d K node.b_max)) in
    let high = (balanced node K d x n arcs k b).high in
    let outs = out_below d K ql x n arcs w.above in
    let ins = other_in_below K d a x qh n arcs w.below in
    let own : K *ℤ sum_in x n arcs ≡ K *ℤ sum_other_in a x n arcs +ℤ K *ℤ x a = ap (λ (z : ℤ). K *ℤ z) (sym (own_in a n x row arcs e f)) ∙ mul_add K (sum_other_in a x n arcs) (x a) in
    omega (arith, linear, test, spread, high, outs, ins, own)

entering_high : (node : NodeRow) (K d : ℤ) (x ql qh : ℕ → ℤ) (n : ℕ) (arcs : List ArcRow) (a : ℕ) (row : ArcRow) (C : ℤ) → pos 0 <ℤ K → pos 0 <ℤ d → Flows K d x ql qh arcs → IsTrue (balances node d x n arcs) → slice_get arcs a ≡ Some row → row.to ≡ n → IsTrue (entering_step node K ql qh n arcs a false C) → (K *ℤ x a) ≤ℤ (d *ℤ C)
entering_high node K d x ql qh n arcs a row C k p w b e f t =
    let O = sum_out qh n arcs in
    let I = sum_other_in a ql n arcs in
    let test = mul_le_left d (O -ℤ I -ℤ K *ℤ node.b_min) C (omega (arith, linear)) (omega (arith, linear)) in
    let spread : d *ℤ (O -ℤ I -ℤ K *ℤ node.b_min) ≡ d *ℤ O -ℤ d *ℤ I -ℤ K *ℤ (d *ℤ node.b_min) = simp (mul_add, mul_neg) (omega (arith, linear, mul_left_comm d K node.b_min)) in
    let low = (balanced node K d x n arcs k b).low in
    let outs = out_below K d x qh n arcs w.below in
    let ins = other_in_below d K a ql x n arcs w.above in
    let own : K *ℤ sum_in x n arcs ≡ K *ℤ sum_other_in a x n arcs +ℤ K *ℤ x a = ap (λ (z : ℤ). K *ℤ z) (sym (own_in a n x row arcs e f)) ∙ mul_add K (sum_other_in a x n arcs) (x a) in
    omega (arith, linear, test, spread, low, outs, ins, own)

pub leaving_keeps : (node : NodeRow) (K d : ℤ) (x ql qh : ℕ → ℤ) (n : ℕ) (arcs : List ArcRow) (a : ℕ) (row : ArcRow) (low : Bool) (C : ℤ) → pos 0 <ℤ K → pos 0 <ℤ d → Flows K d x ql qh arcs → IsTrue (balances node d x n arcs) → slice_get arcs a ≡ Some row → row.from ≡ n → IsTrue (leaving_step node K ql qh n arcs a low C) → Keeps K d (x a) low C
leaving_keeps node K d x ql qh n arcs a row true C k p w b e f t = leaving_low node K d x ql qh n arcs a row C k p w b e f t
leaving_keeps node K d x ql qh n arcs a row false C k p w b e f t = leaving_high node K d x ql qh n arcs a row C k p w b e f t

pub entering_keeps : (node : NodeRow) (K d : ℤ) (x ql qh : ℕ → ℤ) (n : ℕ) (arcs : List ArcRow) (a : ℕ) (row : ArcRow) (low : Bool) (C : ℤ) → pos 0 <ℤ K → pos 0 <ℤ d → Flows K d x ql qh arcs → IsTrue (balances node d x n arcs) → slice_get arcs a ≡ Some row → row.to ≡ n → IsTrue (entering_step node K ql qh n arcs a low C) → Keeps K d (x a) low C
entering_keeps node K d x ql qh n arcs a row true C k p w b e f t = entering_low node K d x ql qh n arcs a row C k p w b e f t
entering_keeps node K d x ql qh n arcs a row false C k p w b e f t = entering_high node K d x ql qh n arcs a row C k p w b e f t

pub balance_closed : (node : NodeRow) (K d : ℤ) (x ql qh : ℕ → ℤ) (n : ℕ) (arcs : List ArcRow) → pos 0 <ℤ K → pos 0 <ℤ d → Flows K d x ql qh arcs → IsTrue (balances node d x n arcs) → IsTrue (balance_closing node K ql qh n arcs) → ⊥
balance_closed node K d x ql qh n arcs k p w b t =
    let s = balanced node K d x n arcs k b in
    elim (either (int_lt (K *ℤ node.b_max) (sum_out ql n arcs -ℤ sum_in qh n arcs)) (int_lt (sum_out qh n arcs -ℤ sum_in ql n arcs) (K *ℤ node.b_min)) t) [
      | inl above ↦
          let test = mul_lt_left d (K *ℤ node.b_max) (sum_out ql n arcs -ℤ sum_in qh n arcs) p (omega (arith, linear, above)) in
          omega (arith, linear, test, s.high, mul_sub d (sum_out ql n arcs) (sum_in qh n arcs), mul_left_comm d K node.b_max, out_below d K ql x n arcs w.above, in_below K d x qh n arcs w.below)
      | inr below ↦
          let test = mul_lt_left d (sum_out qh n arcs -ℤ sum_in ql n arcs) (K *ℤ node.b_min) p (omega (arith, linear, below)) in
          omega (arith, linear, test, s.low, mul_sub d (sum_out qh n arcs) (sum_in ql n arcs), mul_left_comm d K node.b_min, out_below K d x qh n arcs w.below, in_below d K ql x n arcs w.above)
    ]
