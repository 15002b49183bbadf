-- The balance of a node stays quiet where a variable changes that isn't the flow of an arc at it.
use Rattle.std.proofs.Common.{◌≡◌, ◌≢◌, ℕ, suc, ◌+◌, refl, sym, ap, ◌∙◌, subst, arith, ℤ, pos, ◌+ℤ◌, ◌-ℤ◌, ◌*ℤ◌, Bool, true, false, cond, ◌&&◌, ◌==◌, int_le, int_lt, IsTrue, List, [], ◌∷◌, Some, add-zero}
use Rattle.std.specs.Prelude.{slice_get, ◌||◌}
use Rattle.std.specs.Option.{option_map_or}
use Rattle.std.proofs.lemmas.Bool.{and_parts}
use borrow.Author.Tests.{eqb-true}
use Rattle.gas_model.specs.declared.rows.ArcRow.{ArcRow}
use Rattle.gas_model.specs.declared.rows.NodeRow.{NodeRow}
use Rattle.gas_model.specs.declared.rows.Ends.{Ends}
use Rattle.base_types.specs.declared.variables.Var.{Var}
use Rattle.base_types.specs.declared.variables.Var.TheVariants.{Flow, Square}
use Rattle.gas_model.specs.Rows.{Network}
use Rattle.gas_model.specs.Boxes.{ends_of, may_become, tightened}
use Rattle.gas_model.specs.Points.{touches, sum_arcs, leaving, entering, sum_out, sum_in, other, sum_other_out, sum_other_in}
use Rattle.tree_cert.specs.declared.line.Rule.{Rule}
use Rattle.tree_cert.specs.declared.line.Rule.TheVariants.{Balance}
use Rattle.tree_cert.specs.declared.line.Step.{Step}
use Rattle.tree_rules.specs.NodeRules.{leaving_step, entering_step, balance_closing}
use Rattle.tree_rules.specs.Rules.{PartBox, flow_lo, flow_hi, flow_step, node_step, balance_step, closing_at}
use Rattle.tree_rules.proofs.StepSound.{some_is}
use Rattle.tree_rules.proofs.Loosening.{some_from}
use Rattle.tight_steps.specs.declared.law.Law.TheVariants.{AtNode}
use Rattle.tight_steps.specs.Best.{shrinks}
use Rattle.tight_steps.specs.Moves.{is_balance, is_of_law, IsMove}
use Rattle.tight_steps.specs.Mentions.{mentions}
use Rattle.tight_steps.specs.Frame.{with_value}
use Rattle.tight_steps.proofs.ArcMoves.{step_parts, step_from}
use Rattle.tight_steps.proofs.OtherArcs.{same_ends}

-- the flows of all arcs at the node n are the same
abbrev pub SameAt : List ArcRow → ℕ → (x y : ℕ → ℤ) → Type 0
SameAt arcs n x y = (i : ℕ) (row : ArcRow) → slice_get arcs i ≡ Some row → touches n row ≡ true → x i ≡ y i

-- ---- sums
sum_agrees : (f g : ℕ → ArcRow → ℤ) (i : ℕ) (rows : List ArcRow) → ((j : ℕ) (row : ArcRow) → slice_get rows j ≡ Some row → f (i + j) row ≡ g (i + j) row) → sum_arcs f i rows ≡ sum_arcs g i rows
sum_agrees f g i [] h = refl
sum_agrees f g i (row ∷ rows) h =
    let here : f i row ≡ g i row = subst (λ (k : ℕ). f k row ≡ g k row) (add-zero i) (h 0 row refl) in
    let later : (j : ℕ) (r : ArcRow) → slice_get rows j ≡ Some r → f (i + 1 + j) r ≡ g (i + 1 + j) r = λ j r e. subst (λ (k : ℕ). f k r ≡ g k r) (let k : i + suc j ≡ i + 1 + j = omega arith in k) (h (suc j) r e) in
    ap (λ (z : ℤ). z +ℤ sum_arcs f (i + 1) rows) here ∙ ap (λ (z : ℤ). g i row +ℤ z) (sum_agrees f g (i + 1) rows later)

term_from : (t s : Bool) (z w : ℤ) → ((t || s) ≡ true → z ≡ w) → cond t z (pos 0) ≡ cond t w (pos 0)
term_from true s z w h = h refl
term_from false s z w h = refl

term_to : (t s : Bool) (z w : ℤ) → ((t || s) ≡ true → z ≡ w) → cond s z (pos 0) ≡ cond s w (pos 0)
term_to true true z w h = h refl
term_to false true z w h = h refl
term_to t false z w h = refl

leaving_same : (arcs : List ArcRow) (n : ℕ) (x y : ℕ → ℤ) → SameAt arcs n x y → (i : ℕ) (row : ArcRow) → slice_get arcs i ≡ Some row → leaving x n i row ≡ leaving y n i row
leaving_same arcs n x y h i row e = term_from (row.from == n) (row.to == n) (x i) (y i) (h i row e)

entering_same : (arcs : List ArcRow) (n : ℕ) (x y : ℕ → ℤ) → SameAt arcs n x y → (i : ℕ) (row : ArcRow) → slice_get arcs i ≡ Some row → entering x n i row ≡ entering y n i row
entering_same arcs n x y h i row e = term_to (row.from == n) (row.to == n) (x i) (y i) (h i row e)

whole : (f g : ℕ → ArcRow → ℤ) (arcs : List ArcRow) → ((i : ℕ) (row : ArcRow) → slice_get arcs i ≡ Some row → f i row ≡ g i row) → sum_arcs f 0 arcs ≡ sum_arcs g 0 arcs
whole f g arcs h = sum_agrees f g 0 arcs (λ j row e. subst (λ (k : ℕ). f k row ≡ g k row) (let k : j ≡ 0 + j = omega arith in k) (h j row e))

out_same : (arcs : List ArcRow) (n : ℕ) (x y : ℕ → ℤ) → SameAt arcs n x y → sum_out x n arcs ≡ sum_out y n arcs
out_same arcs n x y h = whole (leaving x n) (leaving y n) arcs (leaving_same arcs n x y h)

in_same : (arcs : List ArcRow) (n : ℕ) (x y : ℕ → ℤ) → SameAt arcs n x y → sum_in x n arcs ≡ sum_in y n arcs
in_same arcs n x y h = whole (entering x n) (entering y n) arcs (entering_same arcs n x y h)

other_out_same : (arcs : List ArcRow) (a n : ℕ) (x y : ℕ → ℤ) → SameAt arcs n x y → sum_other_out a x n arcs ≡ sum_other_out a y n arcs
other_out_same arcs a n x y h = whole (other a (leaving x n)) (other a (leaving y n)) arcs (λ i row e. ap (λ (z : ℤ). cond (i == a) (pos 0) z) (leaving_same arcs n x y h i row e))

other_in_same : (arcs : List ArcRow) (a n : ℕ) (x y : ℕ → ℤ) → SameAt arcs n x y → sum_other_in a x n arcs ≡ sum_other_in a y n arcs
other_in_same arcs a n x y h = whole (other a (entering x n)) (other a (entering y n)) arcs (λ i row e. ap (λ (z : ℤ). cond (i == a) (pos 0) z) (entering_same arcs n x y h i row e))

-- ---- the conditions of the balance
leaving_agrees : (node : NodeRow) (K : ℤ) (ql qh xl xh : ℕ → ℤ) (n : ℕ) (arcs : List ArcRow) (a : ℕ) (low : Bool) (C : ℤ) → SameAt arcs n ql xl → SameAt arcs n qh xh → leaving_step node K ql qh n arcs a low C ≡ leaving_step node K xl xh n arcs a low C
leaving_agrees node K ql qh xl xh n arcs a true C l h =
    ap (λ (z : ℤ). int_le C (K *ℤ node.b_min -ℤ z +ℤ sum_in ql n arcs)) (other_out_same arcs a n qh xh h) ∙ ap (λ (z : ℤ). int_le C (K *ℤ node.b_min -ℤ sum_other_out a xh n arcs +ℤ z)) (in_same arcs n ql xl l)
leaving_agrees node K ql qh xl xh n arcs a false C l h =
    ap (λ (z : ℤ). int_le (K *ℤ node.b_max -ℤ z +ℤ sum_in qh n arcs) C) (other_out_same arcs a n ql xl l) ∙ ap (λ (z : ℤ). int_le (K *ℤ node.b_max -ℤ sum_other_out a xl n arcs +ℤ z) C) (in_same arcs n qh xh h)

entering_agrees : (node : NodeRow) (K : ℤ) (ql qh xl xh : ℕ → ℤ) (n : ℕ) (arcs : List ArcRow) (a : ℕ) (low : Bool) (C : ℤ) → SameAt arcs n ql xl → SameAt arcs n qh xh → entering_step node K ql qh n arcs a low C ≡ entering_step node K xl xh n arcs a low C
entering_agrees node K ql qh xl xh n arcs a true C l h =
    ap (λ (z : ℤ). int_le C (z -ℤ sum_other_in a qh n arcs -ℤ K *ℤ node.b_max)) (out_same arcs n ql xl l) ∙ ap (λ (z : ℤ). int_le C (sum_out xl n arcs -ℤ z -ℤ K *ℤ node.b_max)) (other_in_same arcs a n qh xh h)
entering_agrees node K ql qh xl xh n arcs a false C l h =
    ap (λ (z : ℤ). int_le (z -ℤ sum_other_in a ql n arcs -ℤ K *ℤ node.b_min) C) (out_same arcs n qh xh h) ∙ ap (λ (z : ℤ). int_le (sum_out xh n arcs -ℤ z -ℤ K *ℤ node.b_min) C) (other_in_same arcs a n ql xl l)

closing_same : (node : NodeRow) (K : ℤ) (ql qh xl xh : ℕ → ℤ) (n : ℕ) (arcs : List ArcRow) → SameAt arcs n ql xl → SameAt arcs n qh xh → balance_closing node K ql qh n arcs ≡ balance_closing node K xl xh n arcs
closing_same node K ql qh xl xh n arcs l h =
    ap (λ (z : ℤ). int_lt (K *ℤ node.b_max) (z -ℤ sum_in qh n arcs) || int_lt (sum_out qh n arcs -ℤ sum_in ql n arcs) (K *ℤ node.b_min)) (out_same arcs n ql xl l)
    ∙ ap (λ (z : ℤ). int_lt (K *ℤ node.b_max) (sum_out xl n arcs -ℤ z) || int_lt (sum_out qh n arcs -ℤ sum_in ql n arcs) (K *ℤ node.b_min)) (in_same arcs n qh xh h)
    ∙ ap (λ (z : ℤ). int_lt (K *ℤ node.b_max) (sum_out xl n arcs -ℤ sum_in xh n arcs) || int_lt (z -ℤ sum_in ql n arcs) (K *ℤ node.b_min)) (out_same arcs n qh xh h)
    ∙ ap (λ (z : ℤ). int_lt (K *ℤ node.b_max) (sum_out xl n arcs -ℤ sum_in xh n arcs) || int_lt (sum_out xh n arcs -ℤ z) (K *ℤ node.b_min)) (in_same arcs n ql xl l)

-- ---- flows at the node
-- the ends of the flows at the node are the same
flows_same : (p : Network) (b : PartBox) (n : ℕ) (w : Var) (low : Bool) (C : ℤ) → mentions p b.part (AtNode n) w ≡ false → (i : ℕ) (row : ArcRow) → slice_get p.arcs i ≡ Some row → touches n row ≡ true → ends_of (tightened b.bounds w low C) (Flow i) ≡ ends_of b.bounds (Flow i)
flows_same p b n (Square m) low C h i row e t = refl
flows_same p b n (Flow a) low C h i row e t =
    same_ends b.bounds (Flow i) (Flow a) low C (λ s.
    let same : i ≡ a = cc in
    let here : slice_get p.arcs a ≡ Some row = subst (λ (k : ℕ). slice_get p.arcs k ≡ Some row) same e in
    let said : touches n row ≡ false = ap (λ o. option_map_or (touches n) o false) (sym here) ∙ h in
    let x : true ≡ false = sym t ∙ said in
    absurd cc)

-- a flow that the balance moves is that of an arc at the node
pub flow_touches : (f t x y : Bool) → IsTrue (cond f x (cond t y false)) → (f || t) ≡ true
flow_touches true t x y h = refl
flow_touches false true x y h = refl
flow_touches false false x y h = absurd cc

balance_is : (rule : Rule) → IsTrue (is_balance rule) → rule ≡ Balance
balance_is Balance t = refl
balance_is rule t = absurd cc

pub node_is : (n : ℕ) (rule : Rule) (place : ℕ) → IsTrue (is_of_law (AtNode n) rule place) → (rule ≡ Balance) × (place ≡ n)
node_is n rule place t = let h = and_parts (is_balance rule) (place == n) t in (balance_is rule h.0, eqb-true place n h.1)

-- what is found of a step by the balance
pub record NodeMove (p : Network) (b : PartBox) (n a : ℕ) (low : Bool) (C : ℤ) : Type 0 where
  pub node : NodeRow
  pub node_is : slice_get p.nodes n ≡ Some node
  pub row : ArcRow
  pub row_is : slice_get p.arcs a ≡ Some row
  pub holds : IsTrue (flow_step p b n a low C node row)

pub node_move : (p : Network) (b : PartBox) (n a : ℕ) (low : Bool) (C : ℤ) → IsTrue (balance_step p b n (Flow a) low C) → NodeMove p b n a low C
node_move p b n a low C t =
    let found = some_is (slice_get p.nodes n) (node_step p b n (Flow a) low C) t in
    let arc = some_is (slice_get p.arcs a) (flow_step p b n a low C found.0) found.2 in
    record { node = found.0; node_is = found.1; row = arc.0; row_is = arc.1; holds = arc.2 }

pub node_from : (p : Network) (b : PartBox) (n a : ℕ) (low : Bool) (C : ℤ) → NodeMove p b n a low C → IsTrue (balance_step p b n (Flow a) low C)
node_from p b n a low C m =
    some_from (slice_get p.nodes n) (node_step p b n (Flow a) low C) m.node m.node_is (some_from (slice_get p.arcs a) (flow_step p b n a low C m.node) m.row m.row_is m.holds)

no_square : (p : Network) (b : PartBox) (n m : ℕ) (low : Bool) (C : ℤ) → IsTrue (balance_step p b n (Square m) low C) → ⊥
no_square p b n m low C t = let found = some_is (slice_get p.nodes n) (node_step p b n (Square m) low C) t in absurd (cc (found.2))

-- ---- the law of a node
cond_same : (f t x y z w : Bool) → x ≡ z → y ≡ w → cond f x (cond t y false) ≡ cond f z (cond t w false)
cond_same f t x y z w p q = ap (λ (k : Bool). cond f k (cond t y false)) p ∙ ap (λ (k : Bool). cond f z (cond t k false)) q

flow_step_same : (p : Network) (b : PartBox) (n : ℕ) (w : Var) (low : Bool) (C : ℤ) → mentions p b.part (AtNode n) w ≡ false → (a : ℕ) (lo : Bool) (D : ℤ) (node : NodeRow) (row : ArcRow) → flow_step p (with_value b w low C) n a lo D node row ≡ flow_step p b n a lo D node row
flow_step_same p b n w low C h a lo D node row =
    let new = with_value b w low C in
    let l : SameAt p.arcs n (flow_lo new.bounds) (flow_lo b.bounds) = λ i r e t. ap (λ (z : Ends). z.lo) (flows_same p b n w low C h i r e t) in
    let u : SameAt p.arcs n (flow_hi new.bounds) (flow_hi b.bounds) = λ i r e t. ap (λ (z : Ends). z.hi) (flows_same p b n w low C h i r e t) in
    cond_same (row.from == n) (row.to == n) (leaving_step node b.scale (flow_lo new.bounds) (flow_hi new.bounds) n p.arcs a lo D) (entering_step node b.scale (flow_lo new.bounds) (flow_hi new.bounds) n p.arcs a lo D)
    (leaving_step node b.scale (flow_lo b.bounds) (flow_hi b.bounds) n p.arcs a lo D) (entering_step node b.scale (flow_lo b.bounds) (flow_hi b.bounds) n p.arcs a lo D)
    (leaving_agrees node b.scale (flow_lo new.bounds) (flow_hi new.bounds) (flow_lo b.bounds) (flow_hi b.bounds) n p.arcs a lo D l u)
    (entering_agrees node b.scale (flow_lo new.bounds) (flow_hi new.bounds) (flow_lo b.bounds) (flow_hi b.bounds) n p.arcs a lo D l u)

flow_no_move : (p : Network) (b : PartBox) (n : ℕ) (w : Var) (low : Bool) (C : ℤ) → mentions p b.part (AtNode n) w ≡ false → (a : ℕ) (lo : Bool) (D : ℤ) → IsMove p (with_value b w low C) (record { var = Flow a; low = lo; value = D; rule = Balance; place = n }) → IsMove p b (record { var = Flow a; low = lo; value = D; rule = Balance; place = n })
flow_no_move p b n w low C h a lo D m =
    let new = with_value b w low C in
    let s : Step = record { var = Flow a; low = lo; value = D; rule = Balance; place = n } in
    let parts = step_parts p new s m.holds in
    let move = node_move p new n a lo D parts.rule in
    let at : touches n move.row ≡ true = flow_touches (move.row.from == n) (move.row.to == n) (leaving_step move.node b.scale (flow_lo new.bounds) (flow_hi new.bounds) n p.arcs a lo D) (entering_step move.node b.scale (flow_lo new.bounds) (flow_hi new.bounds) n p.arcs a lo D) move.holds in
    let own = flows_same p b n w low C h a move.row move.row_is at in
    let held : IsTrue (flow_step p b n a lo D move.node move.row) = sym (flow_step_same p b n w low C h a lo D move.node move.row) ∙ move.holds in
    record {
      holds = step_from p b s (record {
        var = parts.var;
        within = subst (λ (z : Ends). IsTrue (may_become lo D z)) own parts.within;
        sign = parts.sign;
        rule = node_from p b n a lo D (record { node = move.node; node_is = move.node_is; row = move.row; row_is = move.row_is; holds = held });
      });
      shrinks = subst (λ (z : Ends). IsTrue (shrinks lo D z)) own m.shrinks;
    }

var_no_move : (p : Network) (b : PartBox) (n : ℕ) (w : Var) (low : Bool) (C : ℤ) → mentions p b.part (AtNode n) w ≡ false → (v : Var) (lo : Bool) (D : ℤ) → IsMove p (with_value b w low C) (record { var = v; low = lo; value = D; rule = Balance; place = n }) → IsMove p b (record { var = v; low = lo; value = D; rule = Balance; place = n })
var_no_move p b n w low C h (Flow a) lo D m = flow_no_move p b n w low C h a lo D m
var_no_move p b n w low C h (Square k) lo D m =
    let parts = step_parts p (with_value b w low C) (record { var = Square k; low = lo; value = D; rule = Balance; place = n }) m.holds in
    absurd (no_square p (with_value b w low C) n k lo D parts.rule)

pub node_no_move : (p : Network) (b : PartBox) (n : ℕ) (w : Var) (low : Bool) (C : ℤ) → mentions p b.part (AtNode n) w ≡ false → ((s : Step) → IsTrue (is_of_law (AtNode n) s.rule s.place) → IsMove p b s → ⊥)
    → (s : Step) → IsTrue (is_of_law (AtNode n) s.rule s.place) → IsMove p (with_value b w low C) s → ⊥
node_no_move p b n w low C h quiet s l m =
    let at = node_is n s.rule s.place l in
    let named : Rule → ℕ → Step = λ (r : Rule) (k : ℕ). record { var = s.var; low = s.low; value = s.value; rule = r; place = k } in
    let m1 : IsMove p (with_value b w low C) (named Balance s.place) = subst (λ (r : Rule). IsMove p (with_value b w low C) (named r s.place)) at.0 m in
    let m2 : IsMove p (with_value b w low C) (named Balance n) = subst (λ (k : ℕ). IsMove p (with_value b w low C) (named Balance k)) at.1 m1 in
    let m3 : IsMove p b (named Balance n) = var_no_move p b n w low C h s.var s.low s.value m2 in
    let m4 : IsMove p b (named Balance s.place) = subst (λ (k : ℕ). IsMove p b (named Balance k)) (sym at.1) m3 in
    quiet s l (subst (λ (r : Rule). IsMove p b (named r s.place)) (sym at.0) m4)

pub node_no_closing : (p : Network) (b : PartBox) (n : ℕ) (w : Var) (low : Bool) (C : ℤ) → mentions p b.part (AtNode n) w ≡ false → ((rule : Rule) (place : ℕ) → IsTrue (is_of_law (AtNode n) rule place) → IsTrue (closing_at p b rule place) → ⊥)
    → (rule : Rule) (place : ℕ) → IsTrue (is_of_law (AtNode n) rule place) → IsTrue (closing_at p (with_value b w low C) rule place) → ⊥
node_no_closing p b n w low C h quiet rule place l t =
    let new = with_value b w low C in
    let at = node_is n rule place l in
    let t1 : IsTrue (closing_at p new Balance place) = subst (λ (r : Rule). IsTrue (closing_at p new r place)) at.0 t in
    let t2 : IsTrue (closing_at p new Balance n) = subst (λ (k : ℕ). IsTrue (closing_at p new Balance k)) at.1 t1 in
    let found = some_is (slice_get p.nodes n) (λ node. balance_closing node b.scale (flow_lo new.bounds) (flow_hi new.bounds) n p.arcs) t2 in
    let lo : SameAt p.arcs n (flow_lo new.bounds) (flow_lo b.bounds) = λ i r e k. ap (λ (z : Ends). z.lo) (flows_same p b n w low C h i r e k) in
    let hi : SameAt p.arcs n (flow_hi new.bounds) (flow_hi b.bounds) = λ i r e k. ap (λ (z : Ends). z.hi) (flows_same p b n w low C h i r e k) in
    let there : IsTrue (balance_closing found.0 b.scale (flow_lo b.bounds) (flow_hi b.bounds) n p.arcs) = sym (closing_same found.0 b.scale (flow_lo new.bounds) (flow_hi new.bounds) (flow_lo b.bounds) (flow_hi b.bounds) n p.arcs lo hi) ∙ found.2 in
    let t3 : IsTrue (closing_at p b Balance n) = some_from (slice_get p.nodes n) (λ node. balance_closing node b.scale (flow_lo b.bounds) (flow_hi b.bounds) n p.arcs) found.0 found.1 there in
    let t4 : IsTrue (closing_at p b Balance place) = subst (λ (k : ℕ). IsTrue (closing_at p b Balance k)) (sym at.1) t3 in
    quiet rule place l (subst (λ (r : Rule). IsTrue (closing_at p b r place)) (sym at.0) t4)
