-- Steps of a node on the flows of its arcs.
use Rattle.std.proofs.Common.{◌≡◌, ◌≢◌, ◌⊎◌, ℕ, ◌+◌, ◌*◌, ◌<◌, ◌≤◌, refl, sym, ap, ◌∙◌, subst, inl, inr, arith, ℤ, ◌-ℤ◌, Bool, true, false, cond, ◌&&◌, ◌==◌, IsTrue, List, length, get_or, Some, eq-eqb}
use Rattle.std.specs.Prelude.{slice_get, ◌||◌}
use Rattle.std.proofs.lemmas.Bool.{cases_lt}
use Rattle.std.proofs.lemmas.Bool.Decides.{eqb_tells}
use Rattle.std.proofs.lemmas.Option.{slice_get_within}
use borrow.Author.Tests.{eqb-true, lt-ltb}
use Rattle.gas_model.specs.declared.rows.ArcRow.{ArcRow}
use Rattle.gas_model.specs.declared.rows.NodeRow.{NodeRow}
use Rattle.gas_model.specs.declared.rows.PartState.{PartState}
use Rattle.gas_model.specs.declared.rows.Ends.{Ends}
use Rattle.base_types.specs.declared.variables.Var.{Var}
use Rattle.base_types.specs.declared.variables.Var.TheVariants.{Flow, Square}
use Rattle.gas_model.specs.Rows.{Network}
use Rattle.gas_model.specs.Boxes.{Bounds, ends_of, may_become}
use Rattle.gas_model.specs.Points.{touches, arcs_at}
use Rattle.tree_cert.specs.declared.line.Rule.{Rule}
use Rattle.tree_cert.specs.declared.line.Rule.TheVariants.{Balance}
use Rattle.tree_cert.specs.declared.line.Step.{Step}
use Rattle.tree_rules.specs.NodeRules.{leaving_step, entering_step}
use Rattle.tree_rules.specs.Looser.{IsTightest}
use Rattle.tree_rules.specs.Rules.{PartBox, flow_lo, flow_hi, flow_step, step_holds}
use Rattle.box_rules.specs.Balance.{leaves_with, enters_with, supply_of, net_low, net_high}
use Rattle.box_rules.proofs.NodeFlows.{leaving_is, entering_is, flow_leaves, flow_enters}
use Rattle.tight_steps.specs.declared.law.Law.TheVariants.{AtNode}
use Rattle.tight_steps.specs.declared.best.NewEnd.{NewEnd}
use Rattle.tight_steps.specs.Best.{shrinks, IsBest, HasNoBest}
use Rattle.tight_steps.specs.NewEnds.{HasNoEnd, IsFirstEnd}
use Rattle.tight_steps.specs.Moves.{is_of_law, is_flow, flow_number, rule_number, part_box, HasNoMove, IsFirstMove, IsMove}
use Rattle.tight_steps.proofs.ArcMoves.{step_parts, step_from}
use Rattle.tight_steps.proofs.OtherNodes.{node_move, node_from, node_is, flow_touches}
use Rattle.box_rules.specs.Balance.{balance_lets}
use Rattle.flow_propagate.proofs.AtNode.{StandsAt, stands_at, earlier}

-- the step of the balance of the node n that gives an end of the flow of the arc a the value C
abbrev pub balance_of : (n a : ℕ) → (low : Bool) → (C : ℤ) → Step
balance_of n a low C = record { var = Flow a; low = low; value = C; rule = Balance; place = n }

-- ---- what the balance lets a flow do
-- the sums at the node n, and the flow of the arc a at it
pub record Sums (p : Network) (K : ℤ) (b : Bounds) (n a : ℕ) (supply net q : Ends) : Type 0 where
  pub node : NodeRow
  pub node_is : slice_get p.nodes n ≡ Some node
  pub row : ArcRow
  pub row_is : slice_get p.arcs a ≡ Some row
  pub touch : touches n row ≡ true
  pub supply_is : supply ≡ supply_of K node
  pub net_lo : net.lo ≡ net_low b n p.arcs
  pub net_hi : net.hi ≡ net_high b n p.arcs
  pub flow_is : q ≡ ends_of b (Flow a)

other_side : (f t : Bool) → (f || t) ≡ true → f ≡ false → t ≡ true
other_side true t h e = absurd cc
other_side false t h e = h

lets_is : (p : Network) (b : PartBox) (n a : ℕ) (supply net q : Ends) (leaves low : Bool) (C : ℤ) → (s : Sums p b.scale b.bounds n a supply net q) → leaves ≡ (s.row.from == n) → flow_step p b n a low C s.node s.row ≡ balance_lets leaves supply net q low C
lets_is p b n a supply net q leaves low C s e =
    elim (eqb_tells s.row.from n) [
      | inl y ↦
          let l : leaves ≡ true = e ∙ y.0 in
          sym (flow_leaves p b n a low C s.node s.row y.1) ∙ sym (leaving_is s.node b.scale supply net q (flow_lo b.bounds) (flow_hi b.bounds) n p.arcs a s.row low C s.row_is y.1 s.supply_is s.net_lo s.net_hi (ap (λ (z : Ends). z.lo) s.flow_is) (ap (λ (z : Ends). z.hi) s.flow_is))
          ∙ ap (λ (x : Bool). cond x (leaves_with supply net q low C) (enters_with supply net q low C)) (sym l)
      | inr m ↦
          let l : leaves ≡ false = e ∙ m.0 in
          let to : s.row.to ≡ n = eqb-true s.row.to n (other_side (s.row.from == n) (s.row.to == n) s.touch m.0) in
          sym (flow_enters p b n a low C s.node s.row m.1 to) ∙ sym (entering_is s.node b.scale supply net q (flow_lo b.bounds) (flow_hi b.bounds) n p.arcs a s.row low C s.row_is to s.supply_is s.net_lo s.net_hi (ap (λ (z : Ends). z.lo) s.flow_is) (ap (λ (z : Ends). z.hi) s.flow_is))
          ∙ ap (λ (x : Bool). cond x (leaves_with supply net q low C) (enters_with supply net q low C)) (sym l)
    ]

-- ---- steps
-- a step on the flow of an arc at the node, as its rooms tell
moved : (p : Network) (b : PartBox) (n a : ℕ) (supply net q : Ends) (leaves low : Bool) (C : ℤ) → (s : Sums p b.scale b.bounds n a supply net q) → leaves ≡ (s.row.from == n) → IsTrue (step_holds p b (balance_of n a low C))
    → IsTrue (may_become low C q) × IsTrue (balance_lets leaves supply net q low C)
moved p b n a supply net q leaves low C s e t =
    let parts = step_parts p b (balance_of n a low C) t in
    let m = node_move p b n a low C parts.rule in
    let rows : m.row ≡ s.row = cc (m.row_is, s.row_is) in
    let nodes : m.node ≡ s.node = cc (m.node_is, s.node_is) in
    let h1 : IsTrue (flow_step p b n a low C s.node m.row) = subst (λ (z : NodeRow). IsTrue (flow_step p b n a low C z m.row)) nodes m.holds in
    let h2 : IsTrue (flow_step p b n a low C s.node s.row) = subst (λ (z : ArcRow). IsTrue (flow_step p b n a low C s.node z)) rows h1 in
    (subst (λ (z : Ends). IsTrue (may_become low C z)) (sym s.flow_is) parts.within, sym (lets_is p b n a supply net q leaves low C s e) ∙ h2)

pub no_flow : (p : Network) (b : PartBox) (n a : ℕ) (supply net q : Ends) (leaves low : Bool) (C : ℤ) → (s : Sums p b.scale b.bounds n a supply net q) → leaves ≡ (s.row.from == n) → HasNoBest low q (balance_lets leaves supply net q low) → IsMove p b (balance_of n a low C) → ⊥
no_flow p b n a supply net q leaves low C s e none m =
    let x = moved p b n a supply net q leaves low C s e m.holds in
    none.none C x.0 x.1 (subst (λ (z : Ends). IsTrue (shrinks low C z)) (sym s.flow_is) m.shrinks)

pub tight_flow : (p : Network) (b : PartBox) (n a : ℕ) (supply net q : Ends) (leaves low : Bool) (C : ℤ) → (s : Sums p b.scale b.bounds n a supply net q) → leaves ≡ (s.row.from == n) → IsBest low q (balance_lets leaves supply net q low) C
    → IsTightest p b (balance_of n a low C) × IsTrue (shrinks low C (ends_of b.bounds (Flow a)))
tight_flow p b n a supply net q leaves low C s e best =
    let held : IsTrue (flow_step p b n a low C s.node s.row) = lets_is p b n a supply net q leaves low C s e ∙ best.allowed in (
      record {
        holds = step_from p b (balance_of n a low C) (record {
          var = lt-ltb a (length p.arcs) (slice_get_within p.arcs a s.row s.row_is);
          within = subst (λ (z : Ends). IsTrue (may_become low C z)) s.flow_is best.within;
          sign = refl;
          rule = node_from p b n a low C (record { node = s.node; node_is = s.node_is; row = s.row; row_is = s.row_is; holds = held });
        });
        tightest = λ B d. let x = moved p b n a supply net q leaves low B s e d in best.tightest B x.0 x.1;
      },
      subst (λ (z : Ends). IsTrue (shrinks low C z)) s.flow_is best.shrinks,
    )

-- ---- the loop over the arcs at the node
-- none of the first k arcs has a step
pub record NoneBefore (p : Network) (K : ℤ) (b : Bounds) (n : ℕ) (at : List ℕ) (k : ℕ) : Type 0 where
  pub none : (part : PartState) (j : ℕ) → j < k → (low : Bool) (C : ℤ) → IsMove p (part_box K part b) (balance_of n (get_or at j 0) low C) → ⊥

pub none_yet : (p : Network) (K : ℤ) (b : Bounds) (n : ℕ) (at : List ℕ) → NoneBefore p K b n at 0
none_yet p K b n at = record { none = λ part j l low C m. absurd (omega arith) }

pub one_more : (p : Network) (K : ℤ) (b : Bounds) (n : ℕ) (at : List ℕ) (k : ℕ) (supply net q : Ends) (leaves : Bool) → NoneBefore p K b n at k → (s : Sums p K b n (get_or at k 0) supply net q) → leaves ≡ (s.row.from == n) → HasNoEnd q (balance_lets leaves supply net q) → NoneBefore p K b n at (k + 1)
one_more p K b n at k supply net q leaves h s e none = record {
  none = λ part j l low C m.
      elim (eqb_tells j k) [
        | inl same ↦
            let here : IsMove p (part_box K part b) (balance_of n (get_or at k 0) low C) = subst (λ (i : ℕ). IsMove p (part_box K part b) (balance_of n (get_or at i 0) low C)) same.1 m in
            no_flow p (part_box K part b) n (get_or at k 0) supply net q leaves low C s e (none.none low) here
        | inr apart ↦ h.none part j (omega (arith, apart.1)) low C m
      ];
}

-- a step of the node is on the flow of an arc at it
pub record FlowOf (p : Network) (n : ℕ) (at : List ℕ) (b : PartBox) (s : Step) : Type 0 where
  pub j : ℕ
  pub within : j < length at
  pub number : get_or at j 0 ≡ flow_number s.var
  pub move : IsMove p b (balance_of n (get_or at j 0) s.low s.value)
  pub first_rule : rule_number s.rule ≡ 0

flow_found : (p : Network) (b : PartBox) (n i : ℕ) (low : Bool) (C : ℤ) (at : List ℕ) → at ≡ arcs_at p.arcs n → IsMove p b (balance_of n i low C) → StandsAt at i
flow_found p b n i low C at same m =
    let parts = step_parts p b (balance_of n i low C) m.holds in
    let x = node_move p b n i low C parts.rule in
    let touch : touches n x.row ≡ true = flow_touches (x.row.from == n) (x.row.to == n) (leaving_step x.node b.scale (flow_lo b.bounds) (flow_hi b.bounds) n p.arcs i low C) (entering_step x.node b.scale (flow_lo b.bounds) (flow_hi b.bounds) n p.arcs i low C) x.holds in
    stands_at p.arcs n i x.row at same x.row_is touch

pub flow_of : (p : Network) (b : PartBox) (n : ℕ) (at : List ℕ) (s : Step) → at ≡ arcs_at p.arcs n → IsTrue (is_of_law (AtNode n) s.rule s.place) → IsTrue (is_flow s.var) → IsMove p b s → FlowOf p n at b s
flow_of p b n at s same l k m =
    let at_node = node_is n s.rule s.place l in
    by s.var at_node.0 at_node.1 k m
  where
    by : (v : Var) → s.rule ≡ Balance → s.place ≡ n → IsTrue (is_flow v) → IsMove p b (record { var = v; low = s.low; value = s.value; rule = s.rule; place = s.place }) → FlowOf p n at b (record { var = v; low = s.low; value = s.value; rule = s.rule; place = s.place })
    by (Square i) r e t m = absurd cc
    by (Flow i) r e t m =
        let m1 : IsMove p b (record { var = Flow i; low = s.low; value = s.value; rule = Balance; place = s.place }) = subst (λ (x : Rule). IsMove p b (record { var = Flow i; low = s.low; value = s.value; rule = x; place = s.place })) r m in
        let m2 : IsMove p b (balance_of n i s.low s.value) = subst (λ (x : ℕ). IsMove p b (record { var = Flow i; low = s.low; value = s.value; rule = Balance; place = x })) e m1 in
        let f = flow_found p b n i s.low s.value at same m2 in
        record {
          j = f.k;
          within = f.within;
          number = f.is;
          move = subst (λ (x : ℕ). IsMove p b (balance_of n x s.low s.value)) (sym f.is) m2;
          first_rule = ap rule_number r;
        }

pub none_at_node : (p : Network) (K : ℤ) (b : Bounds) (n : ℕ) (at : List ℕ) (part : PartState) → at ≡ arcs_at p.arcs n → NoneBefore p K b n at (length at) → HasNoMove p (part_box K part b) (AtNode n) is_flow
none_at_node p K b n at part same h = record {
  none = λ s l k m. let f = flow_of p (part_box K part b) n at s same l k m in h.none part f.j f.within s.low s.value f.move;
}

-- of two steps the first is on an earlier flow, or at the lower end of the same
before_by : (n m : Bool) (x y : ℕ) → 28 * x + cond n 0 14 < 28 * y + cond m 0 14 → (x < y) ⊎ ((x ≡ y) × (n ≡ true) × (m ≡ false))
before_by true true x y h = inl (omega arith)
before_by false false x y h = inl (omega arith)
before_by false true x y h = inl (omega arith)
before_by true false x y h = elim (cases_lt x y) [ inl less ↦ inl less | inr more ↦ inr (omega arith, refl, refl) ]

pub first_at_node : (p : Network) (K : ℤ) (b : Bounds) (n : ℕ) (at : List ℕ) (k : ℕ) (supply net q : Ends) (leaves : Bool) (m : NewEnd) (part : PartState) → at ≡ arcs_at p.arcs n → k < length at → NoneBefore p K b n at k
    → (s : Sums p K b n (get_or at k 0) supply net q) → leaves ≡ (s.row.from == n) → IsFirstEnd q (balance_lets leaves supply net q) m
    → IsFirstMove p (part_box K part b) (AtNode n) is_flow flow_number (balance_of n (get_or at k 0) m.low m.value)
first_at_node p K b n at k supply net q leaves m part same w h s e f =
    let box = part_box K part b in
    let t = tight_flow p box n (get_or at k 0) supply net q leaves m.low m.value s e f.best in
    record {
      of_law = eq-eqb n n refl;
      of_kind = refl;
      shrinks = t.1;
      tightest = t.0;
      first = λ step l kind before move.
          let x = flow_of p box n at step same l kind move in
          let order : 28 * flow_number step.var + cond step.low 0 14 + rule_number step.rule < 28 * get_or at k 0 + cond m.low 0 14 + 0 = before in
          elim (before_by step.low m.low (get_or at x.j 0) (get_or at k 0) (omega (arith, order, x.number, x.first_rule))) [
            | inl less ↦ h.none part x.j (earlier p.arcs n x.j k at same x.within less) step.low step.value x.move
            | inr here ↦
                let there : IsMove p box (balance_of n (get_or at k 0) true step.value) = subst (λ (lo : Bool). IsMove p box (balance_of n (get_or at k 0) lo step.value)) here.1 (subst (λ (a : ℕ). IsMove p box (balance_of n a step.low step.value)) here.0 x.move) in
                no_flow p box n (get_or at k 0) supply net q leaves true step.value s e (f.first here.2) there
          ];
    }
