-- There are flows of chords and of tree arcs.
use Rattle.std.proofs.Common.{◌≡◌, ◌≢◌, ℕ, zero, suc, ◌<◌, ◌≤◌, ◌-◌, ◌==◌, refl, sym, ap, ◌∙◌, subst, inl, inr, arith, cond, Bool, true, false, IsTrue, List, length, get_or, ℤ, pos, ◌-ℤ◌}
use Rattle.std.proofs.lemmas.Bool.{cases_eq}
use Rattle.std.proofs.lemmas.Bool.Decides.{eqb_tells}
use Rattle.gas_model.specs.declared.rows.ArcRow.{ArcRow}
use Rattle.gas_model.specs.declared.rows.Ends.{Ends}
use Rattle.gas_model.specs.Points.{net_flow}
use Rattle.topo.specs.Graphs.{Graph, graph_of, is_at}
use Rattle.topo.specs.Walks.{Step, step_at, far_of, InOrder}
use Rattle.probe_point.specs.Probes.{nearest, but, balancing, taking_up, HasTreeFlows}
use Rattle.probe_point.proofs.Laid.{far_at}
use Rattle.probe_point.proofs.Nets.{net, net_is, net_same}
use Rattle.probe_point.proofs.Tables.{put, put_here, put_there}

-- what leaves a node looks at its arcs alone
flow_same : (arcs : List ArcRow) (q r : ℕ → ℤ) (v : ℕ) → ((a : ℕ) → a < length arcs → is_at (graph_of arcs) v a ≡ true → q a ≡ r a) → net_flow q v arcs ≡ net_flow r v arcs
flow_same arcs q r v h = net_is arcs q v ∙ net_same (graph_of arcs) q r v (length arcs) h ∙ sym (net_is arcs r v)

but_same : (a i : ℕ) (q r : ℕ → ℤ) → (i ≢ a → q i ≡ r i) → but a q i ≡ but a r i
but_same a i q r h = elim (eqb_tells i a) [
  | inl y ↦ ap (λ b. cond b (pos 0) (q i)) y.0 ∙ sym (ap (λ b. cond b (pos 0) (r i)) y.0)
  | inr n ↦ ap (λ b. cond b (pos 0) (q i)) n.0 ∙ h n.1 ∙ sym (ap (λ b. cond b (pos 0) (r i)) n.0)
]

pub balancing_same : (arcs : List ArcRow) (supply : ℤ) (q r : ℕ → ℤ) (a v : ℕ) → ((i : ℕ) → i < length arcs → is_at (graph_of arcs) v i ≡ true → i ≢ a → q i ≡ r i) → balancing arcs supply q a v ≡ balancing arcs supply r a v
balancing_same arcs supply q r a v h =
    ap (λ (z : ℤ). taking_up (graph_of arcs) a v (supply -ℤ z)) (flow_same arcs (but a q) (but a r) v (λ i l at. but_same a i q r (h i l at)))

clash : (b : Bool) → b ≡ true → b ≡ false → ⊥
clash b e f = cc

-- the steps from the place n on have their flows
record Done (arcs : List ArcRow) (box : ℕ → Ends) (supply : ℕ → ℤ) (walk : List Step) (old : ℕ → ℤ) (n : ℕ) : Type 0 where
  flow : ℕ → ℤ
  others : (a : ℕ) → ((i : ℕ) → n ≤ i → i < length walk → a ≢ (step_at walk i).0) → flow a ≡ old a
  tree : (i : ℕ) → n ≤ i → i < length walk
      → flow (step_at walk i).0 ≡ nearest (box (step_at walk i).0) (balancing arcs (supply (far_of (graph_of arcs) (step_at walk i))) flow (step_at walk i).0 (far_of (graph_of arcs) (step_at walk i)))

module _ (arcs : List ArcRow) (box : ℕ → Ends) (supply : ℕ → ℤ) (walk : List Step) (old : ℕ → ℤ) (o : InOrder (graph_of arcs) walk) where
  step_back : (n : ℕ) → n < length walk → Done arcs box supply walk old (suc n) → Done arcs box supply walk old n
  step_back n l d =
      let g : Graph = graph_of arcs in
      let a : ℕ = (step_at walk n).0 in
      let v : ℕ = far_of g (step_at walk n) in
      let x : ℤ = nearest (box a) (balancing arcs (supply v) d.flow a v) in
      let q : ℕ → ℤ = put d.flow a x in
      record {
        flow = q;
        others = λ c off. put_there d.flow a c x (off n (omega arith) l) ∙ d.others c (λ i lo hi. off i (omega arith) hi);
        tree = λ i lo hi. elim (cases_eq i n) [
          | inl same ↦
              let here : q a ≡ nearest (box a) (balancing arcs (supply v) q a v) =
              put_here d.flow a a x refl ∙ ap (nearest (box a)) (balancing_same arcs (supply v) d.flow q a v (λ j inside at apart. sym (put_there d.flow a j x apart))) in
              subst (λ (j : ℕ). q (step_at walk j).0 ≡ nearest (box (step_at walk j).0) (balancing arcs (supply (far_of g (step_at walk j))) q (step_at walk j).0 (far_of g (step_at walk j)))) (sym same) here
          | inr other ↦
              let later : n < i = omega arith in
              let b : ℕ = (step_at walk i).0 in
              let w : ℕ = far_of g (step_at walk i) in
              let away : is_at g w a ≡ false = o.onward n i later hi in
              let off : (j : ℕ) → is_at g w j ≡ true → j ≢ a = λ j at e. clash (is_at g w j) at (ap (is_at g w) e ∙ away) in
              let mine : is_at g w b ≡ true = far_at g b (step_at walk i).1 (o.near i hi) in
              put_there d.flow a b x (off b mine) ∙ d.tree i (omega arith) hi
              ∙ ap (nearest (box b)) (balancing_same arcs (supply w) d.flow q b w (λ j inside at apart. sym (put_there d.flow a j x (off j at))))
        ];
      }

  walked : (k n : ℕ) → n ≤ length walk → length walk - n ≡ k → Done arcs box supply walk old n
  walked zero n l e = record { flow = old; others = λ a f. refl; tree = λ i lo hi. absurd (omega arith) }
  walked (suc k) n l e = step_back n (omega arith) (walked k (suc n) (omega arith) (omega arith))

  pub some_flows : (q : ℕ → ℤ) × HasTreeFlows arcs box supply walk q × ((a : ℕ) → ((i : ℕ) → i < length walk → a ≢ (step_at walk i).0) → q a ≡ old a)
  some_flows =
      let d = walked (length walk) 0 (omega arith) (omega arith) in
      (d.flow, λ i l. d.tree i (omega arith) l, λ a off. d.others a (λ i lo hi. off i hi))
