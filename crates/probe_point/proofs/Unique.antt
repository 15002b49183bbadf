-- One setting meets the equations.
use Rattle.std.proofs.Common.{◌≡◌, ◌≢◌, ℕ, zero, suc, ◌<◌, ◌≤◌, ◌+◌, ◌⊎◌, inl, inr, sym, ap, ◌∙◌, arith, Bool, true, false, IsTrue, subst, List, length, ℤ, pos, ◌-ℤ◌}
use Rattle.std.specs.Prelude.{unsigned_abs}
use Rattle.std.proofs.lemmas.Bool.{cases_eq}
use Rattle.std.proofs.lemmas.Bool.Decides.{nat_tests}
use Rattle.gas_units.specs.Rounds.{IsRootDown}
use Rattle.gas_model.specs.declared.rows.ArcRow.{ArcRow}
use Rattle.base_types.specs.declared.states.ArcState.{ArcState}
use Rattle.gas_model.specs.declared.rows.Ends.{Ends}
use Rattle.gas_model.specs.declared.law_forms.LawForm.{LawForm}
use Rattle.gas_model.specs.declared.law_forms.LawForm.TheVariants.{Drags, Equals, Shuts, Loses, Reduces, Raises, Never}
use Rattle.topo.specs.Graphs.{Graph, graph_of, is_at}
use Rattle.topo.specs.Walks.{far, Step, step_at, InOrder}
use Rattle.probe_point.specs.Probes.{nearest, but, taking_up, HasTreeFlows, AreGraphEnds}
use Rattle.probe_point.specs.Squares.{IsGiven, IsFarSquare, HasSquares, lossy}
use Rattle.probe_point.specs.OneProbe.{OneTreeFlow, OneSquare}
use Rattle.probe_point.proofs.Nets.{net_is}
use Rattle.probe_point.proofs.Settled.{far_of, balanced, balanced_same}

abbrev pub Balances : Graph → (ℕ → Ends) → (ℕ → ℤ) → List Step → (ℕ → ℤ) → Type 0
Balances g box supply walk q = (i : ℕ) → i < length walk → q (step_at walk i).0 ≡ nearest (box (step_at walk i).0) (balanced g (supply (far_of g walk i)) q (step_at walk i).0 (far_of g walk i))

balances_in : (arcs : List ArcRow) (box : ℕ → Ends) (supply : ℕ → ℤ) (walk : List Step) (q : ℕ → ℤ) → HasTreeFlows arcs box supply walk q → Balances (graph_of arcs) box supply walk q
balances_in arcs box supply walk q f i h = f i h ∙ ap (λ (x : ℤ). nearest (box (step_at walk i).0) (taking_up (graph_of arcs) (step_at walk i).0 (far_of (graph_of arcs) walk i) (supply (far_of (graph_of arcs) walk i) -ℤ x))) (net_is arcs (but (step_at walk i).0 q) (far_of (graph_of arcs) walk i))

-- whether an arc is in the walk from the step i on
in_walk : (walk : List Step) (b i : ℕ) → ((j : ℕ) × (j < i) × ((step_at walk j).0 ≡ b)) ⊎ ((j : ℕ) → j < i → (step_at walk j).0 ≢ b)
in_walk walk b zero = inr (λ j h e. omega arith)
in_walk walk b (suc i) = elim (cases_eq (step_at walk i).0 b) [
  | inl e ↦ inl (i, omega arith, e)
  | inr e ↦ elim (in_walk walk b i) [
    | inl p ↦ inl (p.0, (let h = p.1 in omega arith), p.2)
    | inr f ↦ inr (λ j h. elim (cases_eq j i) [ inl e1 ↦ λ e2. e (ap (λ (k : ℕ). (step_at walk k).0) (sym e1) ∙ e2) | inr e1 ↦ f j (omega arith) ])
  ]
]

order : (j i : ℕ) → (j < i) ⊎ (i ≤ j)
order j i = grind arith

clash : (b : Bool) → b ≡ true → b ≡ false → ⊥
clash b e f = cc

-- the flows of the steps from `length walk - n` on are the same
flows_from : (g : Graph) (box : ℕ → Ends) (supply : ℕ → ℤ) (walk : List Step) (q r : ℕ → ℤ) → InOrder g walk → Balances g box supply walk q → Balances g box supply walk r → ((a : ℕ) → ((i : ℕ) → i < length walk → (step_at walk i).0 ≢ a) → q a ≡ r a) → (n i : ℕ) → i < length walk → length walk ≤ i + n → q (step_at walk i).0 ≡ r (step_at walk i).0
flows_from g box supply walk q r o hq hr rest zero i hi hn = absurd (omega arith)
flows_from g box supply walk q r o hq hr rest (suc n) i hi hn =
    let others : (b : ℕ) → b ≢ (step_at walk i).0 → is_at g (far_of g walk i) b ≡ true → q b ≡ r b = λ b ne t. elim (in_walk walk b (length walk)) [
      | inl p ↦ elim (order p.0 i) [
        | inl lt ↦ absurd (clash _ (subst (λ (k : ℕ). is_at g (far_of g walk i) k ≡ true) (sym p.2) t) (o.onward p.0 i lt hi))
        | inr ge ↦ elim (cases_eq p.0 i) [
          | inl e ↦ absurd (ne (sym p.2 ∙ ap (λ (k : ℕ). (step_at walk k).0) e))
          | inr e ↦ subst (λ (k : ℕ). q k ≡ r k) p.2 (flows_from g box supply walk q r o hq hr rest n p.0 p.1 (omega arith))
        ]
      ]
      | inr f ↦ rest b f
    ] in
    hq i hi ∙ ap (nearest (box (step_at walk i).0)) (balanced_same g (supply (far_of g walk i)) q r (step_at walk i).0 (far_of g walk i) others) ∙ sym (hr i hi)

-- flows that agree off the walk are the same
one_flow : (g : Graph) (box : ℕ → Ends) (supply : ℕ → ℤ) (walk : List Step) (q r : ℕ → ℤ) → InOrder g walk → Balances g box supply walk q → Balances g box supply walk r → ((a : ℕ) → ((i : ℕ) → i < length walk → (step_at walk i).0 ≢ a) → q a ≡ r a) → (a : ℕ) → q a ≡ r a
one_flow g box supply walk q r o hq hr rest a = elim (in_walk walk a (length walk)) [
  | inl p ↦ subst (λ (k : ℕ). q k ≡ r k) p.2 (flows_from g box supply walk q r o hq hr rest (length walk) p.0 p.1 (omega arith))
  | inr f ↦ rest a f
]

pub one_tree_flow : OneTreeFlow
one_tree_flow arcs box supply walk q r o hq hr rest a = one_flow (graph_of arcs) box supply walk q r o (balances_in arcs box supply walk q hq) (balances_in arcs box supply walk r hr) (λ b f. rest b (λ i h e. f i h (sym e))) a

one_root : (n r s : ℕ) → IsRootDown n r → IsRootDown n s → r ≡ s
one_root n r s a b = let h = b.greatest r a.at_most in let k = a.greatest s b.at_most in omega arith

-- one square is given
one_given : (form : LawForm) (at_from : Bool) (e : Ends) (q x y z : ℤ) → IsGiven form at_from e q x y → IsGiven form at_from e q x z → y ≡ z
one_given (Drags law) at_from e q x y z a b = a ∙ sym b
one_given (Loses low high) at_from e q x y z a b = a.2 ∙ ap (λ (r : ℕ). lossy low at_from q (pos r) x) (one_root (unsigned_abs x) a.0 b.0 a.1 b.1) ∙ sym b.2
one_given (Reduces in_min out_max red_min red_max) at_from e q x y z a b = a ∙ sym b
one_given (Raises in_min out_max ratio_num ratio_den rise_max) at_from e q x y z a b = a ∙ sym b
one_given Equals at_from e q x y z a b = a ∙ sym b
one_given Shuts at_from e q x y z a b = a ∙ sym b
one_given Never at_from e q x y z a b = a ∙ sym b

one_far : (form : LawForm) (at_from : Bool) (e : Ends) (q x w y z : ℤ) → x ≡ w → IsFarSquare form at_from e q x y → IsFarSquare form at_from e q w z → y ≡ z
one_far form at_from e q x w y z same a b =
    let moved = subst (λ (v : ℤ). IsFarSquare form at_from e q v z) (sym same) b in
    a.2 ∙ ap (nearest e) (one_given form at_from e q x a.0 moved.0 a.1 moved.1) ∙ sym moved.2

-- whether a node is the far end of one of the first i steps
far_in : (g : Graph) (walk : List Step) (v i : ℕ) → ((k : ℕ) × (k < i) × (far_of g walk k ≡ v)) ⊎ ((k : ℕ) → k < i → far_of g walk k ≢ v)
far_in g walk v zero = inr (λ k h e. omega arith)
far_in g walk v (suc i) = elim (cases_eq (far_of g walk i) v) [
  | inl e ↦ inl (i, omega arith, e)
  | inr e ↦ elim (far_in g walk v i) [
    | inl p ↦ inl (p.0, (let h = p.1 in omega arith), p.2)
    | inr f ↦ inr (λ k h. elim (cases_eq k i) [ inl e1 ↦ λ e2. e (ap (far_of g walk) (sym e1) ∙ e2) | inr e1 ↦ f k (omega arith) ])
  ]
]

not_near : (g : Graph) (a n : ℕ) → g.from a ≢ g.to a → IsTrue (is_at g n a) → n ≢ far g a n
not_near g a n ne h = grind (arith, nat_tests)

module _ (arcs : List ArcRow) (states : List ArcState) (box : ℕ → Ends) (q : ℕ → ℤ) (walk : List Step) (s t : ℕ → ℤ) (nodes : ℕ) (ends : AreGraphEnds arcs nodes) (o : InOrder (graph_of arcs) walk) (hs : HasSquares arcs states box q walk s) (ht : HasSquares arcs states box q walk t) (rest : (v : ℕ) → ((i : ℕ) → i < length walk → far_of (graph_of arcs) walk i ≢ v) → s v ≡ t v) where
  -- a near end that is a far end is that of an earlier step
  earlier : (i k : ℕ) → i < length walk → k < length walk → far_of (graph_of arcs) walk k ≡ (step_at walk i).1 → k < i
  earlier i k hi hk e = elim (order k i) [
    | inl lt ↦ lt
    | inr ge ↦ elim (cases_eq k i) [
      | inl e1 ↦ absurd (not_near (graph_of arcs) (step_at walk i).0 (step_at walk i).1 (ends.apart (step_at walk i).0 (o.arc i hi)) (o.near i hi) (sym e ∙ ap (far_of (graph_of arcs) walk) e1))
      | inr e1 ↦ absurd (clash _ (subst (λ (v : ℕ). is_at (graph_of arcs) v (step_at walk i).0 ≡ true) (sym e) (o.near i hi)) (o.onward i k (omega arith) hk))
    ]
  ]

  squares_to : (n i : ℕ) → i < n → i < length walk → s (far_of (graph_of arcs) walk i) ≡ t (far_of (graph_of arcs) walk i)
  squares_to zero i h hi = absurd (omega arith)
  squares_to (suc n) i h hi =
      let near : s (step_at walk i).1 ≡ t (step_at walk i).1 = elim (far_in (graph_of arcs) walk (step_at walk i).1 (length walk)) [
        | inl p ↦ subst (λ (v : ℕ). s v ≡ t v) p.2 (squares_to n p.0 (let lt = earlier i p.0 hi p.1 p.2 in omega arith) p.1)
        | inr f ↦ rest (step_at walk i).1 f
      ] in
      one_far _ _ (box (far_of (graph_of arcs) walk i)) (q (step_at walk i).0) (s (step_at walk i).1) (t (step_at walk i).1) (s (far_of (graph_of arcs) walk i)) (t (far_of (graph_of arcs) walk i)) near (hs i hi) (ht i hi)

  all_squares : (v : ℕ) → s v ≡ t v
  all_squares v = elim (far_in (graph_of arcs) walk v (length walk)) [
    | inl p ↦ subst (λ (n : ℕ). s n ≡ t n) p.2 (squares_to (length walk) p.0 p.1 p.1)
    | inr f ↦ rest v f
  ]

pub one_square : OneSquare
one_square arcs states box q walk s t nodes ends o hs ht rest v = all_squares arcs states box q walk s t nodes ends o hs ht rest v
