-- A box has one probe.
use Rattle.std.proofs.Common.{◌≡◌, ◌≢◌, ℕ, zero, suc, ◌<◌, ◌≤◌, ◌⊎◌, inl, inr, refl, sym, ap, ◌∙◌, subst, arith, Bool, true, false, IsTrue, List, length, get_or, ℤ, pos, ◌+ℤ◌, ◌*ℤ◌, ◌≤ℤ◌, ◌<ℤ◌}
use Rattle.std.proofs.lemmas.Bool.{cases_eq, cases_lt}
use Rattle.std.proofs.lemmas.List.{ext_get_or, get_or_past, length-map}
use Rattle.integer_laws.proofs.Ring.{linear, mul_comm, lt_of_mul_left}
use Rattle.gas_units.specs.Rounds.{IsFloor, IsCeiling}
use Rattle.base_types.specs.declared.states.ArcState.{ArcState}
use Rattle.base_types.specs.declared.states.ArcState.TheVariants.{Opened}
use Rattle.gas_model.specs.declared.rows.Ends.{Ends}
use Rattle.gas_model.specs.declared.rows.PartState.{PartState}
use Rattle.gas_model.specs.declared.rows.Setting.{Setting}
use Rattle.gas_model.specs.Boxes.{no_ends}
use Rattle.gas_model.specs.BoxLimits.{IsScale}
use Rattle.gas_model.specs.Near.{number_at as at}
use Rattle.gas_model.specs.Rows.{Network}
use Rattle.gas_model.specs.Within.{IsWithin}
use Rattle.gas_model.proofs.LimitFacts.{scale_from}
use Rattle.topo.specs.Graphs.{graph_of, IsTreeArc}
use Rattle.topo.specs.States.{is_there}
use Rattle.topo.specs.Walks.{Step, step_at, far_of}
use Rattle.topo.specs.Shapes.{Layout, IsShapeOf}
use Rattle.topo.proofs.OnlyOne.{one_shape}
use Rattle.box_ends.specs.Middle.{middle}
use Rattle.probe_point.specs.Probes.{box_at, HasTreeFlows}
use Rattle.probe_point.specs.Squares.{HasSquares}
use Rattle.probe_point.specs.Hulls.{IsHull, AreHulls}
use Rattle.probe_point.specs.Chosen.{with_picks, all_chosen, AreChosen}
use Rattle.probe_point.specs.Points.{middle_supplies, AreProbeFlows, AreProbeSquares}
use Rattle.probe_point.specs.OneProbe.{OneProbe}
use Rattle.probe_point.proofs.HullFacts.{next}
use Rattle.probe_point.proofs.ShapeFacts.{walk_in_order, walked_arc, walked_node, ends_within}
use Rattle.probe_point.proofs.ChoiceFacts.{away_shut}
use Rattle.probe_point.proofs.Unique.{one_tree_flow, one_square}

-- ---- hulls
below : (K x y : ℤ) → IsScale K → (x *ℤ K) <ℤ (y *ℤ K +ℤ K) → x <ℤ (y +ℤ pos 1)
below K x y k h =
    let one = scale_from K k in
    let over : pos 0 ≤ℤ K = omega (arith, linear, one) in
    let less : (K *ℤ x) <ℤ (K *ℤ (y +ℤ pos 1)) = omega (arith, linear, next K y, mul_comm K x, h) in
    lt_of_mul_left K x (y +ℤ pos 1) over less

one_between : (x y : ℤ) → x <ℤ (y +ℤ pos 1) → y <ℤ (x +ℤ pos 1) → x ≡ y
one_between x y a b = omega (arith, linear, a, b)

one_floor : (K n q r : ℤ) → IsScale K → IsFloor n K q → IsFloor n K r → q ≡ r
one_floor K n q r k a b =
    one_between q r (below K q r k (omega (arith, linear, a.at_most, b.greatest))) (below K r q k (omega (arith, linear, b.at_most, a.greatest)))

one_ceiling : (K n q r : ℤ) → IsScale K → IsCeiling n K q → IsCeiling n K r → q ≡ r
one_ceiling K n q r k a b =
    one_between q r (below K q r k (omega (arith, linear, a.least, b.at_least))) (below K r q k (omega (arith, linear, b.least, a.at_least)))

same_ends : (g h : Ends) → g.lo ≡ h.lo → g.hi ≡ h.hi → g ≡ h
same_ends g h lo hi =
    let E : ℤ → ℤ → Ends = λ x y. record { lo = x; hi = y } in
    ap (λ (x : ℤ). E x g.hi) lo ∙ ap (E h.lo) hi

one_hull : (K : ℤ) (e g h : Ends) → IsScale K → IsHull K e g → IsHull K e h → g ≡ h
one_hull K e g h k a b = same_ends g h (one_floor K e.lo g.lo h.lo k a.low b.low) (one_ceiling K e.hi g.hi h.hi k a.high b.high)

one_hulls : (K : ℤ) (ends gs hs : List Ends) → IsScale K → AreHulls K ends gs → AreHulls K ends hs → gs ≡ hs
one_hulls K ends gs hs k a b = ext_get_or no_ends gs hs (a.count ∙ sym b.count) (λ i lt. one_hull K (get_or ends i no_ends) (get_or gs i no_ends) (get_or hs i no_ends) k (a.each i (let c = a.count in omega arith)) (b.each i (let c = a.count in omega arith)))

-- ---- choices
one_choice : (p : Network) (part : PartState) (s t : List ArcState) → AreChosen p part s → AreChosen p part t → s ≡ t
one_choice p part s t a b = ext_get_or Opened s t (a.count ∙ sym b.count) (λ i lt. let long = a.count in a.each i (omega arith) ∙ sym (b.each i (omega arith)))

-- ---- what is a value of f below n, and what isn't
found : (f : ℕ → ℕ) (a n : ℕ) → ((i : ℕ) × (i < n) × (f i ≡ a)) ⊎ ((i : ℕ) → i < n → f i ≢ a)
found f a zero = inr (λ i lt e. omega arith)
found f a (suc n) = elim (cases_eq (f n) a) [
  | inl e ↦ inl (n, omega arith, e)
  | inr e ↦ elim (found f a n) [
    | inl x ↦ inl (x.0, (let lt = x.1 in omega arith), x.2)
    | inr none ↦ inr (λ i lt. elim (cases_eq i n) [ inl same ↦ λ e2. e (ap f (sym same) ∙ e2) | inr other ↦ none i (omega arith) ])
  ]
]

truth : (b : Bool) → IsTrue b ⊎ (b ≡ false)
truth true = inl refl
truth false = inr refl

past_both : (q r : List ℤ) (a n : ℕ) → length q ≡ n → length r ≡ n → n ≤ a → at q a ≡ at r a
past_both q r a n eq er le = get_or_past q a (pos 0) (omega arith) ∙ sym (get_or_past r a (pos 0) (omega arith))

-- ---- flows
module _ (K : ℤ) (p : Network) (part : PartState) (picks : List ℕ) (states : List ArcState) (s : Layout) (ends : List Ends) (chosen : AreChosen p part states) (h : IsShapeOf p (all_chosen picks states) s) where
  tree_walked : (a : ℕ) → a < length p.arcs → IsTrue (is_there p (all_chosen picks states) a) → ((i : ℕ) → i < length s.chords → get_or s.chords i 0 ≢ a) → ((i : ℕ) → i < length s.walk → a ≢ (step_at s.walk i).0) → ⊥
  tree_walked a lt there off_chords off_walk =
      let tree : IsTreeArc (graph_of p.arcs) (is_there p (all_chosen picks states)) a = record {
        is_arc = lt;
        kept = there;
        apart = λ j. let c = h.laid_out.chords.complete a (record { is_arc = lt; kept = there; joined = j }) in off_chords c.0 c.1 c.2;
      } in
      let x = h.laid_out.walked_arcs.complete a tree in
      let here : x.0 < length s.walk = subst (λ (n : ℕ). x.0 < n) (length-map s.walk (λ (e : Step). e.0)) x.1 in
      off_walk x.0 here (sym x.2 ∙ walked_arc p (all_chosen picks states) s h x.0 here)

  off_walk_same : (hulls : List Ends) (q r : List ℤ) → (a : AreProbeFlows K p states s ends q) (b : AreProbeFlows K p states s ends r) → a.hulls ≡ b.hulls → (n : ℕ) → ((i : ℕ) → i < length s.walk → n ≢ (step_at s.walk i).0) → at q n ≡ at r n
  off_walk_same hulls q r a b same n off = elim (cases_lt n (length p.arcs)) [
    | inr ge ↦ past_both q r n (length p.arcs) a.count b.count ge
    | inl lt ↦ elim (found (λ i. get_or s.chords i 0) n (length s.chords)) [
      | inl x ↦ subst (λ (m : ℕ). at q m ≡ at r m) x.2 (a.chords x.0 x.1 ∙ ap (λ (hs : List Ends). middle (box_at hs (get_or s.chords x.0 0))) same ∙ sym (b.chords x.0 x.1))
      | inr off_chords ↦ elim (truth (is_there p (all_chosen picks states) n)) [
        | inl there ↦ absurd (tree_walked n lt there off_chords off)
        | inr away ↦ let shut = away_shut p part picks states n chosen lt away in a.shut n lt shut ∙ sym (b.shut n lt shut)
      ]
    ]
  ]

  one_flows : (q r : List ℤ) → IsScale K → AreProbeFlows K p states s ends q → AreProbeFlows K p states s ends r → q ≡ r
  one_flows q r k a b =
      let same : a.hulls ≡ b.hulls = one_hulls K ends a.hulls b.hulls k a.are_hulls b.are_hulls in
      let supply : ℕ → ℤ = at (middle_supplies p.nodes) in
      let tree : HasTreeFlows p.arcs (box_at a.hulls) supply s.walk (at r) = subst (λ (hs : List Ends). HasTreeFlows p.arcs (box_at hs) supply s.walk (at r)) (sym same) b.tree in
      ext_get_or (pos 0) q r (a.count ∙ sym b.count)
      (λ i lt. one_tree_flow p.arcs (box_at a.hulls) supply s.walk (at q) (at r) (walk_in_order p (all_chosen picks states) s h) a.tree tree (off_walk_same a.hulls q r a b same) i)

  -- ---- squares
  other_walked : (v : ℕ) → v < length p.nodes → ((i : ℕ) → i < length s.roots → get_or s.roots i 0 ≢ v) → ((i : ℕ) → i < length s.walk → far_of (graph_of p.arcs) (step_at s.walk i) ≡ v → ⊥) → ⊥
  other_walked v lt off_roots off_walk =
      let x = h.laid_out.walked_nodes.complete v (record { is_node = lt; other = λ r. let o = h.laid_out.roots.complete v (record { is_node = lt; root = r }) in off_roots o.0 o.1 o.2 }) in
      let here : x.0 < length s.walk = subst (λ (n : ℕ). x.0 < n) (length-map s.walk (far_of (graph_of p.arcs))) x.1 in
      off_walk x.0 here (sym (walked_node p (all_chosen picks states) s h x.0 here) ∙ x.2)

  one_squares : (q x y : List ℤ) → IsScale K → IsWithin p → AreProbeSquares K p states s ends q x → AreProbeSquares K p states s ends q y → x ≡ y
  one_squares q x y k w a b =
      let same : a.hulls ≡ b.hulls = one_hulls K ends a.hulls b.hulls k a.are_hulls b.are_hulls in
      let others : HasSquares p.arcs states (box_at a.hulls) (at q) s.walk (at y) = subst (λ (hs : List Ends). HasSquares p.arcs states (box_at hs) (at q) s.walk (at y)) (sym same) b.others in
      let near : (v : ℕ) → ((i : ℕ) → i < length s.walk → far_of (graph_of p.arcs) (step_at s.walk i) ≡ v → ⊥) → at x v ≡ at y v = λ v off. elim (cases_lt v (length p.nodes)) [
        | inr ge ↦ past_both x y v (length p.nodes) a.count b.count ge
        | inl lt ↦ elim (found (λ i. get_or s.roots i 0) v (length s.roots)) [
          | inl o ↦ subst (λ (m : ℕ). at x m ≡ at y m) o.2 (a.roots o.0 o.1 ∙ ap (λ (hs : List Ends). middle (box_at hs (get_or s.roots o.0 0))) same ∙ sym (b.roots o.0 o.1))
          | inr off_roots ↦ absurd (other_walked v lt off_roots off)
        ]
      ] in
      ext_get_or (pos 0) x y (a.count ∙ sym b.count)
      (λ i lt. one_square p.arcs states (box_at a.hulls) (at q) s.walk (at x) (at y) (length p.nodes) (ends_within p w) (walk_in_order p (all_chosen picks states) s h) a.others others near i)

-- ---- the setting
same_setting : (s t : Setting) → s.picks ≡ t.picks → s.states ≡ t.states → s.flows ≡ t.flows → s.squares ≡ t.squares → s ≡ t
same_setting s t picks states flows squares =
    let S : List ℕ → List ArcState → List ℤ → List ℤ → Setting = λ a b c d. record { picks = a; states = b; flows = c; squares = d } in
    ap (λ (a : List ℕ). S a s.states s.flows s.squares) picks ∙ ap (λ (b : List ArcState). S t.picks b s.flows s.squares) states
    ∙ ap (λ (c : List ℤ). S t.picks t.states c s.squares) flows ∙ ap (S t.picks t.states t.flows) squares

pub one_probe : OneProbe
one_probe K p part b s t k w x y =
    let ep : t.picks ≡ s.picks = y.picks ∙ sym x.picks in
    let chosen : AreChosen p (with_picks s.picks part) t.states = subst (λ (a : List ℕ). AreChosen p (with_picks a part) t.states) ep y.states in
    let es : t.states ≡ s.states = one_choice p (with_picks s.picks part) t.states s.states chosen x.states in
    let shaped : IsShapeOf p (all_chosen s.picks s.states) y.shape =
    subst (λ (c : List ArcState). IsShapeOf p (all_chosen s.picks c) y.shape) es (subst (λ (a : List ℕ). IsShapeOf p (all_chosen a t.states) y.shape) ep y.is_shape) in
    let eh : y.shape ≡ x.shape = one_shape p (all_chosen s.picks s.states) y.shape x.shape shaped x.is_shape in
    let flows : AreProbeFlows K p s.states x.shape b.flows t.flows =
    subst (λ (l : Layout). AreProbeFlows K p s.states l b.flows t.flows) eh (subst (λ (c : List ArcState). AreProbeFlows K p c y.shape b.flows t.flows) es y.flows) in
    let ef : t.flows ≡ s.flows = one_flows K p (with_picks s.picks part) s.picks s.states x.shape b.flows x.states x.is_shape t.flows s.flows k flows x.flows in
    let squares : AreProbeSquares K p s.states x.shape b.squares s.flows t.squares =
    subst (λ (q : List ℤ). AreProbeSquares K p s.states x.shape b.squares q t.squares) ef
    (subst (λ (l : Layout). AreProbeSquares K p s.states l b.squares t.flows t.squares) eh (subst (λ (c : List ArcState). AreProbeSquares K p c y.shape b.squares t.flows t.squares) es y.squares)) in
    let eq : t.squares ≡ s.squares = one_squares K p (with_picks s.picks part) s.picks s.states x.shape b.squares x.states x.is_shape s.flows t.squares s.squares k w squares x.squares in
    same_setting s t (sym ep) (sym es) (sym ef) (sym eq)
