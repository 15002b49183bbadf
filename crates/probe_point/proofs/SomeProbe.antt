-- A box has a probe, whatever its ends are.
use Rattle.std.proofs.Common.{◌≡◌, ◌≢◌, ℕ, ◌<◌, ◌≤◌, ◌==◌, refl, sym, ap, ◌∙◌, subst, inl, inr, arith, Bool, true, IsTrue, List, length, get_or, ℤ, pos, neg_ℤ, ◌≤ℤ◌}
use Rattle.std.specs.Prelude.{slice_index_or}
use Rattle.std.specs.Int.{int_div_euclid, int_rem_euclid}
use Rattle.std.proofs.lemmas.Bool.{cases_lt}
use Rattle.std.proofs.lemmas.Bool.Decides.{nat_tests}
use Rattle.std.proofs.lemmas.List.{get_or_past}
use Rattle.integer_laws.proofs.Ring.{linear, neg_mul}
use Rattle.gas_units.specs.Rounds.{IsFloor, IsCeiling}
use Rattle.gas_units.proofs.Quotients.{euclid_divides, floor_is}
use Rattle.gas_model.specs.declared.rows.ArcRow.{ArcRow}
use Rattle.base_types.specs.declared.states.ArcState.{ArcState}
use Rattle.base_types.specs.declared.states.ArcState.TheVariants.{Opened}
use Rattle.gas_model.specs.declared.rows.Ends.{Ends}
use Rattle.gas_model.specs.declared.rows.PartState.{PartState}
use Rattle.gas_model.specs.Boxes.{no_ends}
use Rattle.gas_model.specs.Laws.{form_of}
use Rattle.gas_model.specs.Near.{number_at}
use Rattle.gas_model.specs.Points.{state_at}
use Rattle.gas_model.specs.Rows.{Network}
use Rattle.gas_model.specs.Within.{IsWithin}
use Rattle.gas_model.proofs.LimitFacts.{scale_from}
use Rattle.topo.specs.Graphs.{Graph, graph_of, is_at, no_arc}
use Rattle.topo.specs.Walks.{Step, step_at, far_of}
use Rattle.topo.specs.Shapes.{Layout, IsShapeOf}
use Rattle.box_ends.specs.Middle.{middle}
use Rattle.probe_point.specs.Probes.{box_at, nearest, balancing, AreGraphEnds}
use Rattle.probe_point.specs.Squares.{IsStepSquare}
use Rattle.probe_point.specs.Hulls.{IsHull, AreHulls}
use Rattle.probe_point.specs.Chosen.{picks_of, with_picks, all_chosen, chosen_state, AreChosen}
use Rattle.probe_point.specs.Points.{middle_supplies, AreProbeSquares, IsProbe}
use Rattle.probe_point.specs.Given.{AreGivenFlows, HasGivenFlows}
use Rattle.probe_point.specs.OneProbe.{ChoicesExist, ProbeExists}
use Rattle.probe_point.proofs.Composed.{is_probe}
use Rattle.probe_point.proofs.Laid.{far_at}
use Rattle.probe_point.proofs.ShapeFacts.{chord_arcs, chords_apart, ends_within, roots_apart, roots_below, walk_in_order}
use Rattle.probe_point.proofs.SomeFlows.{balancing_same, some_flows}
use Rattle.probe_point.proofs.SomeSquares.{some_squares}
use Rattle.probe_point.proofs.Tables.{Table, table, given, given_at, given_off}

-- ---- hulls
hull_of : (K : ℤ) (e : Ends) → pos 1 ≤ℤ K → (h : Ends) × IsHull K e h
hull_of K e one =
    let q : ℤ = int_div_euclid (neg_ℤ e.hi) K in
    let f : IsFloor (neg_ℤ e.hi) K q = floor_is (neg_ℤ e.hi) K q (int_rem_euclid (neg_ℤ e.hi) K) (euclid_divides (neg_ℤ e.hi) K one) in (
      record { lo = int_div_euclid e.lo K; hi = neg_ℤ q },
      record {
        low = floor_is e.lo K (int_div_euclid e.lo K) (int_rem_euclid e.lo K) (euclid_divides e.lo K one);
        high = record { at_least = omega (arith, linear, f.at_most, neg_mul q K); least = omega (arith, linear, f.greatest, neg_mul q K) };
      },
    )

hulls_of : (K : ℤ) (ends : List Ends) → pos 1 ≤ℤ K → (hulls : List Ends) × AreHulls K ends hulls
hulls_of K ends one =
    let f : ℕ → Ends = λ i. (hull_of K (get_or ends i no_ends) one).0 in
    let t : Table f no_ends (length ends) = table f no_ends (length ends) in
    (t.items, record { count = t.long; each = λ i l. subst (IsHull K (get_or ends i no_ends)) (sym (t.at i l)) (hull_of K (get_or ends i no_ends) one).1 })

-- ---- choices
pub choices_exist : ChoicesExist
choices_exist p part =
    let f : ℕ → ArcState = λ a. chosen_state p (with_picks (picks_of part) part) a (slice_index_or p.arcs a no_arc) in
    let t : Table f Opened (length p.arcs) = table f Opened (length p.arcs) in
    (t.items, record { count = t.long; each = λ a l. t.at a l })

-- ---- numbers by place
at_below : (g : Graph) (n a nodes : ℕ) → g.from a < nodes → g.to a < nodes → IsTrue (is_at g n a) → n < nodes
at_below g n a nodes f t h = grind (arith, nat_tests)

module _ (K : ℤ) (p : Network) (part : PartState) (shape : Layout) (within : IsWithin p) (h : IsShapeOf p part shape) where
  ends : AreGraphEnds p.arcs (length p.nodes)
  ends = ends_within p within

  flows_there : (hulls : List Ends) → (q : List ℤ) × AreGivenFlows p shape hulls q
  flows_there hulls =
      let box : ℕ → Ends = box_at hulls in
      let supply : ℕ → ℤ = number_at (middle_supplies p.nodes) in
      let old : ℕ → ℤ = given (λ a. middle (box a)) shape.chords (length shape.chords) in
      let f = some_flows p.arcs box supply shape.walk old (walk_in_order p part shape h) in
      let t : Table f.0 (pos 0) (length p.arcs) = table f.0 (pos 0) (length p.arcs) in (
        t.items,
        record {
          count = t.long;
          rest = λ a off_chords off_walk. elim (cases_lt a (length p.arcs)) [
            | inl inside ↦ t.at a inside ∙ f.2 a off_walk ∙ given_off (λ a. middle (box a)) shape.chords (length shape.chords) a off_chords
            | inr past ↦ get_or_past t.items a (pos 0) (let l : length t.items ≡ length p.arcs = t.long in omega (arith, l))
          ];
          chords = λ i l.
              t.at (get_or shape.chords i 0) ((chord_arcs p part shape h).arc i l)
              ∙ f.2 (get_or shape.chords i 0) (λ j lj same. chords_apart p part shape h j i lj l (sym same))
              ∙ given_at (λ a. middle (box a)) shape.chords (length shape.chords) i l;
          tree = λ i l.
              let a : ℕ = (step_at shape.walk i).0 in
              let v : ℕ = far_of (graph_of p.arcs) (step_at shape.walk i) in
              t.at a ((walk_in_order p part shape h).arc i l) ∙ f.1 i l
              ∙ ap (nearest (box a)) (balancing_same p.arcs (supply v) f.0 (number_at t.items) a v (λ j inside at apart. sym (t.at j inside)));
        },
      )

  squares_there : (states : List ArcState) (box_ends : List Ends) (q : List ℤ) → pos 1 ≤ℤ K → (s : List ℤ) × AreProbeSquares K p states shape box_ends q s
  squares_there states box_ends q one =
      let g : Graph = graph_of p.arcs in
      let o = walk_in_order p part shape h in
      let hulls = hulls_of K box_ends one in
      let box : ℕ → Ends = box_at hulls.0 in
      let old : ℕ → ℤ = given (λ n. middle (box n)) shape.roots (length shape.roots) in
      let f = some_squares p.arcs states box (number_at q) shape.walk old o ends.apart in
      let t : Table f.0 (pos 0) (length p.nodes) = table f.0 (pos 0) (length p.nodes) in
      let inside : (i n : ℕ) → i < length shape.walk → IsTrue (is_at g n (step_at shape.walk i).0) → n < length p.nodes = λ i n l at.
      at_below g n (step_at shape.walk i).0 (length p.nodes) (ends.from _ (o.arc i l)) (ends.to _ (o.arc i l)) at in (
        t.items,
        record {
          count = t.long;
          hulls = hulls.0;
          are_hulls = hulls.1;
          roots = λ i l.
              t.at (get_or shape.roots i 0) (roots_below p part shape h i l) ∙ f.2 (get_or shape.roots i 0) (λ j lj same. roots_apart p part shape h j i lj l same)
              ∙ given_at (λ n. middle (box n)) shape.roots (length shape.roots) i l;
          others = λ i l.
              let a : ℕ = (step_at shape.walk i).0 in
              let near : ℕ = (step_at shape.walk i).1 in
              let v : ℕ = far_of g (step_at shape.walk i) in
              let near_in : near < length p.nodes = inside i near l (o.near i l) in
              let far_in : v < length p.nodes = inside i v l (far_at g a near (o.near i l)) in
              subst (λ (z : ℤ). IsStepSquare p.arcs states box (number_at q) (number_at t.items) a near v z) (sym (t.at v far_in))
              (subst (λ (w : ℤ). IsStepSquare p.arcs states box (number_at q) (λ n. w) a near v (f.0 v)) (sym (t.at near near_in)) (f.1 i l));
        },
      )

pub probe_exists : ProbeExists
probe_exists K p part b states shape k within c h =
    let one : pos 1 ≤ℤ K = omega (arith, linear, scale_from K k) in
    let hulls = hulls_of K b.flows one in
    let q = flows_there K p (all_chosen (picks_of part) states) shape within h hulls.0 in
    let s = squares_there K p (all_chosen (picks_of part) states) shape within h states b.squares q.0 one in (
      record { picks = picks_of part; states = states; flows = q.0; squares = s.0 },
      is_probe K p part b (picks_of part) states shape q.0 s.0 refl c h (record { hulls = hulls.0; are_hulls = hulls.1; given = q.1 }) s.1,
    )
