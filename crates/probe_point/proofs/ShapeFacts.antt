-- What a shape says of its chords, its roots and its walk.
use Rattle.std.proofs.Common.{◌≡◌, ◌≢◌, ℕ, zero, suc, ◌<◌, ◌≤◌, ◌==◌, sym, ◌∙◌, subst, arith, IsTrue, length, get_or, map, cond}
use Rattle.std.proofs.lemmas.Bool.Decides.{nat_tests}
use Rattle.std.proofs.lemmas.List.{get_or-map, length-map}
use Rattle.std.proofs.lemmas.Option.{slice_get-get_or}
use Rattle.gas_model.specs.declared.rows.ArcRow.{ArcRow}
use Rattle.gas_model.specs.declared.rows.PartState.{PartState}
use Rattle.gas_model.specs.Limits.{is_kind_within}
use Rattle.gas_model.specs.Rows.{Network}
use Rattle.gas_model.specs.Within.{IsWithin, is_row_within}
use Rattle.topo.specs.Graphs.{graph_of, no_arc, IsTreeArc}
use Rattle.topo.specs.States.{is_there}
use Rattle.topo.specs.Walks.{Step, step_at, far_of, InOrder}
use Rattle.topo.specs.Shapes.{Layout, IsShapeOf, IsOtherNode}
use Rattle.probe_point.specs.Probes.{AreGraphEnds}
use Rattle.probe_point.specs.Squares.{AreKindsWithin}
use Rattle.probe_point.specs.Chords.{AreDistinctArcs, AreBelow}

-- ---- distinct numbers below n are at most n
swapped_apart : (n fm fj fk : ℕ) → fj ≢ fm → fk ≢ fm → fj ≢ fk → cond (fj == n) fm fj ≢ cond (fk == n) fm fk
swapped_apart n fm fj fk d1 d2 d3 e = grind (arith, nat_tests)

few_values : (n m : ℕ) (f : ℕ → ℕ) → ((k : ℕ) → k < m → f k < n) → ((j k : ℕ) → j < k → k < m → f j ≢ f k) → m ≤ n
few_values n zero f b d = omega arith
few_values zero (suc m) f b d = absurd (let h = b 0 (omega arith) in omega arith)
few_values (suc n) (suc m) f b d =
    let h = few_values n m (λ k. cond (f k == n) (f m) (f k))
    (λ k hk. let b1 = b k (omega arith) in let b2 = b m (omega arith) in let d1 = d k m hk (omega arith) in grind (arith, nat_tests))
    (λ j k hj hk. let d1 = d j m (omega arith) (omega arith) in let d2 = d k m hk (omega arith) in let d3 = d j k hj (omega arith) in swapped_apart n (f m) (f j) (f k) d1 d2 d3) in
    omega arith

-- ---- arcs within their limits
row_kind : (row : ArcRow) → IsTrue (is_row_within row) → IsTrue (is_kind_within row.kind)
row_kind row t = grind arith

pub kinds_within : (p : Network) → IsWithin p → AreKindsWithin p.arcs
kinds_within p w a h = row_kind (get_or p.arcs a no_arc) (w.arcs a (get_or p.arcs a no_arc) (slice_get-get_or p.arcs a no_arc h))

pub ends_within : (p : Network) → IsWithin p → AreGraphEnds p.arcs (length p.nodes)
ends_within p w = record {
  from = λ a h. w.from a (get_or p.arcs a no_arc) (slice_get-get_or p.arcs a no_arc h);
  to = λ a h. w.to a (get_or p.arcs a no_arc) (slice_get-get_or p.arcs a no_arc h);
  apart = λ a h. w.apart a (get_or p.arcs a no_arc) (slice_get-get_or p.arcs a no_arc h);
}

-- ---- the parts of a shape
module _ (p : Network) (part : PartState) (s : Layout) (h : IsShapeOf p part s) where
  pub walked_arc : (i : ℕ) → i < length s.walk → get_or (map (λ (e : Step). e.0) s.walk) i 0 ≡ (step_at s.walk i).0
  walked_arc i lt = get_or-map (λ (e : Step). e.0) s.walk i (0, 0) 0 lt

  pub walked_node : (i : ℕ) → i < length s.walk → get_or (map (far_of (graph_of p.arcs)) s.walk) i 0 ≡ far_of (graph_of p.arcs) (step_at s.walk i)
  walked_node i lt = get_or-map (far_of (graph_of p.arcs)) s.walk i (0, 0) 0 lt

  walked_tree : (i : ℕ) → i < length s.walk → IsTreeArc (graph_of p.arcs) (is_there p part) (step_at s.walk i).0
  walked_tree i lt = subst (IsTreeArc (graph_of p.arcs) (is_there p part)) (walked_arc i lt)
      (h.laid_out.walked_arcs.sound i (subst (λ (n : ℕ). i < n) (sym (length-map s.walk (λ (e : Step). e.0))) lt))

  walked_other : (i : ℕ) → i < length s.walk → IsOtherNode (graph_of p.arcs) (is_there p part) (length p.nodes) (far_of (graph_of p.arcs) (step_at s.walk i))
  walked_other i lt = subst (IsOtherNode (graph_of p.arcs) (is_there p part) (length p.nodes)) (walked_node i lt)
      (h.laid_out.walked_nodes.sound i (subst (λ (n : ℕ). i < n) (sym (length-map s.walk (far_of (graph_of p.arcs)))) lt))

  pub steps_apart : (i j : ℕ) → i < j → j < length s.walk → (step_at s.walk i).0 ≢ (step_at s.walk j).0
  steps_apart i j lt hj e =
      h.laid_out.walked_arcs.distinct i j lt (subst (λ (n : ℕ). j < n) (sym (length-map s.walk (λ (e : Step). e.0))) hj)
      (walked_arc i (omega arith) ∙ e ∙ sym (walked_arc j hj))

  pub walk_in_order : InOrder (graph_of p.arcs) s.walk
  walk_in_order = h.laid_out.walk.in_order

  pub chord_arcs : AreDistinctArcs p.arcs s.chords
  chord_arcs = record {
    arc = λ i lt. (h.laid_out.chords.sound i lt).is_arc;
    distinct = λ i j lt hj e. let more = h.laid_out.chords.ascending i j lt hj in omega arith;
  }

  pub few_chords : length p.arcs ≤ 2000 → length s.chords ≤ 2000
  few_chords few = let n = few_values (length p.arcs) (length s.chords) (λ k. get_or s.chords k 0) chord_arcs.arc chord_arcs.distinct in omega arith

  pub few_steps : length p.arcs ≤ 2000 → length s.walk ≤ 2000
  few_steps few = let n = few_values (length p.arcs) (length s.walk) (λ k. (step_at s.walk k).0) walk_in_order.arc steps_apart in omega arith

  -- no step is a chord, and no far end is a root
  pub chords_apart : (i j : ℕ) → i < length s.walk → j < length s.chords → (step_at s.walk i).0 ≢ get_or s.chords j 0
  chords_apart i j hi hj e = (subst (IsTreeArc (graph_of p.arcs) (is_there p part)) e (walked_tree i hi)).apart (h.laid_out.chords.sound j hj).joined

  pub roots_apart : (i j : ℕ) → i < length s.walk → j < length s.roots → far_of (graph_of p.arcs) (step_at s.walk i) ≢ get_or s.roots j 0
  roots_apart i j hi hj e = (subst (IsOtherNode (graph_of p.arcs) (is_there p part) (length p.nodes)) e (walked_other i hi)).other (h.laid_out.roots.sound j hj).root

  pub roots_below : AreBelow (length p.nodes) s.roots
  roots_below i lt = (h.laid_out.roots.sound i lt).is_node

  -- an arc that is away is neither a step nor a chord
  pub step_there : (i : ℕ) → i < length s.walk → IsTrue (is_there p part (step_at s.walk i).0)
  step_there i lt = (walked_tree i lt).kept

  pub chord_there : (i : ℕ) → i < length s.chords → IsTrue (is_there p part (get_or s.chords i 0))
  chord_there i lt = (h.laid_out.chords.sound i lt).kept
