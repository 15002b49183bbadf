-- The flows of chords, one after the other.
use Rattle.std.proofs.Common.{◌≡◌, ◌≢◌, ℕ, ◌<◌, ◌≤◌, ◌+◌, inl, inr, sym, ap, ◌∙◌, subst, arith, List, length, set, get_or, ℤ, pos, ◌+ℤ◌, ◌-ℤ◌, get_or-set_same, get_or-set_other}
use Rattle.std.proofs.lemmas.Bool.{cases_eq}
use Rattle.integer_laws.specs.Sizes.{IsWithin}
use Rattle.gas_model.specs.declared.rows.ArcRow.{ArcRow}
use Rattle.gas_model.specs.declared.rows.Ends.{Ends}
use Rattle.gas_model.specs.Near.{number_at as at}
use Rattle.topo.specs.Graphs.{Graph, graph_of}
use Rattle.box_ends.specs.Middle.{middle}
use Rattle.probe_point.specs.Probes.{AreNeeds, AreSmall, AreGraphEnds}
use Rattle.probe_point.specs.Chords.{KeepsTheRest, AreDistinctArcs}
use Rattle.probe_point.proofs.Settled.{NeedsIn, needs_given, needs_in, needs_out, small_given, small_flow}

-- the chords before n have their flows
pub record Given (arcs : List ArcRow) (box : ℕ → Ends) (chords : List ℕ) (old now : List ℤ) (before need : List ℤ) (n : ℕ) : Type 0 where
  pub middles : (k : ℕ) → k < n → at now (get_or chords k 0) ≡ middle (box (get_or chords k 0))
  pub later : (k : ℕ) → n ≤ k → k < length chords → at now (get_or chords k 0) ≡ pos 0
  pub others : KeepsTheRest chords (at old) (at now)
  pub needs : (supply : ℕ → ℤ) → AreNeeds arcs supply (at old) before → AreNeeds arcs supply (at now) need
  pub flows : AreSmall 1 now
  pub small : AreSmall (1 + n) need

pub given_step : (arcs : List ArcRow) (box : ℕ → Ends) (chords : List ℕ) (old now new before need less : List ℤ) (n : ℕ) (x : ℤ) → AreDistinctArcs arcs chords → AreGraphEnds arcs (length need) → length now ≡ length arcs → n < length chords
    → x ≡ middle (box (get_or chords n 0)) → IsWithin 1000000000000 x
    → new ≡ set now (get_or chords n 0) x
    → less ≡ set (set need ((graph_of arcs).from (get_or chords n 0)) (at need ((graph_of arcs).from (get_or chords n 0)) -ℤ x)) ((graph_of arcs).to (get_or chords n 0)) (at need ((graph_of arcs).to (get_or chords n 0)) +ℤ x)
    → Given arcs box chords old now before need n → Given arcs box chords old new before less (n + 1)
given_step arcs box chords old now new before need less n x d ends long lt value size en el s =
    let g : Graph = graph_of arcs in
    let a : ℕ = get_or chords n 0 in
    let ha : a < length arcs = d.arc n lt in
    let here : at new a ≡ x = ap (λ (xs : List ℤ). at xs a) en ∙ get_or-set_same now a x (pos 0) (omega arith) in
    let other : (j : ℕ) → j ≢ a → at new j ≡ at now j = λ j hj. ap (λ (xs : List ℤ). at xs j) en ∙ get_or-set_other now a j x (pos 0) hj in
    record {
      middles = λ k hk. elim (cases_eq k n) [
        | inl e ↦ ap (λ (j : ℕ). at new (get_or chords j 0)) e ∙ here ∙ value ∙ ap (λ (j : ℕ). middle (box (get_or chords j 0))) (sym e)
        | inr e ↦ let before_n : k < n = omega arith in other (get_or chords k 0) (d.distinct k n before_n lt) ∙ s.middles k before_n
      ];
      later = λ k hk hl. other (get_or chords k 0) (λ e. d.distinct n k (omega arith) hl (sym e)) ∙ s.later k (omega arith) hl;
      others = λ j h. other j (h n lt) ∙ s.others j h;
      needs = λ supply first. needs_out arcs supply (at new) less (subst (NeedsIn g supply (at new)) (ap (λ (y : ℤ). set (set need (g.from a) (at need (g.from a) -ℤ y)) (g.to a) (at need (g.to a) +ℤ y)) here ∙ sym el)
          (needs_given g supply (at now) (at new) need a ha (ends.from a ha) (ends.to a ha) (ends.apart a ha) (s.later n (omega arith) lt) other (needs_in arcs supply (at now) need (s.needs supply first))));
      flows = subst (AreSmall 1) (sym en) (small_flow 1 a now x (omega arith) (omega (arith, size)) s.flows);
      small = subst (AreSmall (1 + (n + 1))) (sym el) (subst (λ (m : ℕ). AreSmall m (set (set need (g.from a) (at need (g.from a) -ℤ x)) (g.to a) (at need (g.to a) +ℤ x))) (omega arith) (small_given (1 + n) (g.from a) (g.to a) need x (ends.from a ha) (ends.to a ha) (ends.apart a ha) size s.small));
    }
