-- There are squares of roots and of far ends.
use Rattle.std.proofs.Common.{◌≡◌, ◌≢◌, ℕ, zero, suc, ◌+◌, ◌*◌, ◌<◌, ◌≤◌, refl, sym, ap, ◌∙◌, subst, inl, inr, arith, Bool, true, false, IsTrue, List, length, ℤ, pos, mul-le-mul}
use Rattle.std.specs.Prelude.{unsigned_abs, slice_index_or, ◌==◌}
use Rattle.std.proofs.lemmas.Bool.{cases_eq, cases_lt}
use Rattle.gas_model.specs.declared.rows.ArcRow.{ArcRow}
use Rattle.base_types.specs.declared.states.ArcState.{ArcState}
use Rattle.gas_model.specs.declared.rows.Ends.{Ends}
use Rattle.gas_model.specs.declared.law_forms.LawForm.{LawForm}
use Rattle.gas_model.specs.declared.law_forms.LawForm.TheVariants.{Drags, Equals, Shuts, Loses, Reduces, Raises, Never}
use Rattle.gas_model.specs.Laws.{form_of}
use Rattle.gas_model.specs.Points.{state_at}
use Rattle.gas_units.specs.Rounds.{IsRootDown}
use Rattle.topo.specs.Graphs.{Graph, graph_of, is_at, no_arc}
use Rattle.topo.specs.Walks.{Step, step_at, far_of, InOrder}
use Rattle.box_ends.specs.Middle.{middle}
use Rattle.probe_point.specs.Probes.{nearest}
use Rattle.probe_point.specs.Squares.{dragged, lossy, IsGiven, IsFarSquare, IsStepSquare, HasSquares}
use Rattle.probe_point.proofs.Laid.{far_at, not_near}
use Rattle.probe_point.proofs.Tables.{put, put_here, put_there}

-- ---- each natural number has a root
larger_square : (r s : ℕ) → r ≤ s → r * r ≤ s * s
larger_square r s h = mul-le-mul h h

root_next : (n r : ℕ) → IsRootDown n r → (s : ℕ) × IsRootDown (suc n) s
root_next n r h = elim (cases_lt (suc n) ((r + 1) * (r + 1))) [
  | inl less ↦ (
    r,
    record {
      at_most = omega (arith, h.at_most);
      greatest = λ s l. elim (cases_lt r s) [ inl more ↦ absurd (omega (arith, larger_square (r + 1) s (omega arith))) | inr fine ↦ omega arith ];
    },
  )
  | inr more ↦ (
    r + 1,
    record {
      at_most = omega arith;
      greatest = λ s l. elim (cases_lt (r + 1) s) [ inl past ↦ absurd (too_large s l past) | inr fine ↦ omega arith ];
    },
  )
]
  where
    too_large : (s : ℕ) → s * s ≤ suc n → r + 1 < s → ⊥
    too_large zero l past = omega arith
    too_large (suc k) l past =
        let smaller : k * k ≤ n = omega (arith, l) in
        let bound = h.greatest k smaller in
        omega arith

root_of : (n : ℕ) → (r : ℕ) × IsRootDown n r
root_of zero = (0, record { at_most = omega arith; greatest = λ s l. none s l })
  where
    none : (s : ℕ) → s * s ≤ 0 → s ≤ 0
    none zero l = omega arith
    none (suc k) l = absurd (omega arith)
root_of (suc n) = let r = root_of n in root_next n r.0 r.1

-- ---- each form of law gives the far end a square
given_of : (form : LawForm) (at_from : Bool) (e : Ends) (q x : ℤ) → (y : ℤ) × IsGiven form at_from e q x y
given_of (Drags law) at_from e q x = (dragged law at_from q x, refl)
given_of (Loses low high) at_from e q x = let r = root_of (unsigned_abs x) in (lossy low at_from q (pos r.0) x, (r.0, r.1, refl))
given_of (Reduces in_min out_max red_min red_max) at_from e q x = (middle e, refl)
given_of (Raises in_min out_max ratio_num ratio_den rise_max) at_from e q x = (middle e, refl)
given_of Equals at_from e q x = (x, refl)
given_of Shuts at_from e q x = (x, refl)
given_of Never at_from e q x = (x, refl)

far_square : (form : LawForm) (at_from : Bool) (e : Ends) (q x : ℤ) → (z : ℤ) × IsFarSquare form at_from e q x z
far_square form at_from e q x = let y = given_of form at_from e q x in (nearest e y.0, (y.0, y.1, refl))

clash : (b : Bool) → b ≡ true → b ≡ false → ⊥
clash b e f = cc

-- ---- from the first step of the walk to the last
record Done (arcs : List ArcRow) (states : List ArcState) (box : ℕ → Ends) (q : ℕ → ℤ) (walk : List Step) (old : ℕ → ℤ) (n : ℕ) : Type 0 where
  square : ℕ → ℤ
  others : (v : ℕ) → ((i : ℕ) → i < n → far_of (graph_of arcs) (step_at walk i) ≢ v) → square v ≡ old v
  steps : (i : ℕ) → i < n → IsStepSquare arcs states box q square (step_at walk i).0 (step_at walk i).1 (far_of (graph_of arcs) (step_at walk i)) (square (far_of (graph_of arcs) (step_at walk i)))

module _ (arcs : List ArcRow) (states : List ArcState) (box : ℕ → Ends) (q : ℕ → ℤ) (walk : List Step) (old : ℕ → ℤ) (o : InOrder (graph_of arcs) walk) (apart : (a : ℕ) → a < length arcs → (graph_of arcs).from a ≢ (graph_of arcs).to a) where
  moved : (s t : ℕ → ℤ) (i : ℕ) (y z : ℤ) → s (step_at walk i).1 ≡ t (step_at walk i).1 → y ≡ z
      → IsStepSquare arcs states box q s (step_at walk i).0 (step_at walk i).1 (far_of (graph_of arcs) (step_at walk i)) y
      → IsStepSquare arcs states box q t (step_at walk i).0 (step_at walk i).1 (far_of (graph_of arcs) (step_at walk i)) z
  moved s t i y z e f h =
      subst (λ (w : ℤ). IsStepSquare arcs states box q t (step_at walk i).0 (step_at walk i).1 (far_of (graph_of arcs) (step_at walk i)) w) f
      (subst (λ (w : ℤ). IsStepSquare arcs states box q (λ n. w) (step_at walk i).0 (step_at walk i).1 (far_of (graph_of arcs) (step_at walk i)) y) e h)

  step_on : (n : ℕ) → n < length walk → Done arcs states box q walk old n → Done arcs states box q walk old (suc n)
  step_on n l d =
      let g : Graph = graph_of arcs in
      let a : ℕ = (step_at walk n).0 in
      let v : ℕ = far_of g (step_at walk n) in
      let found = far_square (form_of (slice_index_or arcs a no_arc).kind (state_at states a)) (g.from a == (step_at walk n).1) (box v) (q a) (d.square (step_at walk n).1) in
      let t : ℕ → ℤ = put d.square v found.0 in
      let near_off : (step_at walk n).1 ≢ v = not_near g a (step_at walk n).1 (apart a (o.arc n l)) (o.near n l) in
      record {
        square = t;
        others = λ w off. put_there d.square v w found.0 (λ e. off n (omega arith) (sym e)) ∙ d.others w (λ i h. off i (omega arith));
        steps = λ i h. elim (cases_eq i n) [
          | inl same ↦
              subst (λ (j : ℕ). IsStepSquare arcs states box q t (step_at walk j).0 (step_at walk j).1 (far_of g (step_at walk j)) (t (far_of g (step_at walk j)))) (sym same)
              (moved d.square t n found.0 (t v) (sym (put_there d.square v (step_at walk n).1 found.0 near_off)) (sym (put_here d.square v v found.0 refl)) found.1)
          | inr other ↦
              let sooner : i < n = omega arith in
              let inside : i < length walk = omega arith in
              let away : is_at g v (step_at walk i).0 ≡ false = o.onward i n sooner l in
              let off : (w : ℕ) → is_at g w (step_at walk i).0 ≡ true → w ≢ v = λ w at e. clash (is_at g w (step_at walk i).0) at (ap (λ (z : ℕ). is_at g z (step_at walk i).0) e ∙ away) in
              let near : (step_at walk i).1 ≢ v = off (step_at walk i).1 (o.near i inside) in
              let far : far_of g (step_at walk i) ≢ v = off (far_of g (step_at walk i)) (far_at g (step_at walk i).0 (step_at walk i).1 (o.near i inside)) in
              moved d.square t i (d.square (far_of g (step_at walk i))) (t (far_of g (step_at walk i))) (sym (put_there d.square v (step_at walk i).1 found.0 near)) (sym (put_there d.square v (far_of g (step_at walk i)) found.0 far)) (d.steps i sooner)
        ];
      }

  walked : (n : ℕ) → n ≤ length walk → Done arcs states box q walk old n
  walked zero l = record { square = old; others = λ v f. refl; steps = λ i h. absurd (omega arith) }
  walked (suc n) l = step_on n (omega arith) (walked n (omega arith))

  pub some_squares : (s : ℕ → ℤ) × HasSquares arcs states box q walk s × ((v : ℕ) → ((i : ℕ) → i < length walk → far_of (graph_of arcs) (step_at walk i) ≢ v) → s v ≡ old v)
  some_squares = let d = walked (length walk) (omega arith) in (d.square, d.steps, d.others)
