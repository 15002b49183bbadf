-- The squares, from the first step of the walk to the last.
use Rattle.std.proofs.Common.{◌≡◌, ◌≢◌, ℕ, ◌<◌, ◌+◌, inl, inr, sym, ◌∙◌, arith, Bool, true, false, IsTrue, subst, List, length, set, ℤ, pos, get_or-set_same, get_or-set_other, length-set}
use Rattle.std.proofs.lemmas.Bool.{cases_eq}
use Rattle.std.proofs.lemmas.Bool.Decides.{nat_tests}
use Rattle.gas_model.specs.declared.rows.ArcRow.{ArcRow}
use Rattle.base_types.specs.declared.states.ArcState.{ArcState}
use Rattle.gas_model.specs.declared.rows.Ends.{Ends}
use Rattle.base_types.specs.Numbers.{is_square}
use Rattle.gas_model.specs.Near.{number_at as at}
use Rattle.topo.specs.Graphs.{Graph, graph_of, is_at}
use Rattle.topo.specs.Walks.{far, Step, step_at, InOrder}
use Rattle.probe_point.specs.Squares.{IsStepSquare, AreSquares}
use Rattle.probe_point.proofs.Settled.{far_of}

-- the squares after the first n steps
pub record Laid (arcs : List ArcRow) (states : List ArcState) (box : ℕ → Ends) (q : ℕ → ℤ) (walk : List Step) (old now : List ℤ) (n : ℕ) : Type 0 where
  pub given : (i : ℕ) → i < n → IsStepSquare arcs states box q (at now) (step_at walk i).0 (step_at walk i).1 (far_of (graph_of arcs) walk i) (at now (far_of (graph_of arcs) walk i))
  pub others : (v : ℕ) → ((i : ℕ) → i < n → far_of (graph_of arcs) walk i ≢ v) → at now v ≡ at old v
  pub squares : AreSquares now
  pub long : length now ≡ length old

clash : (b : Bool) → b ≡ true → b ≡ false → ⊥
clash b e f = cc

off : (g : Graph) (a v : ℕ) (n : ℕ) → is_at g v a ≡ false → IsTrue (is_at g n a) → n ≢ v
off g a v n f t e = let h : is_at g v a ≡ true = subst (λ (k : ℕ). is_at g k a ≡ true) e t in clash _ h f

pub far_at : (g : Graph) (a n : ℕ) → IsTrue (is_at g n a) → IsTrue (is_at g (far g a n) a)
far_at g a n h = grind (arith, nat_tests)

pub not_near : (g : Graph) (a n : ℕ) → g.from a ≢ g.to a → IsTrue (is_at g n a) → n ≢ far g a n
not_near g a n ne h = grind (arith, nat_tests)

pub laid_step : (arcs : List ArcRow) (states : List ArcState) (box : ℕ → Ends) (q : ℕ → ℤ) (walk : List Step) (old now : List ℤ) (n : ℕ) (x : ℤ) → InOrder (graph_of arcs) walk → ((a : ℕ) → a < length arcs → (graph_of arcs).from a ≢ (graph_of arcs).to a) → n < length walk → far_of (graph_of arcs) walk n < length now → IsTrue (is_square x)
    → IsStepSquare arcs states box q (at now) (step_at walk n).0 (step_at walk n).1 (far_of (graph_of arcs) walk n) x → Laid arcs states box q walk old now n → Laid arcs states box q walk old (set now (far_of (graph_of arcs) walk n) x) (n + 1)
laid_step arcs states box q walk old now n x o ne hn hv size e s =
    let g : Graph = graph_of arcs in
    let v : ℕ = far_of g walk n in
    let new : List ℤ = set now v x in
    let same : (k : ℕ) → k ≢ v → at new k ≡ at now k = λ k hk. get_or-set_other now v k x (pos 0) hk in
    let here : at new v ≡ x = get_or-set_same now v x (pos 0) hv in
    let near_off : (step_at walk n).1 ≢ v = not_near g (step_at walk n).0 (step_at walk n).1 (ne _ (o.arc n hn)) (o.near n hn) in
    let moved : (i : ℕ) (y z : ℤ) → at new (step_at walk i).1 ≡ at now (step_at walk i).1 → z ≡ y → IsStepSquare arcs states box q (at now) (step_at walk i).0 (step_at walk i).1 (far_of g walk i) y → IsStepSquare arcs states box q (at new) (step_at walk i).0 (step_at walk i).1 (far_of g walk i) z = λ i y z e1 e2 f.
    subst (λ (w : ℤ). IsStepSquare arcs states box q (at new) (step_at walk i).0 (step_at walk i).1 (far_of g walk i) w) (sym e2) (under arcs states box q (at now) (at new) (step_at walk i).0 (step_at walk i).1 (far_of g walk i) y (sym e1) f) in
    record {
      given = λ i hi. elim (cases_eq i n) [
        | inl e1 ↦ subst (λ (k : ℕ). IsStepSquare arcs states box q (at new) (step_at walk k).0 (step_at walk k).1 (far_of g walk k) (at new (far_of g walk k))) (sym e1) (moved n x (at new v) (same _ near_off) here e)
        | inr e1 ↦
            let lt : i < n = omega arith in
            let hi2 : i < length walk = omega arith in
            let off_v = o.onward i n lt hn in
            let f_off : far_of g walk i ≢ v = off g (step_at walk i).0 v (far_of g walk i) off_v (far_at g (step_at walk i).0 (step_at walk i).1 (o.near i hi2)) in
            let n_off : (step_at walk i).1 ≢ v = off g (step_at walk i).0 v (step_at walk i).1 off_v (o.near i hi2) in
            moved i (at now (far_of g walk i)) (at new (far_of g walk i)) (same _ n_off) (same _ f_off) (s.given i lt)
      ];
      others = λ k hk. same k (λ e1. hk n (omega arith) (sym e1)) ∙ s.others k (λ i hi. hk i (omega arith));
      squares = λ k hk. elim (cases_eq k v) [
        | inl e1 ↦ subst (λ (j : ℕ). IsTrue (is_square (at new j))) (sym e1) (subst (λ (y : ℤ). IsTrue (is_square y)) (sym here) size)
        | inr e1 ↦ subst (λ (y : ℤ). IsTrue (is_square y)) (sym (same k e1)) (s.squares k (let l = length-set now v x in omega arith))
      ];
      long = length-set now v x ∙ s.long;
    }
  where
    under : (arcs : List ArcRow) (states : List ArcState) (box : ℕ → Ends) (q s t : ℕ → ℤ) (a near v : ℕ) (y : ℤ) → s near ≡ t near → IsStepSquare arcs states box q s a near v y → IsStepSquare arcs states box q t a near v y
    under arcs states box q s t a near v y e f = subst (λ (w : ℤ). IsStepSquare arcs states box q (λ n. w) a near v y) e f
