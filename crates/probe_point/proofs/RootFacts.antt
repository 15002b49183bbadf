-- The squares of roots, one after the other.
use Rattle.std.proofs.Common.{◌≡◌, ◌≢◌, ℕ, ◌<◌, ◌+◌, inl, inr, sym, ap, ◌∙◌, subst, arith, List, length, set, get_or, ℤ, pos, IsTrue, get_or-set_same, get_or-set_other, length-set}
use Rattle.std.proofs.lemmas.Bool.{cases_eq}
use Rattle.gas_model.specs.declared.rows.Ends.{Ends}
use Rattle.base_types.specs.Numbers.{is_square}
use Rattle.gas_model.specs.Near.{number_at as at}
use Rattle.box_ends.specs.Middle.{middle}
use Rattle.probe_point.specs.Squares.{AreSquares}
use Rattle.probe_point.specs.Chords.{KeepsTheRest, AreBelow}

-- the roots before n have their squares
pub record Rooted (box : ℕ → Ends) (roots : List ℕ) (old now : List ℤ) (n : ℕ) : Type 0 where
  pub middles : (k : ℕ) → k < n → at now (get_or roots k 0) ≡ middle (box (get_or roots k 0))
  pub others : KeepsTheRest roots (at old) (at now)
  pub squares : AreSquares now

pub rooted_step : (box : ℕ → Ends) (roots : List ℕ) (old now : List ℤ) (n : ℕ) (x : ℤ) → AreBelow (length now) roots → n < length roots → x ≡ middle (box (get_or roots n 0)) → IsTrue (is_square x)
    → Rooted box roots old now n → Rooted box roots old (set now (get_or roots n 0) x) (n + 1)
rooted_step box roots old now n x below lt value size s =
    let a : ℕ = get_or roots n 0 in
    let new : List ℤ = set now a x in
    let ha : a < length now = below n lt in
    let here : at new a ≡ x = get_or-set_same now a x (pos 0) ha in
    let other : (j : ℕ) → j ≢ a → at new j ≡ at now j = λ j hj. get_or-set_other now a j x (pos 0) hj in
    record {
      middles = λ k hk. elim (cases_eq (get_or roots k 0) a) [
        | inl e ↦ ap (at new) e ∙ here ∙ value ∙ ap (λ (j : ℕ). middle (box j)) (sym e)
        | inr e ↦ other (get_or roots k 0) e ∙ s.middles k (earlier k hk (λ same. e (ap (λ (j : ℕ). get_or roots j 0) same)))
      ];
      others = λ j h. other j (h n lt) ∙ s.others j h;
      squares = λ j hj. let long = length-set now a x in elim (cases_eq j a) [
        | inl e ↦ subst (λ (z : ℤ). IsTrue (is_square z)) (sym (ap (at new) e ∙ here)) size
        | inr e ↦ subst (λ (z : ℤ). IsTrue (is_square z)) (sym (other j e)) (s.squares j (omega arith))
      ];
    }
  where
    earlier : (k : ℕ) → k < n + 1 → k ≢ n → k < n
    earlier k h ne = omega arith
