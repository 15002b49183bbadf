-- Breadth-first order compares any two paths, and puts shorter ones first.
use Rattle.std.proofs.Common.{◌≡◌, ◌≢◌, ℕ, zero, suc, ◌+◌, ◌<◌, ◌≤◌, List, [], ◌∷◌, length, refl, sym, ap, ◌∙◌, ◌⊎◌, inl, inr, arith}
use Rattle.tree_pool.specs.Path.{IsEarlier}

numbers_total : (i j : ℕ) → (i < j) ⊎ (i ≡ j) ⊎ (j < i)
numbers_total zero zero = inr (inl refl)
numbers_total zero (suc j) = inl (omega arith)
numbers_total (suc i) zero = inr (inr (omega arith))
numbers_total (suc i) (suc j) =
    elim (numbers_total i j) [
      | inl a ↦ inl (omega arith)
      | inr b ↦ elim b [ inl e ↦ inr (inl (ap suc e)) | inr c ↦ inr (inr (omega arith)) ]
    ]

pub total : (p q : List ℕ) → IsEarlier p q ⊎ (p ≡ q) ⊎ IsEarlier q p
total [] [] = inr (inl refl)
total [] (j ∷ q) = inl tt
total (i ∷ p) [] = inr (inr tt)
total (i ∷ p) (j ∷ q) =
    elim (total p q) [
      | inl a ↦ inl (inl a)
      | inr b ↦ elim b [
        | inl e ↦ elim (numbers_total i j) [
          | inl lt ↦ inl (inr (e, lt))
          | inr c ↦ elim c [ inl f ↦ inr (inl cc) | inr gt ↦ inr (inr (inr (sym e, gt))) ]
        ]
        | inr c ↦ inr (inr (inl c))
      ]
    ]

pub earlier_length : (p q : List ℕ) → IsEarlier p q → length p ≤ length q
earlier_length [] q h = omega arith
earlier_length (i ∷ p) [] h = absurd h
earlier_length (i ∷ p) (j ∷ q) h =
    elim h [
      | inl a ↦ (let e = earlier_length p q a in omega arith)
      | inr b ↦ (let e = ap length b.0 in omega arith)
    ]
