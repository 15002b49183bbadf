-- The comparison is breadth-first order, which is strict and total.
use Rattle.std.proofs.Common.{◌≡◌, ℕ, ◌<◌, List, [], ◌∷◌, refl, sym, ◌∙◌, inl, inr, arith}
use Rattle.std.specs.Ordering.{nat_cmp, MatchOrdering}
use Rattle.std.specs.declared.cmp.Ordering.{Ordering}
use Rattle.std.specs.declared.cmp.Ordering.TheVariants.{Less, Equal, Greater}
use Rattle.tree_pool.specs.Path.{IsEarlier}
use Rattle.tree_pool.specs.Order.{order, or_then}
use Rattle.std.proofs.lemmas.Bool.Decides.{nat_tests}

pub numbers : (i j : ℕ) (o : Ordering) → nat_cmp i j ≡ o → MatchOrdering o (i < j) (i ≡ j) (j < i)
numbers i j Less e = grind (arith, nat_tests)
numbers i j Equal e = grind (arith, nat_tests)
numbers i j Greater e = grind (arith, nat_tests)

-- what the comparison says
says_more : (i j : ℕ) (p q : List ℕ) (a b : Ordering) → MatchOrdering a (IsEarlier p q) (p ≡ q) (IsEarlier q p) → MatchOrdering b (i < j) (i ≡ j) (j < i)
    → MatchOrdering (or_then a b) (IsEarlier (i ∷ p) (j ∷ q)) (i ∷ p ≡ j ∷ q) (IsEarlier (j ∷ q) (i ∷ p))
says_more i j p q Less b h g = inl h
says_more i j p q Equal Less h g = inr (h, g)
says_more i j p q Equal Equal h g = cc
says_more i j p q Equal Greater h g = inr (sym h, g)
says_more i j p q Greater b h g = inl h

pub says : (p q : List ℕ) → MatchOrdering (order p q) (IsEarlier p q) (p ≡ q) (IsEarlier q p)
says [] [] = refl
says [] (j ∷ q) = tt
says (i ∷ p) [] = tt
says (i ∷ p) (j ∷ q) = says_more i j p q (order p q) (nat_cmp i j) (says p q) (numbers i j (nat_cmp i j) refl)

pub earlier_trans : (p q r : List ℕ) → IsEarlier p q → IsEarlier q r → IsEarlier p r
earlier_trans [] q [] h g = elim q as (λ q. IsEarlier [] q → IsEarlier q [] → ⊥) [ [] ↦ λ a b. a | j ∷ q ↦ λ a b. b ] h g
earlier_trans [] q (k ∷ r) h g = tt
earlier_trans (i ∷ p) [] r h g = absurd h
earlier_trans (i ∷ p) (j ∷ q) [] h g = absurd g
earlier_trans (i ∷ p) (j ∷ q) (k ∷ r) h g =
    elim h [
      | inl a ↦ elim g [
        | inl b ↦ inl (earlier_trans p q r a b)
        | inr b ↦ inl (let e = b.0 in rw (← e) a)
      ]
      | inr a ↦ elim g [
        | inl b ↦ inl (let e = a.0 in rw e b)
        | inr b ↦ inr (a.0 ∙ b.0, (let c = a.1 in let d = b.1 in omega arith))
      ]
    ]

pub not_earlier : (p : List ℕ) → IsEarlier p p → ⊥
not_earlier [] h = h
not_earlier (i ∷ p) h = elim h [ inl a ↦ not_earlier p a | inr a ↦ (let c = a.1 in omega arith) ]

-- a child is later than its parent
pub before_child : (k : ℕ) (p : List ℕ) → IsEarlier p (k ∷ p)
before_child k [] = tt
before_child k (i ∷ p) = inl (before_child i p)
