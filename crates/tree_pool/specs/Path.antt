-- The path of a box: the child numbers from the box up to the root, so the last one first.
use Rattle.std.specs.Prelude.{◌≡◌, ℕ, ◌<◌, Bool, true, false, ◌&&◌, ◌==◌, List, [], ◌∷◌, ◌⊎◌}

-- whether both are one path
abbrev pub same : List ℕ → List ℕ → Bool
same [] [] = true
same [] (j ∷ q) = false
same (i ∷ p) [] = false
same (i ∷ p) (j ∷ q) = same p q && (i == j)

-- Breadth-first order: shorter paths first, and equal lengths in the order of their child numbers from the root on.
abbrev pub IsEarlier : List ℕ → List ℕ → Type 0
IsEarlier [] [] = ⊥
IsEarlier [] (j ∷ q) = Unit {0}
IsEarlier (i ∷ p) [] = ⊥
IsEarlier (i ∷ p) (j ∷ q) = IsEarlier p q ⊎ ((p ≡ q) × (i < j))
