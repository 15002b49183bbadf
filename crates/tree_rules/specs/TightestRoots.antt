-- The greatest or the least C for which the root of one square is at most, or at least, that of another plus D. Squares
-- count parts of 1/K, where K is the square of r, so that r * D stands for D in each formula.
use Rattle.std.specs.Prelude.{ℕ, ◌≡◌, ◌↔◌, ℤ, pos, ◌+ℤ◌, ◌-ℤ◌, ◌*ℤ◌, ◌≤ℤ◌, ◌<ℤ◌, IsTrue}
use Rattle.gas_units.specs.Rounds.{IsRootDown, IsRootUp}
use Rattle.gas_model.specs.Curves.{square, at_most, at_least}

-- the number under the root: four times the squares of e and of a pressure
abbrev pub under_root : (e x : ℤ) → ℤ
under_root e x = pos 4 *ℤ square e *ℤ x

-- the root of C is at most that of x plus D up to the greatest such C
abbrev pub GreatestAtMost : Type 0
GreatestAtMost =
    (K r x D C : ℤ) (n m : ℕ) → K ≡ r *ℤ r → pos 0 ≤ℤ x → pos n ≡ under_root (r *ℤ D) x → IsRootDown n m
    → IsTrue (at_most K C x D) ↔ (C ≤ℤ (x +ℤ square (r *ℤ D) +ℤ pos m))

-- the root of C is at least that of x plus D from the least such C on
abbrev pub LeastAtLeast : Type 0
LeastAtLeast =
    (K r x D C : ℤ) (n m : ℕ) → K ≡ r *ℤ r → pos 0 ≤ℤ x → pos n ≡ under_root (r *ℤ D) x → IsRootUp n m
    → IsTrue (at_least K C x D) ↔ ((x +ℤ square (r *ℤ D) +ℤ pos m) ≤ℤ C)

-- the root of y is at least that of C plus D up to the greatest such C, which isn't negative
abbrev pub GreatestAtLeast : Type 0
GreatestAtLeast =
    (K r y D C : ℤ) (n m : ℕ) → K ≡ r *ℤ r → square (r *ℤ D) ≤ℤ y → pos n ≡ under_root (r *ℤ D) y → IsRootUp n m → pos 0 ≤ℤ C
    → (IsTrue (at_least K y C D) ↔ (C ≤ℤ (y +ℤ square (r *ℤ D) -ℤ pos m))) × (pos 0 ≤ℤ (y +ℤ square (r *ℤ D) -ℤ pos m))

-- there is none where the root of y is below D
abbrev pub NoAtLeast : Type 0
NoAtLeast = (K r y D C : ℤ) → K ≡ r *ℤ r → y <ℤ square (r *ℤ D) → pos 0 ≤ℤ C → IsTrue (at_least K y C D) → ⊥

-- the root of y is at most that of C plus D from the least such C on, which isn't negative
abbrev pub LeastAtMost : Type 0
LeastAtMost =
    (K r y D C : ℤ) (n m : ℕ) → K ≡ r *ℤ r → square (r *ℤ D) ≤ℤ y → pos n ≡ under_root (r *ℤ D) y → IsRootDown n m → pos 0 ≤ℤ C
    → (IsTrue (at_most K y C D) ↔ ((y +ℤ square (r *ℤ D) -ℤ pos m) ≤ℤ C)) × (pos 0 ≤ℤ (y +ℤ square (r *ℤ D) -ℤ pos m))

-- each C from 0 on is one where the root of y is below D
abbrev pub EachAtMost : Type 0
EachAtMost = (K r y D C : ℤ) → K ≡ r *ℤ r → y <ℤ square (r *ℤ D) → pos 0 ≤ℤ C → IsTrue (at_most K y C D)
