-- A queue of distinct numbers below a size.
use Rattle.std.specs.Prelude.{ℕ, ◌<◌, ◌≤◌, ◌≡◌, ◌==◌, Bool, false, ◌||◌, List, [], ◌∷◌, length, if◌then◌else◌}

-- the numbers that are held, the front one first
pub record Queue : Type 0 where
  pub size : ℕ
  pub held : List ℕ

abbrev pub holds : ℕ → List ℕ → Bool
holds i [] = false
holds i (x ∷ xs) = (i == x) || holds i xs

-- the list without the number i
abbrev pub without : ℕ → List ℕ → List ℕ
without i [] = []
without i (x ∷ xs) = if i == x then without i xs else x ∷ without i xs

-- each is below the size, and no later one is equal to it
abbrev pub AreApart : ℕ → List ℕ → Type 0
AreApart size [] = Unit {0}
AreApart size (x ∷ xs) = (x < size) × (holds x xs ≡ false) × AreApart size xs

pub record IsQueue (q : Queue) : Type 0 where
  pub apart : AreApart q.size q.held
  pub few : length q.held ≤ q.size
