-- The flows of chords and the squares of roots, which are the middles of their boxes.
use Rattle.std.specs.Prelude.{◌≡◌, ◌≢◌, ℕ, ◌<◌, List, length, slice_index, ℤ, pos}
use Rattle.gas_model.specs.declared.rows.ArcRow.{ArcRow}
use Rattle.gas_model.specs.declared.rows.Ends.{Ends}
use Rattle.box_ends.specs.Middle.{middle}

-- each chord, or root, has the middle of its box
abbrev pub HasMiddles : (ℕ → Ends) → List ℕ → (ℕ → ℤ) → Type 0
HasMiddles box chords q = (i : ℕ) → i < length chords → q (slice_index chords i) ≡ middle (box (slice_index chords i))

-- all others keep what they have
abbrev pub KeepsTheRest : List ℕ → (ℕ → ℤ) → (ℕ → ℤ) → Type 0
KeepsTheRest chords q r = (a : ℕ) → ((i : ℕ) → i < length chords → a ≢ slice_index chords i) → r a ≡ q a

-- they are arcs, and none stands twice
pub record AreDistinctArcs (arcs : List ArcRow) (chords : List ℕ) : Type 0 where
  pub arc : (i : ℕ) → i < length chords → slice_index chords i < length arcs
  pub distinct : (i j : ℕ) → i < j → j < length chords → slice_index chords i ≢ slice_index chords j

-- they have no flow
abbrev pub HaveNoFlow : List ℕ → (ℕ → ℤ) → Type 0
HaveNoFlow chords q = (i : ℕ) → i < length chords → q (slice_index chords i) ≡ pos 0

-- each of the nodes is one of so many
abbrev pub AreBelow : ℕ → List ℕ → Type 0
AreBelow count nodes = (i : ℕ) → i < length nodes → slice_index nodes i < count
