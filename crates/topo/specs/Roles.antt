-- The role of each arc: away, of a tree, or a chord.
use Rattle.std.specs.Prelude.{◌≡◌, ℕ, ◌<◌, Bool, true, false, List, length, slice_index_or, IsTrue}
use Rattle.gas_model.specs.declared.rows.ArcRow.{ArcRow}
use Rattle.topo.specs.Graphs.{Graph, no_arc, before, Joined}
use Rattle.topo.specs.Walks.{those}
use Rattle.topo.specs.Graphs.{is_at}
use Rattle.topo.specs.declared.forest.Role.{Role}
use Rattle.topo.specs.declared.forest.Role.TheVariants.{Away, Tree, Chord}

abbrev pub IsRole : Graph → (ℕ → Bool) → ℕ → Role → Type 0
IsRole g keep a Away = keep a ≡ false
IsRole g keep a Tree = (keep a ≡ true) × (Joined g (before a keep) (g.from a) (g.to a) → ⊥)
IsRole g keep a Chord = (keep a ≡ true) × Joined g (before a keep) (g.from a) (g.to a)

-- each arc has its role
pub record AreRoles (g : Graph) (keep : ℕ → Bool) (roles : List Role) : Type 0 where
  pub count : length roles ≡ g.arcs
  pub each : (a : ℕ) → a < g.arcs → IsRole g keep a (slice_index_or roles a Away)

-- what joining m and n answers
abbrev pub IsUnited : (ℕ → ℕ) → ℕ → ℕ → Role → Type 0
IsUnited label m n Away = ⊥
IsUnited label m n Tree = label m ≡ label n → ⊥
IsUnited label m n Chord = label m ≡ label n

abbrev pub is_role_tree : Role → Bool
is_role_tree Tree = true
is_role_tree _ = false

abbrev pub is_role_chord : Role → Bool
is_role_chord Chord = true
is_role_chord _ = false

abbrev pub has_tree_role : List Role → ℕ → Bool
has_tree_role roles a = is_role_tree (slice_index_or roles a Away)

abbrev pub has_chord_role : List Role → ℕ → Bool
has_chord_role roles a = is_role_chord (slice_index_or roles a Away)

-- the ends of the arcs are nodes
abbrev pub EndsBelow : List ArcRow → ℕ → Type 0
EndsBelow rows nodes = (a : ℕ) → a < length rows → ((slice_index_or rows a no_arc).from < nodes) × ((slice_index_or rows a no_arc).to < nodes)

-- the tree arcs among the kept ones, in a graph that lists the arcs of each node
pub record Spans (g : Graph) (keep tree : ℕ → Bool) : Type 0 where
  pub listed : (n : ℕ) → g.at n ≡ those (is_at g n) g.arcs
  pub sub : (a : ℕ) → IsTrue (tree a) → IsTrue (keep a)
  pub apart : (a : ℕ) → a < g.arcs → IsTrue (tree a) → Joined g (before a keep) (g.from a) (g.to a) → ⊥
  pub chord : (a : ℕ) → a < g.arcs → IsTrue (keep a) → tree a ≡ false → Joined g (before a keep) (g.from a) (g.to a)
