-- A network as a graph: which nodes a walk joins, components and their roots, chords and tree arcs.
use Rattle.std.specs.Prelude.{pos, ◌≡◌, ◌≢◌, ℕ, ◌<◌, ◌≤◌, ◌&&◌, ◌||◌, ◌==◌, ◌⊎◌, Bool, nat_lt, List, [], length, slice_index_or, IsTrue}
use Rattle.gas_model.specs.declared.rows.ArcRow.{ArcRow}
use Rattle.gas_model.specs.declared.rows.ArcKind.TheVariants.{Short}
use Rattle.gas_model.specs.Points.{arcs_at}

-- how many arcs, the two ends of each, and the arcs at each node in order
pub record Graph : Type 0 where
  pub arcs : ℕ
  pub from : ℕ → ℕ
  pub to : ℕ → ℕ
  pub at : ℕ → List ℕ

abbrev pub no_arc : ArcRow
no_arc = record { id = []; from = 0; to = 0; q_min = pos 0; q_max = pos 0; kind = Short }

abbrev pub graph_of : List ArcRow → Graph
graph_of rows = record {
  arcs = length rows;
  from = λ a. (slice_index_or rows a no_arc).from;
  to = λ a. (slice_index_or rows a no_arc).to;
  at = arcs_at rows;
}

-- the arc a leaves or enters the node n
abbrev pub is_at : Graph → ℕ → ℕ → Bool
is_at g n a = (g.from a == n) || (g.to a == n)

-- the arcs before k that are kept
abbrev pub before : ℕ → (ℕ → Bool) → ℕ → Bool
before k keep a = nat_lt a k && keep a

-- the arc a leads from m to n or from n to m
abbrev pub Links : Graph → ℕ → ℕ → ℕ → Type 0
Links g a m n = ((g.from a ≡ m) × (g.to a ≡ n)) ⊎ ((g.from a ≡ n) × (g.to a ≡ m))

-- a walk over kept arcs leads from the one node to the other
pub data Joined (g : Graph) (keep : ℕ → Bool) : ℕ → ℕ → Type 0 where
  stay : {m : ℕ} → Joined g keep m m
  along : {m n o : ℕ} → Joined g keep m n → (a : ℕ) → a < g.arcs → IsTrue (keep a) → Links g a n o → Joined g keep m o

-- the root of the component of n: the first node that a walk joins with n
pub record IsRoot (g : Graph) (keep : ℕ → Bool) (n root : ℕ) : Type 0 where
  pub joined : Joined g keep n root
  pub first : (m : ℕ) → Joined g keep n m → root ≤ m

-- a chord is a kept arc whose ends are joined by a walk of earlier kept arcs
pub record IsChord (g : Graph) (keep : ℕ → Bool) (a : ℕ) : Type 0 where
  pub is_arc : a < g.arcs
  pub kept : IsTrue (keep a)
  pub joined : Joined g (before a keep) (g.from a) (g.to a)

-- a tree arc is a kept arc whose ends aren't
pub record IsTreeArc (g : Graph) (keep : ℕ → Bool) (a : ℕ) : Type 0 where
  pub is_arc : a < g.arcs
  pub kept : IsTrue (keep a)
  pub apart : Joined g (before a keep) (g.from a) (g.to a) → ⊥

-- xs lists, in ascending order, just the numbers that are P
pub record Lists (xs : List ℕ) (P : ℕ → Type 0) : Type 0 where
  pub ascending : (i j : ℕ) → i < j → j < length xs → slice_index_or xs i 0 < slice_index_or xs j 0
  pub sound : (i : ℕ) → i < length xs → P (slice_index_or xs i 0)
  pub complete : (a : ℕ) → P a → (i : ℕ) × (i < length xs) × (slice_index_or xs i 0 ≡ a)

-- xs has, in some order, each of the numbers that are P once, and no other
pub record HasOnce (xs : List ℕ) (P : ℕ → Type 0) : Type 0 where
  pub distinct : (i j : ℕ) → i < j → j < length xs → slice_index_or xs i 0 ≢ slice_index_or xs j 0
  pub sound : (i : ℕ) → i < length xs → P (slice_index_or xs i 0)
  pub complete : (a : ℕ) → P a → (i : ℕ) × (i < length xs) × (slice_index_or xs i 0 ≡ a)
