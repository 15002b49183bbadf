-- The breadth-first walk over tree arcs.
use Rattle.std.specs.Prelude.{◌≡◌, ◌≢◌, ◌≤◌, ℕ, zero, suc, ◌<◌, ◌==◌, ◌&&◌, ◌++◌, Bool, false, not, List, [], ◌∷◌, map, length, cond, filter, Option, Some, None, if◌then◌else◌, slice_index_or, IsTrue}
use Rattle.std.specs.List.{flat_map, list_any}
use Rattle.topo.specs.Graphs.{Graph, is_at, before}

-- the numbers below n that pass p, in order
abbrev pub those : (ℕ → Bool) → ℕ → List ℕ
those p zero = []
those p (suc k) = those p k ++ cond (p k) (k ∷ []) []

-- the end of the arc that isn't the near node
abbrev pub far : Graph → ℕ → ℕ → ℕ
far g a near = if g.from a == near then g.to a else g.from a

-- a step of a walk: an arc, and the end of it that is nearer to the root
abbrev pub Step : Type 0
Step = ℕ × ℕ

abbrev pub step_at : List Step → ℕ → Step
step_at walk i = slice_index_or walk i (0, 0)

abbrev pub far_of : Graph → Step → ℕ
far_of g s = far g s.0 s.1

-- an arc that is there and none of the chords
abbrev pub is_tree : Graph → (ℕ → Bool) → List ℕ → ℕ → Bool
is_tree g keep chords a = before g.arcs keep a && not (list_any (λ c. c == a) chords)

abbrev pub is_by : Option ℕ → ℕ → Bool
is_by None a = false
is_by (Some b) a = a == b

-- from a node, which the arc `by` led to: the other tree arcs there, in order, each with the node as its near node
abbrev pub onward : Graph → (ℕ → Bool) → ℕ → Option ℕ → List Step
onward g tree n by = map (λ a. (a, n)) (filter (λ a. tree a && not (is_by by a)) (g.at n))

-- the nodes in the order in which the walk takes them, each with the arc that led to it
abbrev pub taken : Graph → ℕ → List Step → List (ℕ × Option ℕ)
taken g root walk = (root, None) ∷ map (λ s. (far_of g s, Some s.0)) walk

-- the walk from a root goes on from each node that it takes, in the order in which it takes them
abbrev pub GoesOn : Graph → (ℕ → Bool) → ℕ → List Step → Type 0
GoesOn g tree root walk = walk ≡ flat_map (λ v. onward g tree v.0 v.1) (taken g root walk)

-- the k-th node that it takes
abbrev pub node : Graph → ℕ → List Step → ℕ → ℕ
node g root w zero = root
node g root w (suc j) = far_of g (step_at w j)

-- the arc that led to it
abbrev pub by : List Step → ℕ → Option ℕ
by w zero = None
by w (suc j) = Some (step_at w j).0

-- no node is taken twice, and each step is a tree arc at one of the first p nodes that were taken before it
pub record Grown (g : Graph) (tree : ℕ → Bool) (root : ℕ) (w : List Step) (p : ℕ) : Type 0 where
  pub near : (j : ℕ) → j < length w → (k : ℕ) × (k ≤ j) × (k < p) × ((step_at w j).1 ≡ node g root w k)
  pub kept : (j : ℕ) → j < length w → ((step_at w j).0 < g.arcs) × IsTrue (tree (step_at w j).0) × IsTrue (is_at g (step_at w j).1 (step_at w j).0)
  pub apart : (j k : ℕ) → j < k → k ≤ length w → node g root w j ≢ node g root w k

-- a whole walk from a root
pub record IsWalkFrom (g : Graph) (tree : ℕ → Bool) (root : ℕ) (w : List Step) : Type 0 where
  pub goes_on : GoesOn g tree root w
  pub grown : Grown g tree root w (suc (length w))

-- whole walks from the first n roots, one after the other
pub record AreWalks (g : Graph) (tree : ℕ → Bool) (roots : List ℕ) (n : ℕ) (walk : List Step) : Type 0 where
  pub parts : List (List Step)
  pub all : walk ≡ flat_map (λ w. w) parts
  pub count : length parts ≡ n
  pub each : (i : ℕ) → i < n → IsWalkFrom g tree (slice_index_or roots i 0) (slice_index_or parts i [])

-- each step leads on from what was reached: no earlier arc is at its far end
pub record InOrder (g : Graph) (walk : List Step) : Type 0 where
  pub arc : (i : ℕ) → i < length walk → (step_at walk i).0 < g.arcs
  pub near : (i : ℕ) → i < length walk → IsTrue (is_at g (step_at walk i).1 (step_at walk i).0)
  pub onward : (i j : ℕ) → i < j → j < length walk → is_at g (far_of g (step_at walk j)) (step_at walk i).0 ≡ false

-- the walks from the roots, one after the other
pub record IsWalk (g : Graph) (tree : ℕ → Bool) (roots : List ℕ) (walk : List Step) : Type 0 where
  pub parts : List (List Step)
  pub all : walk ≡ flat_map (λ w. w) parts
  pub count : length parts ≡ length roots
  pub each : (i : ℕ) → i < length roots → GoesOn g tree (slice_index_or roots i 0) (slice_index_or parts i [])
  pub in_order : InOrder g walk
