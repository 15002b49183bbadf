-- Searches over the boxes of a pool in breadth-first order: what they ask of boxes, and what they know of them.
use Rattle.std.specs.Prelude.{◌≡◌, ◌≢◌, ℕ, ◌+◌, ◌≤◌, List, [], ◌∷◌, length, Option, Some, None, slice_get, MatchOption}
use Rattle.tree_cert.specs.declared.line.Step.{Step}
use Rattle.tree_cert.specs.declared.line.Head.{Head}
use Rattle.tree_cert.specs.Tree.{Branch}
use Rattle.tree_cert.specs.TreeRules.{TreeRules}
use Rattle.tree_pool.specs.Path.{IsEarlier}
use Rattle.tree_pool.specs.Rows.{Standing, Waiting, Held, Quit, Shuts, Splits, Row, IsMap, splits}
use Rattle.tree_pool.specs.Rules.{Boxes, after_steps, IsOf}

-- What a search asks of boxes. Each box of a pool has a turn beside what the rules of its tree say: a number that its
-- branch may depend on, and that its branch gives to its children.
pub record SearchRules : Type 1 where
  pub tree : TreeRules
  -- these steps are such as the search makes in the box; none are, too
  pub moves : tree.Box → List Step → Type 0
  pub still : (b : tree.Box) → moves b []
  -- nothing closes the box and nothing shrinks it, and what is tried in it fails
  pub calm : tree.Box → Type 0
  -- with this turn the box is split by no branch
  pub least : ℕ → tree.Box → Type 0
  -- with this turn the box is split by this branch; its children have these heads, and this turn
  pub forks : ℕ → tree.Box → Branch → List Head → ℕ → Type 0

-- box n of a pool has this turn, and is this one after these steps, which are such as the search makes
pub record IsLeft (s : SearchRules) (boxes : Boxes s.tree) (turns : List ℕ) (n : ℕ) (steps : List Step) (turn : ℕ) (box : s.tree.Box) : Type 0 where
  pub start : s.tree.Box
  pub here : slice_get boxes n ≡ Some start
  pub turned : slice_get turns n ≡ Some turn
  pub moves : s.moves start steps
  pub after : after_steps s.tree start steps ≡ Some box

-- the boxes from this number on have these heads, and this turn
pub record HaveHeads (rows : List Row) (turns : List ℕ) (first : ℕ) (heads : List Head) (next : ℕ) : Type 0 where
  pub row : (k : ℕ) (h : Head) → slice_get heads k ≡ Some h → (q : Row) × (slice_get rows (first + k) ≡ Some q) × (q.head ≡ Some h)
  pub turn : (k : ℕ) (h : Head) → slice_get heads k ≡ Some h → slice_get turns (first + k) ≡ Some next

-- what a search knows of a box with this standing, where this is left of it
abbrev pub KnownAt : (s : SearchRules) → List Row → List ℕ → Standing → (turn : ℕ) → s.tree.Box → Type 0
KnownAt s rows turns Waiting turn b = Unit {0}
KnownAt s rows turns Held turn b = ⊥
KnownAt s rows turns Quit turn b = s.calm b × s.least turn b
KnownAt s rows turns (Shuts c) turn b = Unit {0}
KnownAt s rows turns (Splits f first count) turn b =
    s.calm b × ((heads : List Head) × (next : ℕ) × (count ≡ length heads) × s.forks turn b f heads next × HaveHeads rows turns first heads next)

pub record IsKnown (s : SearchRules) (rows : List Row) (boxes : Boxes s.tree) (turns : List ℕ) (n : ℕ) (r : Row) : Type 0 where
  pub turn : ℕ
  pub box : s.tree.Box
  pub left : IsLeft s boxes turns n r.steps turn box
  pub known : KnownAt s rows turns r.standing turn box

-- The search has worked the boxes in their order: each is known, a waiting one has no step and comes after all that were
-- worked, and no more boxes were split than the budget allows. The root's turn is 0.
pub record IsWorked (s : SearchRules) (root : s.tree.Box) (budget : ℕ) (rows : List Row) (boxes : Boxes s.tree) (turns : List ℕ) : Type 0 where
  pub map : IsMap rows
  pub pool : IsOf s.tree root rows boxes
  pub count : length turns ≡ length rows
  pub first : slice_get turns 0 ≡ Some 0
  pub known : (n : ℕ) (r : Row) → slice_get rows n ≡ Some r → IsKnown s rows boxes turns n r
  pub bare : (n : ℕ) (r : Row) → slice_get rows n ≡ Some r → r.standing ≡ Waiting → r.steps ≡ []
  pub ordered : (m n : ℕ) (q r : Row) → slice_get rows m ≡ Some q → slice_get rows n ≡ Some r → q.standing ≢ Waiting → r.standing ≡ Waiting → IsEarlier q.path r.path
  pub within : splits rows ≤ budget

-- The search stopped at box n for want of budget: it is open, calm, and would be split. Each box before it was worked,
-- each box behind it waits, without a step.
pub record StopsAt (s : SearchRules) (budget : ℕ) (rows : List Row) (boxes : Boxes s.tree) (turns : List ℕ) (n : ℕ) : Type 0 where
  pub row : Row
  pub here : slice_get rows n ≡ Some row
  pub quit : row.standing ≡ Quit
  pub turn : ℕ
  pub box : s.tree.Box
  pub left : IsLeft s boxes turns n row.steps turn box
  pub calm : s.calm box
  pub wide : s.least turn box → ⊥
  pub spent : splits rows ≡ budget
  pub before : (m : ℕ) (q : Row) → slice_get rows m ≡ Some q → IsEarlier q.path row.path → (q.standing ≢ Waiting) × IsKnown s rows boxes turns m q
  pub behind : (m : ℕ) (q : Row) → slice_get rows m ≡ Some q → IsEarlier row.path q.path → (q.standing ≡ Waiting) × (q.steps ≡ [])

-- no box was left open for good
abbrev pub NoneQuit : List Row → Type 0
NoneQuit rows = (m : ℕ) (q : Row) → slice_get rows m ≡ Some q → q.standing ≢ Quit

-- n is the number of the first box that was left open for good
pub record IsFirstQuit (rows : List Row) (n : ℕ) : Type 0 where
  pub row : Row
  pub here : slice_get rows n ≡ Some row
  pub quit : row.standing ≡ Quit
  pub first : (m : ℕ) (q : Row) → slice_get rows m ≡ Some q → q.standing ≡ Quit → m ≢ n → IsEarlier row.path q.path

abbrev pub FirstQuit : List Row → Option ℕ → Type 0
FirstQuit rows o = MatchOption o (NoneQuit rows) (IsFirstQuit rows)
