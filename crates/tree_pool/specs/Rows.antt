-- A pool as the list of its boxes, by number.
use Rattle.std.specs.Prelude.{◌≡◌, ◌≢◌, ℕ, zero, suc, ◌+◌, ◌<◌, Bool, true, false, List, [], ◌∷◌, ◌++◌, Option, Some, None, length, slice_get, find}
use Rattle.tree_cert.specs.declared.line.Step.{Step}
use Rattle.tree_cert.specs.declared.line.Closing.{Closing}
use Rattle.tree_cert.specs.declared.line.Head.{Head}
use Rattle.tree_cert.specs.Tree.{Branch}
use Rattle.tree_pool.specs.Path.{same, IsEarlier}

-- How a box stands: it waits, is held, was left open for good, is shut, or is split. A split one has its children's
-- numbers, from the first on, and their count.
pub data Standing : Type 0 where
  Waiting : Standing
  Held : Standing
  Quit : Standing
  Shuts : Closing → Standing
  Splits : Branch → (first count : ℕ) → Standing

-- a box of a pool: its path, its head in the text, which the root has not, and what was given back
pub record Row : Type 0 where
  pub path : List ℕ
  pub head : Option Head
  pub steps : List Step
  pub standing : Standing

-- the list with one item changed
abbrev pub update : {A : Type 0} → List A → ℕ → (A → A) → List A
update [] n f = []
update (x ∷ xs) zero f = f x ∷ xs
update (x ∷ xs) (suc n) f = x ∷ update xs n f

abbrev pub stand : Standing → Row → Row
stand s r = record r { standing = s }

abbrev pub fill : List Step → Standing → Row → Row
fill xs s r = record r { steps = xs; standing = s }

-- the rows of the children of a path, from child number k on, which wait
abbrev pub child_rows : List ℕ → ℕ → List Head → List Row
child_rows path k [] = []
child_rows path k (h ∷ hs) = (record { path = k ∷ path; head = Some h; steps = []; standing = Waiting }) ∷ child_rows path (suc k) hs

-- the one box of a new pool, the root's
abbrev pub first_row : Row
first_row = record { path = []; head = None; steps = []; standing = Waiting }

-- the rows after one was changed, with its children, of these heads, at the end
abbrev pub after : List Row → ℕ → List ℕ → (Row → Row) → List Head → List Row
after rows n path f heads = update rows n f ++ child_rows path 0 heads

-- n is the number of the first waiting box in breadth-first order
pub record IsFirstWaiting (rows : List Row) (n : ℕ) : Type 0 where
  pub row : Row
  pub here : slice_get rows n ≡ Some row
  pub waits : row.standing ≡ Waiting
  pub first : (m : ℕ) (q : Row) → slice_get rows m ≡ Some q → q.standing ≡ Waiting → m ≢ n → IsEarlier row.path q.path

abbrev pub NoneWaits : List Row → Type 0
NoneWaits rows = (m : ℕ) (q : Row) → slice_get rows m ≡ Some q → q.standing ≢ Waiting

-- the row of a path
abbrev pub row_at : List Row → List ℕ → Option Row
row_at rows path = find (λ r. same r.path path) rows

abbrev pub NotSplit : Standing → Type 0
NotSplit e = (f : Branch) (first count : ℕ) → e ≢ Splits f first count

abbrev pub is_split : Standing → Bool
is_split Waiting = false
is_split Held = false
is_split Quit = false
is_split (Shuts c) = false
is_split (Splits f first count) = true

abbrev pub one : Bool → ℕ
one true = 1
one false = 0

-- the sum over all rows
abbrev pub total : (Row → ℕ) → List Row → ℕ
total size [] = 0
total size (r ∷ rows) = size r + total size rows

-- how many boxes were split
abbrev pub splits : List Row → ℕ
splits rows = total (λ r. one (is_split r.standing)) rows

-- A child of a split box: its number, and its place below the box that it hangs below.
pub record HangsBelow (rows : List Row) (m : ℕ) : Type 0 where
  pub parent : ℕ
  pub row : Row
  pub branch : Branch
  pub first : ℕ
  pub count : ℕ
  pub nth : ℕ
  pub here : slice_get rows parent ≡ Some row
  pub split : row.standing ≡ Splits branch first count
  pub within : nth < count
  pub number : m ≡ first + nth

-- The rows are a map from paths, closed upwards: the first is the root's, no path stands twice, the children of each
-- split box stand in a row after it, and each other box than the root is such a child.
pub record IsMap (rows : List Row) : Type 0 where
  pub top : (r : Row) → slice_get rows 0 ≡ Some r → (r.path ≡ []) × (r.head ≡ None)
  pub some : 0 < length rows
  pub headed : (m : ℕ) (q : Row) → slice_get rows (suc m) ≡ Some q → (h : Head) × (q.head ≡ Some h)
  pub distinct : (m n : ℕ) (q r : Row) → slice_get rows m ≡ Some q → slice_get rows n ≡ Some r → q.path ≡ r.path → m ≡ n
  pub below : (n : ℕ) (r : Row) (f : Branch) (first count : ℕ) → slice_get rows n ≡ Some r → r.standing ≡ Splits f first count →
      (n < first) × ((k : ℕ) → k < count → (q : Row) × (slice_get rows (first + k) ≡ Some q) × (q.path ≡ k ∷ r.path))
  pub above : (m : ℕ) (q : Row) → slice_get rows (suc m) ≡ Some q → HangsBelow rows (suc m)
