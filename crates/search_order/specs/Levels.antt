-- How many boxes a tree can have down to a depth, where m i bounds the children of a box at depth i.
use Rattle.std.specs.Prelude.{◌≡◌, ℕ, zero, suc, ◌+◌, ◌*◌, ◌≤◌, List, length, Some, slice_get}
use Rattle.tree_cert.specs.Tree.{Branch}
use Rattle.tree_pool.specs.Rows.{Splits, Row}

-- the boxes of one depth
abbrev pub width : (ℕ → ℕ) → ℕ → ℕ
width m zero = 1
width m (suc i) = width m i * m i

-- those down to a depth
abbrev pub levels : (ℕ → ℕ) → ℕ → ℕ
levels m zero = 1
levels m (suc k) = levels m k + width m (suc k)

-- each split box has at most as many children as its depth allows
abbrev pub IsNarrow : (ℕ → ℕ) → List Row → Type 0
IsNarrow m rows = (n : ℕ) (r : Row) (f : Branch) (first count : ℕ) → slice_get rows n ≡ Some r → r.standing ≡ Splits f first count → count ≤ m (length r.path)
