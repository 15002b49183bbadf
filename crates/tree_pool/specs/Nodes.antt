-- The rows that the nodes of a pool are, and what holds of them.
use Rattle.std.specs.Prelude.{◌≡◌, ◌≢◌, ℕ, ◌+◌, ◌<◌, ◌≤◌, ◌^◌, Bool, true, false, List, [], ◌∷◌, length, Option, Some, None, slice_get, MatchOption}
use Rattle.tree_cert.specs.declared.line.Closing.{Closing}
use Rattle.tree_cert.specs.declared.line.Line.TheVariants as lines
use Rattle.tree_cert.specs.Tree.{Branch, ByGroup, ByArc, ByHalves}
use Rattle.tree_cert.specs.Spelling.{has_ordered_cut}
use Rattle.tree_pool.specs.declared.node.BranchBy.{BranchBy}
use Rattle.tree_pool.specs.declared.node.BranchBy.TheVariants as by
use Rattle.tree_pool.specs.declared.node.Node.{Node}
use Rattle.tree_pool.specs.declared.node.Standing as declared
use Rattle.tree_pool.specs.declared.node.Standing.TheVariants as nodes
use Rattle.tree_pool.specs.Path.{IsEarlier}
use Rattle.tree_pool.specs.Rows.{Standing, Waiting, Held, Quit, Shuts, Splits, Row, IsMap, splits}
use Rattle.tree_pool.specs.Lines.{all_lines, head_lines}

abbrev pub branch_of : BranchBy → Branch
branch_of (by.Group k) = ByGroup k
branch_of (by.Arc a) = ByArc a
branch_of (by.Halves x) = ByHalves x

abbrev pub standing_of : declared.Standing → Standing
standing_of nodes.Waiting = Waiting
standing_of nodes.Held = Held
standing_of nodes.Quit = Quit
standing_of (nodes.Shut c) = Shuts c
standing_of (nodes.Split f first count) = Splits (branch_of f) first count

abbrev pub is_waiting : Standing → Bool
is_waiting Waiting = true
is_waiting Held = false
is_waiting Quit = false
is_waiting (Shuts c) = false
is_waiting (Splits f first count) = false

abbrev pub children_count : Standing → ℕ
children_count Waiting = 0
children_count Held = 0
children_count Quit = 0
children_count (Shuts c) = 0
children_count (Splits f first count) = count

abbrev pub row_of : List ℕ → Node → Row
row_of path n = record { path = path; head = n.head; steps = n.steps; standing = standing_of n.standing }

-- the rows of paths and nodes, both by number
abbrev pub rows_of : List (List ℕ) → List Node → List Row
rows_of [] ns = []
rows_of (p ∷ ps) [] = []
rows_of (p ∷ ps) (n ∷ ns) = row_of p n ∷ rows_of ps ns

-- numbers ascend in breadth-first order
abbrev pub AreInOrder : List Row → Type 0
AreInOrder rows = (m n : ℕ) (q r : Row) → slice_get rows m ≡ Some q → slice_get rows n ≡ Some r → m < n → IsEarlier q.path r.path

-- no box below this number waits
abbrev pub NoneBelow : List Row → ℕ → Type 0
NoneBelow rows k = (m : ℕ) (q : Row) → m < k → slice_get rows m ≡ Some q → is_waiting q.standing ≡ false

-- n is the first waiting box in breadth-first order among those below k
pub record IsFirstBelow (rows : List Row) (k n : ℕ) : Type 0 where
  pub row : Row
  pub here : slice_get rows n ≡ Some row
  pub waits : row.standing ≡ Waiting
  pub first : (m : ℕ) (q : Row) → m < k → slice_get rows m ≡ Some q → q.standing ≡ Waiting → m ≢ n → IsEarlier row.path q.path

-- each cut can be spelled
abbrev pub HaveOrderedCuts : List Row → Type 0
HaveOrderedCuts rows = (n : ℕ) (r : Row) (c : Closing) → slice_get rows n ≡ Some r → r.standing ≡ Shuts c → has_ordered_cut (lines.Close c) ≡ true

-- What a pool keeps: its rows are a map, no box below `from` waits, `in_order` says that the numbers ascend in
-- breadth-first order, and it counts its split boxes, and lines, of which its text has no more.
pub record IsPool (paths : List (List ℕ)) (ns : List Node) (from : ℕ) (in_order : Bool) (branched lines : ℕ) : Type 0 where
  pub sized : length paths ≡ length ns
  pub small : length ns < 2 ^ 32
  pub map : IsMap (rows_of paths ns)
  pub cuts : HaveOrderedCuts (rows_of paths ns)
  pub within : from ≤ length ns
  pub none : NoneBelow (rows_of paths ns) from
  pub ordered : in_order ≡ true → AreInOrder (rows_of paths ns)
  pub counted : branched ≡ splits (rows_of paths ns)
  pub room : 2 + all_lines (rows_of paths ns) ≤ lines
  pub bound : lines < 2 ^ 64

-- the rows of paths and nodes are a map, and each cut can be spelled
pub record AreRows (paths : List (List ℕ)) (ns : List Node) : Type 0 where
  pub sized : length paths ≡ length ns
  pub small : length ns < 2 ^ 32
  pub map : IsMap (rows_of paths ns)
  pub cuts : HaveOrderedCuts (rows_of paths ns)

-- this is the number of the first child, where there is one
abbrev pub FirstIs : Standing → Option ℕ → Type 0
FirstIs Waiting o = o ≡ None
FirstIs Held o = o ≡ None
FirstIs Quit o = o ≡ None
FirstIs (Shuts c) o = o ≡ None
FirstIs (Splits f first count) o = MatchOption o (count ≡ 0) (λ n. (n ≡ first) × (0 < count))

-- how many lines a node has of its own
abbrev pub node_size : Node → ℕ
node_size n = length n.steps + 1 + length (head_lines n.head)
