-- What the calls of a pool ask for, and what they do.
use Rattle.std.specs.Prelude.{◌≡◌, ℕ, ◌+◌, ◌<◌, ◌≤◌, ◌^◌, true, false, List, [], map, length, Some, None, slice_get, get_or, ◌∷◌, ◌⊎◌}
use Rattle.tree_cert.specs.declared.line.Step.{Step}
use Rattle.tree_cert.specs.declared.line.Head.{Head}
use Rattle.tree_cert.specs.declared.line.Line.TheVariants as lines
use Rattle.tree_cert.specs.Spelling.{has_ordered_cut}
use Rattle.tree_cert.specs.TreeRules.{Holds}
use Rattle.tree_pool.specs.declared.node.Node.{Node}
use Rattle.tree_pool.specs.declared.node.Standing.TheVariants as nodes
use Rattle.tree_pool.specs.declared.node.WorkEnd.{WorkEnd}
use Rattle.tree_pool.specs.declared.node.WorkEnd.TheVariants as ends
use Rattle.tree_pool.specs.Rows.{Standing, Waiting, Held, Quit, Shuts, Splits, Row, update, fill, after}
use Rattle.tree_pool.specs.Nodes.{branch_of, is_waiting, standing_of}

-- a fact of the row of a number
abbrev pub IfRow : List Row → ℕ → (Row → Type 0) → Type 0
IfRow rows n P = Holds (slice_get rows n) P

abbrev pub IsHeld : List Row → ℕ → Type 0
IsHeld rows n = IfRow rows n (λ r. r.standing ≡ Held)

-- the nodes of a cut are strictly ascending and at least one
abbrev pub HasOrderedCut : Standing → Type 0
HasOrderedCut Waiting = Unit {0}
HasOrderedCut Held = Unit {0}
HasOrderedCut Quit = Unit {0}
HasOrderedCut (Shuts c) = has_ordered_cut (lines.Close c) ≡ true
HasOrderedCut (Splits f first count) = Unit {0}

abbrev pub HasOrderedEnd : WorkEnd → Type 0
HasOrderedEnd (ends.Shut c) = has_ordered_cut (lines.Close c) ≡ true
HasOrderedEnd (ends.Split f heads) = Unit {0}
HasOrderedEnd ends.Left = Unit {0}

-- all boxes have numbers below 2^32
abbrev pub HasRoom : List Row → WorkEnd → Type 0
HasRoom rows (ends.Shut c) = Unit {0}
HasRoom rows (ends.Split f heads) = length rows + length heads < 2 ^ 32
HasRoom rows ends.Left = Unit {0}

-- The rows after work was given back for box n at this path: its row has the steps and the end. The children of a split
-- box get the next unused numbers in order, and wait.
abbrev pub given_rows : List Row → ℕ → List ℕ → List Step → WorkEnd → List Row
given_rows rows n path xs (ends.Shut c) = update rows n (fill xs (Shuts c))
given_rows rows n path xs (ends.Split f heads) = after rows n path (fill xs (Splits (branch_of f) (length rows) (length heads))) heads
given_rows rows n path xs ends.Left = update rows n (fill xs Quit)

abbrev pub fresh_node : Head → Node
fresh_node h = record { head = Some h; steps = []; standing = nodes.Waiting }

abbrev pub root_node : Node
root_node = record { head = None; steps = []; standing = nodes.Waiting }

abbrev pub fresh_nodes : List Head → List Node
fresh_nodes heads = map fresh_node heads

-- none of the nodes from one number up to another waits
abbrev pub NodesPass : List Node → ℕ → ℕ → Type 0
NodesPass ns from k = (m : ℕ) (x : Node) → from ≤ m → m < k → slice_get ns m ≡ Some x → is_waiting (standing_of x.standing) ≡ false

-- The last path is the root's alone, or stands below a box before box n.
abbrev pub LastBefore : List (List ℕ) → ℕ → Type 0
LastBefore ps n = (length ps ≡ 1) ⊎ ((k : ℕ) × (p : ℕ) × (last : ℕ) × (p < n) × (length ps ≡ last + 1) × (get_or ps last [] ≡ k ∷ get_or ps p []))
