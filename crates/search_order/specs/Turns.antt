-- One turn of a search: a held box is given back.
use Rattle.std.specs.Prelude.{◌≡◌, ℕ, ◌+◌, ◌*◌, ◌-◌, ◌≤◌, List, ◌++◌, map, length, Some, slice_get, replicate}
use Rattle.tree_cert.specs.declared.line.Step.{Step}
use Rattle.tree_cert.specs.declared.line.Head.{Head}
use Rattle.tree_pool.specs.declared.node.WorkEnd.{WorkEnd}
use Rattle.tree_pool.specs.declared.node.WorkEnd.TheVariants as ends
use Rattle.tree_pool.specs.Nodes.{branch_of, is_waiting}
use Rattle.tree_pool.specs.Rows.{Row, splits, one, total}
use Rattle.tree_pool.specs.Rules.{Boxes}
use Rattle.tree_pool.specs.Laws.{EndFits}
use Rattle.tree_pool.specs.Calls.{given_rows}
use Rattle.search_order.specs.Searches.{SearchRules, IsLeft}

-- what is known of a box by the end of the work on it
abbrev pub EndKnown : (s : SearchRules) → WorkEnd → (turn : ℕ) → s.tree.Box → (next : ℕ) → Type 0
EndKnown s (ends.Shut c) turn b next = Unit {0}
EndKnown s (ends.Split by heads) turn b next = s.calm b × s.forks turn b (branch_of by) heads next
EndKnown s ends.Left turn b next = s.calm b × s.least turn b

-- how many boxes are split by it
abbrev pub splits_by : WorkEnd → ℕ
splits_by (ends.Shut c) = 0
splits_by (ends.Split by heads) = 1
splits_by ends.Left = 0

-- work was given back for box n, which holds at it and is known, within the budget, and with at most so many children
pub record IsTurn (s : SearchRules) (most budget : ℕ) (rows : List Row) (boxes : Boxes s.tree) (turns : List ℕ) (new : List Row) (boxes2 : Boxes s.tree) (turns2 : List ℕ) (n : ℕ) (end : WorkEnd) : Type 0 where
  pub row : Row
  pub here : slice_get rows n ≡ Some row
  pub steps : List Step
  pub kids : List (Head × s.tree.Box)
  pub turn : ℕ
  pub next : ℕ
  pub box : s.tree.Box
  pub left : IsLeft s boxes turns n steps turn box
  pub fits : EndFits s.tree box end kids
  pub known : EndKnown s end turn box next
  pub few : length kids ≤ most * splits_by end
  pub room : splits rows + splits_by end ≤ budget
  pub rows_are : new ≡ given_rows rows n row.path steps end
  pub boxes_are : boxes2 ≡ boxes ++ map (λ k. k.1) kids
  pub turns_are : turns2 ≡ turns ++ replicate (length kids) next

-- box n was left open for want of budget
pub record IsFull (s : SearchRules) (budget : ℕ) (rows : List Row) (boxes : Boxes s.tree) (turns : List ℕ) (new : List Row) (n : ℕ) : Type 0 where
  pub row : Row
  pub here : slice_get rows n ≡ Some row
  pub steps : List Step
  pub turn : ℕ
  pub box : s.tree.Box
  pub left : IsLeft s boxes turns n steps turn box
  pub calm : s.calm box
  pub wide : s.least turn box → ⊥
  pub spent : budget ≤ splits rows
  pub rows_are : new ≡ given_rows rows n row.path steps ends.Left

-- how many boxes wait
abbrev pub waits : List Row → ℕ
waits rows = total (λ r. one (is_waiting r.standing)) rows

-- What is left to do: the waiting boxes, and for each split that the budget still pays for as many as a branch has
-- children, and one.
abbrev pub remains : (most budget : ℕ) → List Row → ℕ
remains most budget rows = waits rows + (most + 1) * (budget - splits rows)
