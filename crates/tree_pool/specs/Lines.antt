-- The lines of the boxes of a pool, and what the text still has after a box.
use Rattle.std.specs.Prelude.{◌≡◌, ℕ, suc, ◌-◌, Bool, true, false, cond, List, [], ◌∷◌, ◌++◌, length, map, Option, Some, None, slice_get}
use Rattle.std.specs.Ordering.{nat_cmp}
use Rattle.std.specs.declared.cmp.Ordering.{Ordering}
use Rattle.std.specs.declared.cmp.Ordering.TheVariants.{Less, Equal, Greater}
use Rattle.std.specs.List.{flat_map, list_all}
use Rattle.tree_cert.specs.declared.line.Step.{Step}
use Rattle.tree_cert.specs.declared.line.Head.{Head}
use Rattle.tree_cert.specs.declared.line.Line.{Line}
use Rattle.tree_cert.specs.declared.line.Line.TheVariants as lines
use Rattle.tree_cert.specs.Tree.{Tree, Children, branch_line, box_lines, child_lines}
use Rattle.tree_cert.specs.TreeRules.{Holds}
use Rattle.tree_cert.specs.Spelling.{spelling, is_spelled}
use Rattle.tree_pool.specs.Rows.{Row, total}
use Rattle.tree_pool.specs.Shown.{End, Opens, Closes, Forks, Work, end_of, works, AreChildrenOf}

-- ---- the lines of one box

abbrev pub head_lines : Option Head → List Line
head_lines None = []
head_lines (Some h) = lines.Head h ∷ []

abbrev pub step_lines : List Step → List Line
step_lines xs = map lines.Step xs

abbrev pub end_line : End → Line
end_line Opens = lines.LeftOpen
end_line (Closes c) = lines.Close c
end_line (Forks f count) = branch_line f

-- the head, the steps and the end of a box
abbrev pub own_lines : Row → List Line
own_lines r = head_lines r.head ++ (step_lines r.steps ++ end_line (end_of r.standing) ∷ [])

-- ---- how many there are

abbrev pub all_lines : List Row → ℕ
all_lines rows = total (λ r. length (own_lines r)) rows

-- ---- what comes after a box

abbrev pub children_of : End → ℕ
children_of Opens = 0
children_of (Closes c) = 0
children_of (Forks f count) = count

-- these lines are those of the children of a path from child number k on, and then the tail
pub record HasChildren (w : List ℕ → Option Work) (path : List ℕ) (k count : ℕ) (ls tail : List Line) : Type 0 where
  pub children : Children
  pub shown : AreChildrenOf w path k count children
  pub text : ls ≡ child_lines children ++ tail

-- these lines come after a box and all that is below it
abbrev pub After : (List ℕ → Option Work) → List ℕ → List Line → Type 0
After w [] ls = ls ≡ []
After w (k ∷ p) ls = (tail : List Line) × Holds (w p) (λ x. HasChildren w p (suc k) (children_of x.end - suc k) ls tail) × After w p tail

-- these lines come after a box's own
abbrev pub Remains : List Row → Row → List Line → Type 0
Remains rows r ls = (tail : List Line) × HasChildren (works rows) r.path 0 (children_of (end_of r.standing)) ls tail × After (works rows) r.path tail

-- these lines are the text from this box on, or none
abbrev pub Pending : List Row → Option ℕ → List Line → Type 0
Pending rows None ls = ls ≡ []
Pending rows (Some n) ls = Holds (slice_get rows n) (λ r. (rest : List Line) × (ls ≡ own_lines r ++ rest) × Remains rows r rest)

-- ---- the order of the text

-- a path from the root on, before more
abbrev pub from_root : List ℕ → List ℕ → List ℕ
from_root [] more = more
from_root (k ∷ p) more = from_root p (k ∷ more)

abbrev pub pick : Ordering → Bool → Bool
pick Less b = true
pick Equal b = b
pick Greater b = false

-- a path comes before those below it, and before those of later children
abbrev pub is_before : List ℕ → List ℕ → Bool
is_before [] [] = false
is_before [] (j ∷ q) = true
is_before (i ∷ p) [] = false
is_before (i ∷ p) (j ∷ q) = pick (nat_cmp i j) (is_before p q)

-- the lines of the boxes that don't come before this path in the text
abbrev pub lines_from : List Row → List ℕ → ℕ
lines_from rows path = total (λ r. cond (is_before (from_root r.path []) (from_root path [])) 0 (length (own_lines r))) rows

abbrev pub lines_from_row : List Row → Option Row → ℕ
lines_from_row rows None = 0
lines_from_row rows (Some r) = lines_from rows r.path

-- the lines of the boxes from this one on, or none
abbrev pub ahead : List Row → Option ℕ → ℕ
ahead rows None = 0
ahead rows (Some n) = lines_from_row rows (slice_get rows n)

-- ---- what is written

-- the lines were added at the end, each in its spelling
pub record Writes (before after : List ℕ) (ls : List Line) : Type 0 where
  pub text : after ≡ before ++ flat_map spelling ls
  pub spelled : list_all is_spelled ls ≡ true

-- The line that ends a box has this number: so many lines are the first one and those up to the box's end.
pub record IsLineOf (rows : List Row) (n line : ℕ) (t : Tree) : Type 0 where
  pub row : Row
  pub here : slice_get rows n ≡ Some row
  pub front : List Line
  pub rest : List Line
  pub text : box_lines t ≡ front ++ rest
  pub remains : Remains rows row rest
  pub number : line ≡ suc (length front)
