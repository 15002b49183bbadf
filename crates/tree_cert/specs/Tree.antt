-- A refutation tree, and its text as a list of lines.
use Rattle.std.specs.Prelude.{ℕ, List, [], ◌∷◌, ◌++◌}
use Rattle.base_types.specs.declared.variables.Var.{Var}
use Rattle.tree_cert.specs.declared.line.Step.{Step}
use Rattle.tree_cert.specs.declared.line.Closing.{Closing}
use Rattle.tree_cert.specs.declared.line.Head.{Head}
use Rattle.tree_cert.specs.declared.line.Line.{Line}
use Rattle.tree_cert.specs.declared.line.Line.TheVariants as lines

-- what a branch is by: the decisions of a group, the states of an arc, or the halves of a variable
pub data Branch : Type 0 where
  ByGroup : ℕ → Branch
  ByArc : ℕ → Branch
  ByHalves : Var → Branch

-- A box is steps and one end: a closing, an open end, or a branch. The children of a branch follow it, each behind its head.
mutual
  pub data Tree : Type 0 where
    Then : Step → Tree → Tree
    Shut : Closing → Tree
    Left : Tree
    Split : Branch → Children → Tree

  pub data Children : Type 0 where
    NoChild : Children
    Child : Head → Tree → Children → Children

abbrev pub branch_line : Branch → Line
branch_line (ByGroup k) = lines.Group k
branch_line (ByArc a) = lines.Arc a
branch_line (ByHalves v) = lines.Halve v

-- the lines of a tree, in preorder
abbrev mutual
  pub box_lines : Tree → List Line
  box_lines (Then s t) = lines.Step s ∷ box_lines t
  box_lines (Shut c) = lines.Close c ∷ []
  box_lines Left = lines.LeftOpen ∷ []
  box_lines (Split f ks) = branch_line f ∷ child_lines ks

  pub child_lines : Children → List Line
  child_lines NoChild = []
  child_lines (Child h t ks) = lines.Head h ∷ box_lines t ++ child_lines ks

-- all lines of a text that begins with this first line
abbrev pub tree_lines : Line → Tree → List Line
tree_lines first t = first ∷ box_lines t ++ lines.End ∷ []

-- no box is left open
abbrev mutual
  pub IsClosed : Tree → Type 0
  IsClosed (Then s t) = IsClosed t
  IsClosed (Shut c) = Unit {0}
  IsClosed Left = ⊥
  IsClosed (Split f ks) = AreClosed ks

  pub AreClosed : Children → Type 0
  AreClosed NoChild = Unit {0}
  AreClosed (Child h t ks) = IsClosed t × AreClosed ks
