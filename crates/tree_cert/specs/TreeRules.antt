-- What the rules say at a place of a tree, apart from how trees and their lines are read; and when a tree passes by them.
use Rattle.std.specs.Prelude.{◌≡◌, Bool, true, false, List, Option, Some, None}
use Rattle.tree_cert.specs.declared.line.Step.{Step}
use Rattle.tree_cert.specs.declared.line.Closing.{Closing}
use Rattle.tree_cert.specs.declared.line.Head.{Head}
use Rattle.tree_cert.specs.declared.line.Line.{Line}
use Rattle.tree_cert.specs.Tree.{Branch, Tree, Children, Then, Shut, Left, Split, NoChild, Child, IsClosed, tree_lines}

pub record TreeRules : Type 1 where
  -- a part state and the ends of all variables, with the units in which they count
  pub Box : Type 0
  -- the heads that are still expected after a branch
  pub Wait : Type 0
  -- the box at the root of a text with this first line
  pub opening : Line → Option Box
  -- the box after a step that is allowed
  pub step : Box → Step → Option Box
  -- whether a closing holds
  pub shuts : Box → Closing → Bool
  -- what an allowed branch waits for
  pub branch : Box → Branch → Option Wait
  -- the child's box after the expected head, and what is expected after that child
  pub head : Wait → Head → Option (Box × Wait)
  -- whether no more heads are expected
  pub over : Wait → Bool

-- there is something in the option, and it meets the fact
abbrev pub Holds : {A : Type 0} → Option A → (A → Type 0) → Type 0
Holds None P = ⊥
Holds (Some x) P = P x

-- a tree passes at a box
abbrev mutual
  pub Passes : (g : TreeRules) → Tree → g.Box → Type 0
  Passes g (Then s t) b = Holds (g.step b s) (λ next. Passes g t next)
  Passes g (Shut c) b = g.shuts b c ≡ true
  Passes g Left b = Unit {0}
  Passes g (Split f ks) b = Holds (g.branch b f) (λ w. PassAll g ks w)

  pub PassAll : (g : TreeRules) → Children → g.Wait → Type 0
  PassAll g NoChild w = g.over w ≡ true
  PassAll g (Child h t ks) w = (g.over w ≡ false) × Holds (g.head w h) (λ next. Passes g t next.0 × PassAll g ks next.1)

-- the lines are those of a tree that passes at the opening box of its first line
pub record IsTextOf (g : TreeRules) (ls : List Line) (t : Tree) : Type 0 where
  pub first : Line
  pub passes : Holds (g.opening first) (Passes g t)
  pub lines : ls ≡ tree_lines first t

-- the lines are those of a tree that passes, in which no box is left open
abbrev pub PassesWhole : TreeRules → List Line → Type 0
PassesWhole g ls = (t : Tree) × IsTextOf g ls t × IsClosed t
