-- The tree that a pool shows: what was given back at each path decides it.
use Rattle.std.specs.Prelude.{◌≡◌, ◌≢◌, ℕ, zero, suc, List, [], ◌∷◌, Option, Some, option_map, slice_get}
use Rattle.tree_cert.specs.declared.line.Step.{Step}
use Rattle.tree_cert.specs.declared.line.Closing.{Closing}
use Rattle.tree_cert.specs.declared.line.Head.{Head}
use Rattle.tree_cert.specs.Tree.{Branch, Tree, Children, Then, Shut, Left, Split, NoChild, Child}
use Rattle.tree_cert.specs.TreeRules.{Holds}
use Rattle.tree_pool.specs.Rows.{Standing, Waiting, Held, Quit, Shuts, Splits, Row, row_at}

-- how the text of a box ends: open whether it waits, is held or was left; and how many children follow
pub data End : Type 0 where
  Opens : End
  Closes : Closing → End
  Forks : Branch → (count : ℕ) → End

-- what was given back at a path, behind the head that its parent's branch gave it
pub record Work : Type 0 where
  pub head : Option Head
  pub steps : List Step
  pub end : End

abbrev pub end_of : Standing → End
end_of Waiting = Opens
end_of Held = Opens
end_of Quit = Opens
end_of (Shuts c) = Closes c
end_of (Splits f first count) = Forks f count

abbrev pub work_of : Row → Work
work_of r = record { head = r.head; steps = r.steps; end = end_of r.standing }

-- what was given back at each path
abbrev pub works : List Row → List ℕ → Option Work
works rows path = option_map work_of (row_at rows path)

-- the tree is that of the box at a path, with these steps and this end
abbrev mutual
  pub IsBoxOf : (List ℕ → Option Work) → List ℕ → List Step → End → Tree → Type 0
  IsBoxOf w path (x ∷ xs) e (Then y t) = (x ≡ y) × IsBoxOf w path xs e t
  IsBoxOf w path [] (Closes c) (Shut d) = c ≡ d
  IsBoxOf w path [] Opens Left = Unit {0}
  IsBoxOf w path [] (Forks f count) (Split h ks) = (f ≡ h) × AreChildrenOf w path zero count ks
  IsBoxOf _ _ _ _ _ = ⊥

  -- these are the trees of so many children, from child number k on, each behind its head
  pub AreChildrenOf : (List ℕ → Option Work) → List ℕ → ℕ → ℕ → Children → Type 0
  AreChildrenOf w path k zero NoChild = Unit {0}
  AreChildrenOf w path k (suc count) (Child h t ks) =
      Holds (w (k ∷ path)) (λ x. (x.head ≡ Some h) × IsBoxOf w (k ∷ path) x.steps x.end t) × AreChildrenOf w path (suc k) count ks
  AreChildrenOf _ _ _ _ _ = ⊥

-- the tree is that of the box at a path
abbrev pub Shows : (List ℕ → Option Work) → List ℕ → Tree → Type 0
Shows w path t = Holds (w path) (λ x. IsBoxOf w path x.steps x.end t)

-- no box waits, is held or was left
abbrev pub NoneOpen : List Row → Type 0
NoneOpen rows = (n : ℕ) (r : Row) → slice_get rows n ≡ Some r → end_of r.standing ≢ Opens
