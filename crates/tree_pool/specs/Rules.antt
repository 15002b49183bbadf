-- What a pool owes to rules of trees.
use Rattle.std.specs.Prelude.{◌≡◌, ℕ, ◌+◌, true, false, List, [], ◌∷◌, Option, Some, length, slice_get, option_and_then}
use Rattle.tree_cert.specs.declared.line.Step.{Step}
use Rattle.tree_cert.specs.declared.line.Head.{Head}
use Rattle.tree_cert.specs.TreeRules.{TreeRules, Holds}
use Rattle.tree_pool.specs.Rows.{Standing, Waiting, Held, Quit, Shuts, Splits, Row}

-- the box after the steps, where each is allowed
abbrev pub after_steps : (g : TreeRules) → g.Box → List Step → Option g.Box
after_steps g b [] = Some b
after_steps g b (x ∷ xs) = option_and_then (λ next. after_steps g next xs) (g.step b x)

-- the heads are all that are expected, in order, and give these boxes
abbrev pub AreExpected : (g : TreeRules) → g.Wait → List (Head × g.Box) → Type 0
AreExpected g w [] = g.over w ≡ true
AreExpected g w (k ∷ ks) = (g.over w ≡ false) × Holds (g.head w k.0) (λ next. (next.0 ≡ k.1) × AreExpected g next.1 ks)

-- the boxes of a pool of these rules, by number
abbrev pub Boxes : TreeRules → Type 0
Boxes g = List g.Box

-- Child number k of a split box: its head, and the box that the branch gives it.
pub record IsChildAt (g : TreeRules) (rows : List Row) (boxes : Boxes g) (m : ℕ) (kid : Head × g.Box) : Type 0 where
  pub row : Row
  pub here : slice_get rows m ≡ Some row
  pub head : row.head ≡ Some kid.0
  pub box : slice_get boxes m ≡ Some kid.1

-- the children of a split box are those that its branch waits for
pub record AreGiven (g : TreeRules) (rows : List Row) (boxes : Boxes g) (w : g.Wait) (first count : ℕ) : Type 0 where
  pub kids : List (Head × g.Box)
  pub number : count ≡ length kids
  pub expected : AreExpected g w kids
  pub each : (k : ℕ) (kid : Head × g.Box) → slice_get kids k ≡ Some kid → IsChildAt g rows boxes (first + k) kid

-- what was given back holds at the box that the steps leave
abbrev pub EndHolds : (g : TreeRules) → List Row → Boxes g → g.Box → Standing → Type 0
EndHolds g rows boxes b Waiting = Unit {0}
EndHolds g rows boxes b Held = Unit {0}
EndHolds g rows boxes b Quit = Unit {0}
EndHolds g rows boxes b (Shuts c) = g.shuts b c ≡ true
EndHolds g rows boxes b (Splits f first count) = Holds (g.branch b f) (λ w. AreGiven g rows boxes w first count)

-- The pool is of these rules and this root, and these are its boxes: the first is the root, all that was given back
-- holds at its box, and each other box is what the branch above it gives.
pub record IsOf (g : TreeRules) (root : g.Box) (rows : List Row) (boxes : Boxes g) : Type 0 where
  pub count : length boxes ≡ length rows
  pub rooted : slice_get boxes 0 ≡ Some root
  pub each : (n : ℕ) (r : Row) (b : g.Box) → slice_get rows n ≡ Some r → slice_get boxes n ≡ Some b
      → Holds (after_steps g b r.steps) (λ c. EndHolds g rows boxes c r.standing)
