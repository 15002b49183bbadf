-- What holds of each pool, and of the calls that change one, by any rules.
use Rattle.std.specs.Prelude.{◌≡◌, ◌≢◌, ◌↔◌, ℕ, true, List, [], ◌∷◌, ◌++◌, length, map, Option, Some, slice_get, ◌⊎◌}
use Rattle.tree_cert.specs.declared.line.Step.{Step}
use Rattle.tree_cert.specs.declared.line.Head.{Head}
use Rattle.tree_cert.specs.Tree.{Tree, IsClosed}
use Rattle.tree_cert.specs.TreeRules.{TreeRules, Holds, Passes}
use Rattle.tree_pool.specs.declared.node.WorkEnd.{WorkEnd}
use Rattle.tree_pool.specs.declared.node.WorkEnd.TheVariants as ends
use Rattle.tree_pool.specs.Rows.{Row, Standing, Waiting, Held, NotSplit, IsMap, update, stand, first_row}
use Rattle.tree_pool.specs.Shown.{End, Opens, Closes, Forks, Work, works, Shows, NoneOpen}
use Rattle.tree_pool.specs.Rules.{after_steps, AreExpected, Boxes, IsOf}
use Rattle.tree_pool.specs.Nodes.{branch_of}
use Rattle.tree_pool.specs.Calls.{given_rows}

-- rows show a tree, and no other
abbrev pub ShowOneTree : List Row → Type 0
ShowOneTree rows = ((t : Tree) × Shows (works rows) [] t) × ((t u : Tree) → Shows (works rows) [] t → Shows (works rows) [] u → t ≡ u)

-- it is whole exactly where no box is open
abbrev pub IsWholeWhereNoneOpen : List Row → Type 0
IsWholeWhereNoneOpen rows = (t : Tree) → Shows (works rows) [] t → IsClosed t ↔ NoneOpen rows

-- what was given back at each path decides the tree, in whatever order, and whatever the numbers are
abbrev pub WorksDecide : Type 0
WorksDecide = (v w : List ℕ → Option Work) → ((path : List ℕ) → v path ≡ w path) → (t : Tree) → Shows v [] t → Shows w [] t

-- taking and losing leave what was given back at each path
abbrev pub StandingLeavesWorks : Type 0
StandingLeavesWorks = (rows : List Row) (n : ℕ) (r : Row) (s : Standing) → slice_get rows n ≡ Some r → (r.standing ≡ Waiting) ⊎ (r.standing ≡ Held) → (s ≡ Waiting) ⊎ (s ≡ Held)
    → (path : List ℕ) → works (update rows n (stand s)) path ≡ works rows path

-- the heads of the children that an end gives, and how the text of its box ends
abbrev pub heads_by : WorkEnd → List Head
heads_by (ends.Shut c) = []
heads_by (ends.Split f heads) = heads
heads_by ends.Left = []

abbrev pub end_by : WorkEnd → End
end_by (ends.Shut c) = Closes c
end_by (ends.Split f heads) = Forks (branch_of f) (length heads)
end_by ends.Left = Opens

-- giving back sets what was given back at its own path, behind the head that stands there
abbrev pub GivingSetsWork : Type 0
GivingSetsWork = (rows : List Row) (n : ℕ) (r : Row) → IsMap rows → slice_get rows n ≡ Some r → NotSplit r.standing → (steps : List Step) (end : WorkEnd)
    → works (given_rows rows n r.path steps end) r.path ≡ Some (record { head = r.head; steps = steps; end = end_by end })

-- it puts its children below that path, in the order of their heads, open and without a step
abbrev pub GivingAddsChildren : Type 0
GivingAddsChildren = (rows : List Row) (n : ℕ) (r : Row) → IsMap rows → slice_get rows n ≡ Some r → NotSplit r.standing → (steps : List Step) (end : WorkEnd) (k : ℕ) (h : Head) → slice_get (heads_by end) k ≡ Some h
    → works (given_rows rows n r.path steps end) (k ∷ r.path) ≡ Some (record { head = Some h; steps = []; end = Opens })

-- and it leaves what was given back at each other path
abbrev pub GivingLeavesOthers : Type 0
GivingLeavesOthers = (rows : List Row) (n : ℕ) (r : Row) → IsMap rows → slice_get rows n ≡ Some r → NotSplit r.standing → (steps : List Step) (end : WorkEnd) (path : List ℕ)
    → path ≢ r.path → ((k : ℕ) (h : Head) → slice_get (heads_by end) k ≡ Some h → path ≢ k ∷ r.path) → works (given_rows rows n r.path steps end) path ≡ works rows path

-- a tree that is shown passes at the root
abbrev pub ShownPass : TreeRules → Type 0
ShownPass g = (root : g.Box) (rows : List Row) (boxes : Boxes g) → IsMap rows → IsOf g root rows boxes → (t : Tree) → Shows (works rows) [] t → Passes g t root

-- an end holds at a box, and gives these children, each a head and a box
abbrev pub EndFits : (g : TreeRules) → g.Box → WorkEnd → List (Head × g.Box) → Type 0
EndFits g b (ends.Shut c) kids = (g.shuts b c ≡ true) × (kids ≡ [])
EndFits g b (ends.Split f heads) kids = Holds (g.branch b (branch_of f)) (λ w. AreExpected g w kids) × (heads ≡ map (λ k. k.0) kids)
EndFits g b ends.Left kids = kids ≡ []

-- work holds at a box
abbrev pub WorkFits : (g : TreeRules) → g.Box → List Step → WorkEnd → List (Head × g.Box) → Type 0
WorkFits g b steps end kids = Holds (after_steps g b steps) (λ c. EndFits g c end kids)

-- a new pool is of any root
abbrev pub NewIsOf : TreeRules → Type 0
NewIsOf g = (root : g.Box) → IsOf g root (first_row ∷ []) (root ∷ [])

-- taking and losing keep that the pool is of its root, and all boxes
abbrev pub StandingKeeps : TreeRules → Type 0
StandingKeeps g = (root : g.Box) (rows : List Row) (boxes : Boxes g) (n : ℕ) (r : Row) (s : Standing) → IsMap rows → IsOf g root rows boxes → slice_get rows n ≡ Some r
    → (r.standing ≡ Waiting) ⊎ (r.standing ≡ Held) → (s ≡ Waiting) ⊎ (s ≡ Held) → IsOf g root (update rows n (stand s)) boxes

-- and so does giving back work that holds, which adds the children's boxes
abbrev pub GivingKeeps : TreeRules → Type 0
GivingKeeps g = (root : g.Box) (rows : List Row) (boxes : Boxes g) (n : ℕ) (r : Row) (b : g.Box) → IsMap rows → IsOf g root rows boxes → slice_get rows n ≡ Some r → r.standing ≡ Held → slice_get boxes n ≡ Some b
    → (steps : List Step) (end : WorkEnd) (kids : List (Head × g.Box)) → WorkFits g b steps end kids → IsOf g root (given_rows rows n r.path steps end) (boxes ++ map (λ k. k.1) kids)
