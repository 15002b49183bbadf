-- The children of an element are what stands directly within it in the document.
use Rattle.std.specs.Prelude.{◌≡◌, ◌≤◌, ◌+◌, ◌-◌, ℕ, List, [], ◌∷◌, ◌++◌, length}
use Rattle.std.specs.List.{find}
use Rattle.std.specs.Str.{bytes_eq}
use Rattle.tag_outline.specs.declared.outline.Element.{Element}
use Rattle.tag_outline.specs.Grammar.{Closing, written_item, Content, Empty, Text, Note, Single, Nested, written_content, element, listed}
use Rattle.element_fields.specs.Lookup.{Placed, child, children}

-- the elements that stand directly in a content, each with those that follow it: what stands within it, then the rest of
-- the content, then those after the content
abbrev pub directly_in : ℕ → ℕ → Content → List ℕ → List Element → List Placed
directly_in end k Empty rest after = []
directly_in end k (Text b c) rest after = directly_in end k c rest after
directly_in end k (Note n c) rest after = directly_in end k c rest after
directly_in end k (Single t c) rest after =
    (element k (end - length (written_content (Single t c) rest)) t, listed end k c rest ++ after) ∷ directly_in end k c rest after
directly_in end k (Nested t inner space c) rest after =
    (element k (end - length (written_content (Nested t inner space c) rest)) t, listed end (k + 1) inner (written_item (Closing t.name space) (written_content c rest)) ++ (listed end k c rest ++ after)) ∷ directly_in end k c rest after

-- the elements after a content that stands within so many begin outside it
abbrev pub AreOutside : ℕ → List Element → Type 0
AreOutside k [] = Unit {0}
AreOutside k (e ∷ es) = e.depth ≤ k

-- The children of an element, among the elements that follow it, are those that stand directly within it. The elements that
-- follow such a child are again those within it, and then some outside it.
abbrev pub ChildrenStandWithin : Type 0
ChildrenStandWithin =
    ((end k : ℕ) (c : Content) (rest : List ℕ) (after : List Element) → AreOutside k after → children k (listed end k c rest ++ after) ≡ directly_in end k c rest after)
    × ((end k : ℕ) (c : Content) (rest : List ℕ) (after : List Element) → AreOutside k after → AreOutside (k + 1) (listed end k c rest ++ after))

-- a child that is looked for by its name is the first of the children that has it
abbrev pub ChildIsTheFirst : Type 0
ChildIsTheFirst = (k : ℕ) (name : List ℕ) (es : List Element) → child k name es ≡ find (λ p. bytes_eq p.0.name name) (children k es)
