-- Attributes and children of an element, in a list of elements in the order of their start tags.
use Rattle.std.specs.Prelude.{ℕ, ◌+◌, ◌&&◌, ◌==◌, nat_le, List, [], ◌∷◌, Bool, if◌then◌else◌, Option, Some, None}
use Rattle.std.specs.Str.{bytes_eq}
use Rattle.tag_outline.specs.declared.outline.Element.{Element}

-- the value of the attribute of a name
abbrev pub value_of : List ℕ → List (List ℕ × List ℕ) → Option (List ℕ)
value_of name [] = None
value_of name (a ∷ as_) = if bytes_eq a.0 name then Some a.1 else value_of name as_

-- an element with those that follow it in the list
abbrev pub Placed : Type 0
Placed = Element × List Element

abbrev pub is_child : ℕ → List ℕ → Element → Bool
is_child depth name e = (e.depth == depth + 1) && bytes_eq e.name name

-- the first child of a name, among the elements that follow one at a depth
abbrev pub child : ℕ → List ℕ → List Element → Option Placed
child depth name [] = None
child depth name (e ∷ es) =
    if nat_le e.depth depth then None
    else if is_child depth name e then Some (e, es)
    else child depth name es

-- the next child, among the elements that follow one at a depth
abbrev pub next_child : ℕ → List Element → Option Placed
next_child depth [] = None
next_child depth (e ∷ es) =
    if nat_le e.depth depth then None
    else if e.depth == depth + 1 then Some (e, es)
    else next_child depth es

-- all children, among the elements that follow one at a depth
abbrev pub children : ℕ → List Element → List Placed
children depth [] = []
children depth (e ∷ es) =
    if nat_le e.depth depth then []
    else if e.depth == depth + 1 then (e, es) ∷ children depth es
    else children depth es

-- all children of a name, among the elements that follow one at a depth
abbrev pub children_named : ℕ → List ℕ → List Element → List Placed
children_named depth name [] = []
children_named depth name (e ∷ es) =
    if nat_le e.depth depth then []
    else if is_child depth name e then (e, es) ∷ children_named depth name es
    else children_named depth name es
