-- Rows of the items so far, to which further items may add.
use Rattle.std.specs.Prelude.{◌≡◌, ℕ, List, [], ◌∷◌, ◌++◌, Option, Some, None}
use Rattle.gas_model.specs.declared.rows.SetText.{SetText}
use Rattle.gas_model.specs.declared.rows.GroupText.{GroupText}
use Rattle.gas_model.specs.declared.rows.Rows.{Rows}
use Rattle.flat_text.specs.declared.line.Item.{Item}
use Rattle.flat_text.specs.declared.line.Part.{Part}
use Rattle.flat_text.specs.declared.line.Part.TheVariants as part
use Rattle.flat_text.specs.declared.draft.Tail.{Tail}
use Rattle.flat_text.specs.declared.draft.Tail.TheVariants as tail
use Rattle.flat_text.specs.declared.draft.Draft.{Draft}
use Rattle.flat_text.specs.Line.{part_after}
use Rattle.flat_text.specs.Items.{nodes_in, arcs_in, sets_before, decisions_before, groups_in}

-- the part of the text that a tail stands in
abbrev pub part_of : Tail → Part
part_of tail.Nodes = part.Nodes
part_of tail.Arcs = part.Arcs
part_of (tail.Group g) = part.Group
part_of (tail.Decision g d) = part.Decision

-- the open group, if there is one, with all that it has so far
abbrev pub closed : Tail → Option GroupText
closed tail.Nodes = None
closed tail.Arcs = None
closed (tail.Group g) = Some g
closed (tail.Decision g d) = Some (record g { decisions = g.decisions ++ d ∷ [] })

-- the open group, if there is one, with what these items add to it
abbrev pub opened : Tail → List Item → List GroupText
opened tail.Nodes items = []
opened tail.Arcs items = []
opened (tail.Group g) items = record g { decisions = g.decisions ++ decisions_before items } ∷ []
opened (tail.Decision g d) items =
    record g { decisions = g.decisions ++ record d { sets = d.sets ++ sets_before items } ∷ decisions_before items } ∷ []

-- the open group with one more decision
abbrev pub with_decision : Tail → List ℕ → Tail
with_decision (tail.Group g) id = tail.Decision g (record { id = id; sets = [] })
with_decision (tail.Decision g d) id = tail.Decision (record g { decisions = g.decisions ++ d ∷ [] }) (record { id = id; sets = [] })
with_decision none id = tail.Arcs

-- the open decision with one more set
abbrev pub with_set : Tail → SetText → Tail
with_set (tail.Decision g d) s = tail.Decision g (record d { sets = d.sets ++ s ∷ [] })
with_set other s = other

-- the rows of the items so far and of these
abbrev pub drafted : Draft → List Item → Rows
drafted draft items = record {
  nodes = draft.nodes ++ nodes_in items;
  arcs = draft.arcs ++ arcs_in items;
  groups = draft.groups ++ (opened draft.tail items ++ groups_in items);
}

-- the item was added: the rows of any further items are those of this one before them
pub record Adds (before : Draft) (item : Item) (after : Draft) : Type 0 where
  pub rows : (items : List Item) → drafted after items ≡ drafted before (item ∷ items)
  pub part : part_of after.tail ≡ part_after item
