-- The rows that the items of a text make: a group has the decisions that follow it, and a decision the sets.
use Rattle.std.specs.Prelude.{List, [], ◌∷◌}
use Rattle.gas_model.specs.declared.rows.NodeRow.{NodeRow}
use Rattle.gas_model.specs.declared.rows.ArcText.{ArcText}
use Rattle.gas_model.specs.declared.rows.SetText.{SetText}
use Rattle.gas_model.specs.declared.rows.DecisionText.{DecisionText}
use Rattle.gas_model.specs.declared.rows.GroupText.{GroupText}
use Rattle.gas_model.specs.declared.rows.Rows.{Rows}
use Rattle.flat_text.specs.declared.line.Item.{Item}
use Rattle.flat_text.specs.declared.line.Item.TheVariants.{Node, Arc, Group, Decision, Set}

abbrev pub nodes_in : List Item → List NodeRow
nodes_in [] = []
nodes_in (Node n ∷ items) = n ∷ nodes_in items
nodes_in (item ∷ items) = nodes_in items

abbrev pub arcs_in : List Item → List ArcText
arcs_in [] = []
arcs_in (Arc a ∷ items) = a ∷ arcs_in items
arcs_in (item ∷ items) = arcs_in items

-- the sets that stand in front
abbrev pub sets_before : List Item → List SetText
sets_before [] = []
sets_before (Set s ∷ items) = s ∷ sets_before items
sets_before (item ∷ items) = []

-- the decisions that stand before the next group
abbrev pub decisions_before : List Item → List DecisionText
decisions_before [] = []
decisions_before (Decision id ∷ items) = record { id = id; sets = sets_before items } ∷ decisions_before items
decisions_before (Set s ∷ items) = decisions_before items
decisions_before (item ∷ items) = []

abbrev pub groups_in : List Item → List GroupText
groups_in [] = []
groups_in (Group id ∷ items) = record { id = id; decisions = decisions_before items } ∷ groups_in items
groups_in (item ∷ items) = groups_in items

abbrev pub rows_in : List Item → Rows
rows_in items = record { nodes = nodes_in items; arcs = arcs_in items; groups = groups_in items }
