-- The text of what the lines of a tree cite, and the problems that agree with a problem at what such a text lists.
use Rattle.std.specs.Prelude.{◌≡◌, ℕ, List, [], ◌∷◌, ◌++◌, length, codes, Bool, true, false, if◌then◌else◌, slice_get}
use Rattle.std.specs.List.{flat_map, range_with_len}
use Rattle.std.specs.Option.{option_map_or}
use Rattle.base_types.specs.declared.variables.Var.TheVariants.{Flow, Square}
use Rattle.gas_model.specs.Rows.{Network}
use Rattle.tree_cert.specs.declared.line.Line.{Line}
use Rattle.tree_cert.specs.Spelling.{AreLines}
use Rattle.core_rules.specs.Reads.{Item, Supply, Law, End}
use Rattle.core_rules.specs.Cores.{is_among, SameShape, SameAt}
use Rattle.core_rules.specs.Theorems.{Cites}

-- ---- lines
abbrev pub node_id : Network → ℕ → List ℕ
node_id p n = option_map_or (λ node. node.id) (slice_get p.nodes n) []

abbrev pub arc_id : Network → ℕ → List ℕ
arc_id p a = option_map_or (λ row. row.id) (slice_get p.arcs a) []

-- the least, or the greatest
abbrev pub side_word : (low : Bool) → List ℕ
side_word true = codes " low"
side_word false = codes " high"

-- the line of an item without its line feed: what it is, the id of its node or arc, and which of two bounds
abbrev pub item_words : Network → Item → List ℕ
item_words p (Supply n low) = codes "supply " ++ node_id p n ++ side_word low
item_words p (Law a) = codes "law " ++ arc_id p a
item_words p (End (Flow a) low) = codes "flow " ++ arc_id p a ++ side_word low
item_words p (End (Square n) low) = codes "square " ++ node_id p n ++ side_word low

abbrev pub item_line : Network → Item → List ℕ
item_line p i = item_words p i ++ 10 ∷ []

-- ---- all items, in the order of a core
-- the items at each of so many nodes or arcs
abbrev pub each_place : ℕ → (ℕ → List Item) → List Item
each_place count items = flat_map items (range_with_len 0 count)

abbrev pub supplies_at : ℕ → List Item
supplies_at n = Supply n true ∷ Supply n false ∷ []

abbrev pub laws_at : ℕ → List Item
laws_at a = Law a ∷ []

abbrev pub flows_at : ℕ → List Item
flows_at a = End (Flow a) true ∷ End (Flow a) false ∷ []

abbrev pub squares_at : ℕ → List Item
squares_at n = End (Square n) true ∷ End (Square n) false ∷ []

-- supplies, laws, bounds of flows and bounds of squares, all in the order of the problem
abbrev pub items_of : Network → List Item
items_of p =
    each_place (length p.nodes) supplies_at ++ (each_place (length p.arcs) laws_at
    ++ (each_place (length p.arcs) flows_at ++ each_place (length p.nodes) squares_at))

-- ---- texts
-- the lines of those items that are cited
abbrev pub cited_line : Network → (Item → Bool) → Item → List ℕ
cited_line p cited i = if cited i then item_line p i else []

abbrev pub cited_lines : Network → (Item → Bool) → List Item → List ℕ
cited_lines p cited items = flat_map (cited_line p cited) items

-- the one text of the items that are cited: a first line, a line for each in its order, and a last line
abbrev pub core_text : Network → (cited : Item → Bool) → List ℕ
core_text p cited = codes "gascore 1" ++ 10 ∷ (cited_lines p cited (items_of p) ++ (codes "end" ++ 10 ∷ []))

-- The text of what the lines of another text cite, which are those of a tree that passes with no box left open.
pub record IsCoreOf (p : Network) (text core : List ℕ) : Type 0 where
  pub lines : List Line
  pub are_lines : AreLines text lines
  pub cited : List Item
  pub cites : Cites p lines cited
  pub is_text : core ≡ core_text p (λ i. is_among i cited)

-- ---- agreement
-- one of the text's lines after its first is that of the item
pub record Lists (p : Network) (core : List ℕ) (i : Item) : Type 0 where
  pub front : List ℕ
  pub rest : List ℕ
  pub is : core ≡ front ++ (10 ∷ (item_line p i ++ rest))

-- A problem with the same nodes and arcs by id, order, ends and kind, the same groups, and the same numbers at each item
-- that the core lists. All other numbers may be any.
pub record Agrees (p : Network) (core : List ℕ) (p2 : Network) : Type 0 where
  pub shape : SameShape p p2
  pub numbers : (i : Item) → Lists p core i → SameAt p p2 i
