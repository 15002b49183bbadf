-- What a line says, or what is wrong with it.
use Rattle.std.specs.Prelude.{ℕ, ◌&&◌, not, List, take, drop, Bool, true, false, if◌then◌else◌, Option, Some, None, Result, Ok, Err, codes}
use Rattle.std.specs.Str.{bytes_eq}
use Rattle.gas_model.specs.Limits.{is_node_within, is_arc_within}
use Rattle.base_types.specs.Ids.{is_id}
use Rattle.gas_model.specs.declared.rows.NodeRow.{NodeRow}
use Rattle.gas_model.specs.declared.rows.ArcText.{ArcText}
use Rattle.gas_model.specs.declared.rows.SetText.{SetText}
use Rattle.line_text.specs.Words.{word_len}
use Rattle.flat_text.specs.declared.fault.LineFault.{LineFault}
use Rattle.flat_text.specs.declared.fault.LineFault.TheVariants as fault
use Rattle.flat_text.specs.declared.line.Item.{Item}
use Rattle.flat_text.specs.declared.line.Item.TheVariants.{Node, Arc, Group, Decision, Set}
use Rattle.flat_text.specs.declared.line.Part.{Part}
use Rattle.flat_text.specs.declared.line.Part.TheVariants as part
use Rattle.flat_text.specs.Fields.{◌>>=◌, found, text_field, number_field, ended, head_at, arc_text}
use Rattle.flat_text.specs.Kinds.{kind_at, allow_of}

-- what comes after `node`
unfoldable pub node_at : List ℕ → Result NodeRow LineFault
node_at bytes = do
  id ← text_field bytes
  p_min ← number_field id.1
  p_max ← number_field p_min.1
  b_min ← number_field p_max.1
  b_max ← number_field b_min.1
  end ← ended b_max.1
  Ok (record { id = id.0; p_min = p_min.0; p_max = p_max.0; b_min = b_min.0; b_max = b_max.0 })

-- what comes after the word of a kind
unfoldable pub arc_at : List ℕ → List ℕ → Result ArcText LineFault
arc_at word bytes = do
  head ← head_at bytes
  kind ← kind_at word head.1
  end ← ended kind.1
  Ok (arc_text head.0 kind.0)

-- what comes after `group` and after `decision`
unfoldable pub id_at : List ℕ → Result (List ℕ) LineFault
id_at bytes = do
  id ← text_field bytes
  end ← ended id.1
  Ok id.0

-- what comes after `set`
unfoldable pub set_at : List ℕ → Result SetText LineFault
set_at bytes = do
  arc ← text_field bytes
  word ← text_field arc.1
  end ← ended word.1
  allow ← found (allow_of word.0)
  Ok (record { arc = arc.0; allow = allow })

-- a line by its word; `end` says no item
abbrev pub after_word : List ℕ → List ℕ → Result (Option Item) LineFault
after_word word rest =
    if bytes_eq word (codes "node") then (node_at rest >>= λ n. Ok (Some (Node n)))
    else if bytes_eq word (codes "group") then (id_at rest >>= λ id. Ok (Some (Group id)))
    else if bytes_eq word (codes "decision") then (id_at rest >>= λ id. Ok (Some (Decision id)))
    else if bytes_eq word (codes "set") then (set_at rest >>= λ s. Ok (Some (Set s)))
    else if bytes_eq word (codes "end") then (ended rest >>= λ _. Ok None)
    else (arc_at word rest >>= λ a. Ok (Some (Arc a)))

unfoldable pub line_at : List ℕ → Result (Option Item) LineFault
line_at bytes = after_word (take (word_len bytes) bytes) (drop (word_len bytes) bytes)

-- nodes come first, then arcs, then groups; decisions stand in a group, and sets in a decision
abbrev pub may_stand : Part → Item → Bool
may_stand part.Nodes (Node n) = true
may_stand place (Node n) = false
may_stand part.Nodes (Arc a) = true
may_stand part.Arcs (Arc a) = true
may_stand place (Arc a) = false
may_stand place (Group id) = true
may_stand part.Group (Decision id) = true
may_stand part.Decision (Decision id) = true
may_stand place (Decision id) = false
may_stand part.Decision (Set s) = true
may_stand place (Set s) = false

-- the part of the text after an item
abbrev pub part_after : Item → Part
part_after (Node n) = part.Nodes
part_after (Arc a) = part.Arcs
part_after (Group id) = part.Group
part_after (Decision id) = part.Decision
part_after (Set s) = part.Decision

-- the ids that an item only names have the limits of an id too
abbrev pub is_item_within : Item → Bool
is_item_within (Node n) = is_node_within n
is_item_within (Arc a) = is_arc_within a && is_id a.from && is_id a.to
is_item_within (Group id) = is_id id
is_item_within (Decision id) = is_id id
is_item_within (Set s) = is_id s.arc

-- an item at its place, within its limits
abbrev pub item_in : Part → Item → Result (Option Item) LineFault
item_in place item =
    if not (may_stand place item) then Err fault.NotFlat else if not (is_item_within item) then Err fault.OverLimit else Ok (Some item)

-- a line at its place, within its limits; `end` may stand at each place
abbrev pub line_of : Part → Option Item → Result (Option Item) LineFault
line_of place None = Ok None
line_of place (Some item) = item_in place item

unfoldable pub line_in : Part → List ℕ → Result (Option Item) LineFault
line_in place bytes = line_at bytes >>= line_of place
