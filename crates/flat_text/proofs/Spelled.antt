-- A line is read as what it spells, and spells what it is read as.
use Rattle.std.proofs.Common.{◌≡◌, ◌<◌, ℕ, zero, suc, List, [], ◌∷◌, ◌++◌, length, map, take, drop, take-append-drop, Bool, true, false, not, ◌&&◌, Option, Some, None, Result, Ok, ℤ, refl, sym, ap, ◌∙◌, inl, inr, arith}
use Rattle.std.specs.Prelude.{◌==◌, codes, nat_lt}
use Rattle.std.specs.List.{list_all}
use Rattle.std.specs.Str.{bytes_eq, IsAscii}
use Rattle.std.proofs.lemmas.Bool.Decides.{nat_tests}
use Rattle.std.proofs.lemmas.Str.{IsUtf8-from_ascii, is_utf8-from_IsUtf8}
use Rattle.std.proofs.lemmas.Bool.{and_parts}
use Rattle.gas_model.specs.declared.rows.NodeRow.{NodeRow}
use Rattle.base_types.specs.declared.states.Allow.{Allow}
use Rattle.base_types.specs.declared.states.Allow.TheVariants.{Opened, Shut, Active, Bypass, On}
use Rattle.gas_model.specs.declared.rows.ArcKind.{ArcKind}
use Rattle.gas_model.specs.declared.rows.ArcKind.TheVariants.{Pipe, Short, Resist, Loss, Valve, Control, Station}
use Rattle.gas_model.specs.declared.rows.ArcText.{ArcText}
use Rattle.gas_model.specs.declared.rows.SetText.{SetText}
use Rattle.base_types.specs.Ids.{is_id}
use Rattle.base_types.specs.Numbers.{is_pressure, is_flow}
use Rattle.gas_model.specs.Limits.{is_kind_within, is_node_within, is_arc_within}
use Rattle.line_text.specs.Lines.{HasNoFeed}
use Rattle.line_text.specs.Numerals.{signed_numeral}
use Rattle.line_text.specs.Words.{word_len, joined, is_field}
use Rattle.line_text.proofs.Fields.{IsVisible, visible_no_feed, word_cut, visible_field, signed_visible}
use Rattle.flat_text.specs.declared.fault.LineFault.{LineFault}
use Rattle.flat_text.specs.declared.line.Item.{Item}
use Rattle.flat_text.specs.declared.line.Item.TheVariants.{Node, Arc, Group, Decision, Set}
use Rattle.flat_text.specs.declared.line.Part.{Part}
use Rattle.flat_text.specs.declared.line.Part.TheVariants as part
use Rattle.flat_text.specs.Fields.{◌>>=◌, found, text_field, number_field, ended, HeadText, head_at, arc_text}
use Rattle.flat_text.specs.Kinds.{kind_at, allow_of}
use Rattle.flat_text.specs.Line.{node_at, arc_at, id_at, set_at, after_word, line_at, line_of, line_in, item_in, may_stand, is_item_within}
use Rattle.flat_text.specs.Spelling.{spaced, node_fields, kind_word, kind_numbers, arc_fields, allow_word, item_word, item_fields, item_line, item_ids, SpellsItem}
use Rattle.flat_text.proofs.Spaced.{carry, bound_ok, text_takes, near, number_takes, end_takes, text_again, number_again, id_visible, id_field, AreShort, AreNear, short_near, nearest_short, pressure_short, flow_short, numbers_before, uncut, spaced_numbers, no_word, head_text_before, near_head, IsHead, head_again, head_takes}
use Rattle.flat_text.proofs.KindTexts.{kind_short, near_kind, kind_kept, near_numbers, kind_again, kind_takes, if_ok, is_word, allow_again, allow_takes}

-- ---- nodes

abbrev node_numbers : NodeRow → List ℤ
node_numbers n = n.p_min ∷ n.p_max ∷ n.b_min ∷ n.b_max ∷ []

node_short : (n : NodeRow) → is_node_within n ≡ true → AreShort (node_numbers n)
node_short n e =
    let p = and_parts (is_id n.id && is_pressure n.p_min && is_pressure n.p_max && is_flow n.b_min) (is_flow n.b_max) e in
    let q = and_parts (is_id n.id && is_pressure n.p_min && is_pressure n.p_max) (is_flow n.b_min) p.0 in
    let r = and_parts (is_id n.id && is_pressure n.p_min) (is_pressure n.p_max) q.0 in
    let s = and_parts (is_id n.id) (is_pressure n.p_min) r.0 in
    (pressure_short n.p_min s.1, (pressure_short n.p_max r.1, (flow_short n.b_min q.1, (flow_short n.b_max p.1, tt))))

node_id : (n : NodeRow) → is_node_within n ≡ true → is_id n.id ≡ true
node_id n e =
    let p = and_parts (is_id n.id && is_pressure n.p_min && is_pressure n.p_max && is_flow n.b_min) (is_flow n.b_max) e in
    let q = and_parts (is_id n.id && is_pressure n.p_min && is_pressure n.p_max) (is_flow n.b_min) p.0 in
    let r = and_parts (is_id n.id && is_pressure n.p_min) (is_pressure n.p_max) q.0 in
    (and_parts (is_id n.id) (is_pressure n.p_min) r.0).0

-- a node with the nearest numbers
abbrev near_node : NodeRow → NodeRow
near_node n = record { id = n.id; p_min = near n.p_min; p_max = near n.p_max; b_min = near n.b_min; b_max = near n.b_max }

node_kept : (n : NodeRow) → AreNear (node_numbers n) → near_node n ≡ n
node_kept n h = let a = h.0 in let b = h.1.0 in let c = h.1.1.0 in let d = h.1.1.1.0 in rw (a, b, c, d) refl

node_at_again : (n : NodeRow) → is_field n.id ≡ true → node_at (spaced (node_fields n)) ≡ Ok (near_node n)
unfolding node_at
node_at_again n id =
    rw (
      text_again n.id (numbers_before (node_numbers n) []) id refl,
      number_again n.p_min (numbers_before (n.p_max ∷ n.b_min ∷ n.b_max ∷ []) []) refl,
      number_again n.p_max (numbers_before (n.b_min ∷ n.b_max ∷ []) []) refl,
      number_again n.b_min (numbers_before (n.b_max ∷ []) []) refl,
      number_again n.b_max [] refl,
    ) refl

node_joined : (b id r1 r2 : List ℕ) (zs : List ℤ) → b ≡ 32 ∷ (id ++ r1) → r1 ≡ numbers_before zs r2 → r2 ≡ [] → b ≡ 32 ∷ (id ++ numbers_before zs [])
node_joined b id r1 r2 zs e1 e2 e3 = rw (e1, e2, e3) refl

node_made : (id : List ℕ) (q r s t a b c d : ℤ) → q ≡ near a → r ≡ near b → s ≡ near c → t ≡ near d
    → (let n : NodeRow = record { id = id; p_min = q; p_max = r; b_min = s; b_max = t } in n) ≡ near_node (record { id = id; p_min = a; p_max = b; b_min = c; b_max = d })
node_made id q r s t a b c d e1 e2 e3 e4 = rw (e1, e2, e3, e4) refl

-- a node that was read with the nearest numbers
record NodeRead (bytes : List ℕ) (x : NodeRow) : Type 0 where
  node : NodeRow
  id : is_field node.id ≡ true
  text : bytes ≡ spaced (node_fields node)
  read : x ≡ near_node node

node_at_takes : (bytes : List ℕ) (n : NodeRow) → node_at bytes ≡ Ok n → NodeRead bytes n
unfolding node_at
node_at_takes bytes n e =
    let id = bound_ok (text_field bytes) _ n e in
    let p_min = bound_ok (number_field id.0.1) _ n id.2 in
    let p_max = bound_ok (number_field p_min.0.1) _ n p_min.2 in
    let b_min = bound_ok (number_field p_max.0.1) _ n p_max.2 in
    let b_max = bound_ok (number_field b_min.0.1) _ n b_min.2 in
    let end = bound_ok (ended b_max.0.1) _ n b_max.2 in
    let m : NodeRow = record { id = id.0.0; p_min = p_min.0.0; p_max = p_max.0.0; b_min = b_min.0.0; b_max = b_max.0.0 } in
    let made : m ≡ n = let is = end.2 in cc in
    let i = text_takes bytes id.0 id.1 in
    let a = number_takes id.0.1 p_min.0 p_min.1 in
    let b = number_takes p_min.0.1 p_max.0 p_max.1 in
    let c = number_takes p_max.0.1 b_min.0 b_min.1 in
    let d = number_takes b_min.0.1 b_max.0 b_max.1 in
    let y : NodeRow = record { id = id.0.0; p_min = a.number; p_max = b.number; b_min = c.number; b_max = d.number } in
    let numbers : id.0.1 ≡ numbers_before (node_numbers y) b_max.0.1 =
    uncut id.0.1 (node_numbers y) b_max.0.1 (p_min.0.1, a.text, (p_max.0.1, b.text, (b_min.0.1, c.text, (b_max.0.1, d.text, refl)))) in
    carry (NodeRead bytes) m n made (record {
      node = y;
      id = i.form;
      text = node_joined bytes id.0.0 id.0.1 b_max.0.1 (node_numbers y) i.text numbers (end_takes b_max.0.1 end.0 end.1);
      read = node_made id.0.0 p_min.0.0 p_max.0.0 b_min.0.0 b_max.0.0 a.number b.number c.number d.number a.read b.read c.read d.read;
    })

-- ---- arcs

-- what an arc within the limits keeps
record IsArc (a : ArcText) : Type 0 where
  id : is_id a.id ≡ true
  from : is_id a.from ≡ true
  to : is_id a.to ≡ true
  short : AreShort (a.q_min ∷ a.q_max ∷ kind_numbers a.kind)

arc_parts : (a : ArcText) → is_item_within (Arc a) ≡ true → IsArc a
arc_parts a e =
    let t = and_parts (is_arc_within a && is_id a.from) (is_id a.to) e in
    let f = and_parts (is_arc_within a) (is_id a.from) t.0 in
    let p = and_parts (is_id a.id && is_flow a.q_min && is_flow a.q_max) (is_kind_within a.kind) f.0 in
    let q = and_parts (is_id a.id && is_flow a.q_min) (is_flow a.q_max) p.0 in
    let r = and_parts (is_id a.id) (is_flow a.q_min) q.0 in
    record { id = r.0; from = f.1; to = t.1; short = (flow_short a.q_min r.1, (flow_short a.q_max q.1, kind_short a.kind p.1)) }

-- an arc with the nearest numbers
abbrev near_arc : ArcText → ArcText
near_arc a = record { id = a.id; from = a.from; to = a.to; q_min = near a.q_min; q_max = near a.q_max; kind = near_kind a.kind }

arc_kept : (a : ArcText) → AreNear (a.q_min ∷ a.q_max ∷ kind_numbers a.kind) → near_arc a ≡ a
arc_kept a h = let q = h.0 in let r = h.1.0 in let k = kind_kept a.kind h.1.1 in rw (q, r, k) refl

abbrev head_of : ArcText → HeadText
head_of a = record { id = a.id; from = a.from; to = a.to; q_min = a.q_min; q_max = a.q_max }

-- the fields of an arc
arc_spaced : (a : ArcText) → spaced (arc_fields a) ≡ head_text_before (head_of a) (numbers_before (kind_numbers a.kind) [])
arc_spaced a = ap (head_text_before (head_of a)) (spaced_numbers (kind_numbers a.kind))

arc_at_again : (a : ArcText) → IsHead (head_of a) → arc_at (kind_word a.kind) (spaced (arc_fields a)) ≡ Ok (near_arc a)
unfolding arc_at
arc_at_again a h = rw (arc_spaced a, head_again (head_of a) (numbers_before (kind_numbers a.kind) []) h (no_word (kind_numbers a.kind)), kind_again a.kind) refl

-- an arc that was read with the nearest numbers
record ArcRead (word bytes : List ℕ) (x : ArcText) : Type 0 where
  arc : ArcText
  head : IsHead (head_of arc)
  first : word ≡ kind_word arc.kind
  text : bytes ≡ spaced (arc_fields arc)
  read : x ≡ near_arc arc

arc_made : (h g : HeadText) (k j : ArcKind) → h ≡ near_head g → k ≡ near_kind j → arc_text h k ≡ near_arc (arc_text g j)
arc_made h g k j e f = rw (e, f) refl

arc_at_takes : (word bytes : List ℕ) (a : ArcText) → arc_at word bytes ≡ Ok a → ArcRead word bytes a
unfolding arc_at
arc_at_takes word bytes a e =
    let h = bound_ok (head_at bytes) _ a e in
    let k = bound_ok (kind_at word h.0.1) _ a h.2 in
    let end = bound_ok (ended k.0.1) _ a k.2 in
    let b : ArcText = arc_text h.0.0 k.0.0 in
    let made : b ≡ a = let is = end.2 in cc in
    let head = head_takes bytes h.0 h.1 in
    let kind = kind_takes word h.0.1 k.0 k.1 in
    let y : ArcText = arc_text head.head kind.kind in
    let numbers : h.0.1 ≡ numbers_before (kind_numbers kind.kind) [] = kind.text ∙ ap (numbers_before (kind_numbers kind.kind)) (end_takes k.0.1 end.0 end.1) in
    carry (ArcRead word bytes) b a made (record {
      arc = y;
      head = head.is;
      first = kind.first;
      text = head.text ∙ ap (head_text_before head.head) numbers ∙ sym (arc_spaced y);
      read = arc_made h.0.0 head.head k.0.0 kind.kind head.read kind.read;
    })

-- ---- groups, decisions and sets

id_at_again : (id : List ℕ) → is_field id ≡ true → id_at (spaced (id ∷ [])) ≡ Ok id
unfolding id_at
id_at_again id is = rw (text_again id [] is refl) refl

id_joined : (b id rest : List ℕ) → b ≡ 32 ∷ (id ++ rest) → rest ≡ [] → b ≡ spaced (id ∷ [])
id_joined b id rest e1 e2 = rw (e1, e2) refl

record IdRead (bytes id : List ℕ) : Type 0 where
  form : is_field id ≡ true
  text : bytes ≡ spaced (id ∷ [])

id_at_takes : (bytes id : List ℕ) → id_at bytes ≡ Ok id → IdRead bytes id
unfolding id_at
id_at_takes bytes id e =
    let x = bound_ok (text_field bytes) _ id e in
    let end = bound_ok (ended x.0.1) _ id x.2 in
    let made : x.0.0 ≡ id = let is = end.2 in cc in
    let t = text_takes bytes x.0 x.1 in
    carry (IdRead bytes) x.0.0 id made (record { form = t.form; text = id_joined bytes x.0.0 x.0.1 t.text (end_takes x.0.1 end.0 end.1) })

-- small bytes are ASCII
small_bytes : (bs : List ℕ) → list_all (λ b. nat_lt b 128) bs ≡ true → IsAscii bs
small_bytes [] e i = omega arith
small_bytes (b ∷ bs) e zero = let p = and_parts (nat_lt b 128) (list_all (λ b. nat_lt b 128) bs) e in grind (arith, nat_tests)
small_bytes (b ∷ bs) e (suc i) = small_bytes bs (and_parts (nat_lt b 128) (list_all (λ b. nat_lt b 128) bs) e).1 i

ascii_field : (w : List ℕ) → IsVisible w → 0 < length w → list_all (λ b. nat_lt b 128) w ≡ true → is_field w ≡ true
ascii_field w visible some small = visible_field w visible some (is_utf8-from_IsUtf8 w (IsUtf8-from_ascii w (small_bytes w small)))

allow_visible : (w : Allow) → IsVisible (allow_word w)
allow_visible Opened = refl
allow_visible Shut = refl
allow_visible Active = refl
allow_visible Bypass = refl
allow_visible On = refl

allow_field : (w : Allow) → is_field (allow_word w) ≡ true
allow_field Opened = ascii_field (codes "open") refl (omega arith) refl
allow_field Shut = ascii_field (codes "closed") refl (omega arith) refl
allow_field Active = ascii_field (codes "active") refl (omega arith) refl
allow_field Bypass = ascii_field (codes "bypass") refl (omega arith) refl
allow_field On = ascii_field (codes "on") refl (omega arith) refl

set_at_again : (s : SetText) → is_field s.arc ≡ true → set_at (spaced (s.arc ∷ allow_word s.allow ∷ [])) ≡ Ok s
unfolding set_at
set_at_again s is =
    rw (text_again s.arc (spaced (allow_word s.allow ∷ [])) is refl, text_again (allow_word s.allow) [] (allow_field s.allow) refl, allow_again s.allow) refl

set_joined : (b arc word r1 r2 : List ℕ) (w : Allow) → b ≡ 32 ∷ (arc ++ r1) → r1 ≡ 32 ∷ (word ++ r2) → r2 ≡ [] → word ≡ allow_word w → b ≡ spaced (arc ∷ allow_word w ∷ [])
set_joined b arc word r1 r2 w e1 e2 e3 e4 = rw (e1, e2, e3, e4) refl

record SetRead (bytes : List ℕ) (s : SetText) : Type 0 where
  form : is_field s.arc ≡ true
  text : bytes ≡ spaced (s.arc ∷ allow_word s.allow ∷ [])

set_at_takes : (bytes : List ℕ) (s : SetText) → set_at bytes ≡ Ok s → SetRead bytes s
unfolding set_at
set_at_takes bytes s e =
    let arc = bound_ok (text_field bytes) _ s e in
    let word = bound_ok (text_field arc.0.1) _ s arc.2 in
    let end = bound_ok (ended word.0.1) _ s word.2 in
    let allow = bound_ok (found (allow_of word.0.0)) _ s end.2 in
    let t : SetText = record { arc = arc.0.0; allow = allow.0 } in
    let made : t ≡ s = let is = allow.2 in cc in
    let a = text_takes bytes arc.0 arc.1 in
    let w = text_takes arc.0.1 word.0 word.1 in
    carry (SetRead bytes) t s made
    (record { form = a.form; text = set_joined bytes arc.0.0 word.0.0 arc.0.1 word.0.1 allow.0 a.text w.text (end_takes word.0.1 end.0 end.1) (allow_takes word.0.0 allow.0 allow.1) })

-- ---- lines

-- a word and its fields are read by the word
word_read : (word fields : List ℕ) → IsVisible word → word_len fields ≡ 0 → line_at (word ++ fields) ≡ after_word word fields
unfolding line_at
word_read word fields visible e =
    let cut = word_cut word fields visible e in
    ap (λ (w : List ℕ). after_word w (drop (word_len (word ++ fields)) (word ++ fields))) cut.0 ∙ ap (after_word word) cut.1

kind_visible : (k : ArcKind) → IsVisible (kind_word k)
kind_visible (Pipe law) = refl
kind_visible Short = refl
kind_visible (Resist law) = refl
kind_visible (Loss low high) = refl
kind_visible Valve = refl
kind_visible (Control in_min out_max red_min red_max) = refl
kind_visible (Station in_min out_max ratio_num ratio_den rise_max) = refl

-- the word of a kind is that of an arc
kind_after : (k : ArcKind) (rest : List ℕ) → after_word (kind_word k) rest ≡ (arc_at (kind_word k) rest >>= λ a. Ok (Some (Arc a)))
kind_after (Pipe law) rest = refl
kind_after Short rest = refl
kind_after (Resist law) rest = refl
kind_after (Loss low high) rest = refl
kind_after Valve rest = refl
kind_after (Control in_min out_max red_min red_max) rest = refl
kind_after (Station in_min out_max ratio_num ratio_den rise_max) rest = refl

-- an item with the nearest numbers
abbrev pub near_item : Item → Item
near_item (Node n) = Node (near_node n)
near_item (Arc a) = Arc (near_arc a)
near_item (Group id) = Group id
near_item (Decision id) = Decision id
near_item (Set s) = Set s

-- an item's line is read as the item with the nearest numbers
line_again : (x : Item) → list_all is_field (item_ids x) ≡ true → line_at (item_line x) ≡ Ok (Some (near_item x))
line_again (Node n) ids =
    word_read (codes "node") (spaced (node_fields n)) refl refl ∙ ap (λ (r : Result NodeRow LineFault). r >>= λ n. Ok (Some (Node n))) (node_at_again n (and_parts (is_field n.id) true ids).0)
line_again (Arc a) ids =
    let p = and_parts (is_field a.id) (is_field a.from && (is_field a.to && true)) ids in
    let q = and_parts (is_field a.from) (is_field a.to && true) p.1 in
    let h : IsHead (head_of a) = record { id = p.0; from = q.0; to = (and_parts (is_field a.to) true q.1).0 } in
    word_read (kind_word a.kind) (spaced (arc_fields a)) (kind_visible a.kind) refl ∙ kind_after a.kind (spaced (arc_fields a))
    ∙ ap (λ (r : Result ArcText LineFault). r >>= λ a. Ok (Some (Arc a))) (arc_at_again a h)
line_again (Group id) ids =
    word_read (codes "group") (spaced (id ∷ [])) refl refl
    ∙ ap (λ (r : Result (List ℕ) LineFault). r >>= λ id. Ok (Some (Group id))) (id_at_again id (and_parts (is_field id) true ids).0)
line_again (Decision id) ids =
    word_read (codes "decision") (spaced (id ∷ [])) refl refl
    ∙ ap (λ (r : Result (List ℕ) LineFault). r >>= λ id. Ok (Some (Decision id))) (id_at_again id (and_parts (is_field id) true ids).0)
line_again (Set s) ids =
    word_read (codes "set") (spaced (item_fields (Set s))) refl refl ∙ ap (λ (r : Result SetText LineFault). r >>= λ s. Ok (Some (Set s))) (set_at_again s (and_parts (is_field s.arc) true ids).0)

-- ---- numbers past 64 bits are over their limits, and so are the nearest numbers in their place

within_kept : (x : Item) → is_item_within x ≡ true → near_item x ≡ x
within_kept (Node n) e = ap Node (node_kept n (short_near (node_numbers n) (node_short n e)))
within_kept (Arc a) e = ap Arc (arc_kept a (short_near (a.q_min ∷ a.q_max ∷ kind_numbers a.kind) (arc_parts a e).short))
within_kept (Group id) e = refl
within_kept (Decision id) e = refl
within_kept (Set s) e = refl

near_kept : (x : Item) → is_item_within (near_item x) ≡ true → near_item x ≡ x
near_kept (Node n) e = ap Node (node_kept n (nearest_short (node_numbers n) (node_short (near_node n) e)))
near_kept (Arc a) e =
    let short = (arc_parts (near_arc a) e).short in
    let numbers : AreShort (map near (a.q_min ∷ a.q_max ∷ kind_numbers a.kind)) = (short.0, (short.1.0, carry AreShort _ _ (near_numbers a.kind) short.1.1)) in
    ap Arc (arc_kept a (nearest_short (a.q_min ∷ a.q_max ∷ kind_numbers a.kind) numbers))
near_kept (Group id) e = refl
near_kept (Decision id) e = refl
near_kept (Set s) e = refl

near_within : (x : Item) → is_item_within (near_item x) ≡ is_item_within x
near_within x = by (is_item_within x) (is_item_within (near_item x)) refl refl
  where
    by : (b c : Bool) → is_item_within x ≡ b → is_item_within (near_item x) ≡ c → is_item_within (near_item x) ≡ is_item_within x
    by true c p q = ap is_item_within (within_kept x p)
    by false true p q = ap is_item_within (near_kept x q)
    by false false p q = q ∙ sym p

near_stands : (place : Part) (x : Item) → may_stand place (near_item x) ≡ may_stand place x
near_stands part.Nodes (Node n) = refl
near_stands part.Arcs (Node n) = refl
near_stands part.Group (Node n) = refl
near_stands part.Decision (Node n) = refl
near_stands part.Nodes (Arc a) = refl
near_stands part.Arcs (Arc a) = refl
near_stands part.Group (Arc a) = refl
near_stands part.Decision (Arc a) = refl
near_stands place (Group id) = refl
near_stands place (Decision id) = refl
near_stands place (Set s) = refl

-- so an item with the nearest numbers is judged as the item itself
near_judged : (place : Part) (x : Item) → item_in place (near_item x) ≡ item_in place x
near_judged place x = by (is_item_within x) refl
  where
    by : (b : Bool) → is_item_within x ≡ b → item_in place (near_item x) ≡ item_in place x
    by true p = ap (item_in place) (within_kept x p)
    by false p = let over = near_within x ∙ p in rw (near_stands place x, over, p) refl

pub spelled_item : (place : Part) (bytes : List ℕ) (x : Item) → SpellsItem bytes x → line_in place bytes ≡ item_in place x
unfolding line_in
spelled_item place bytes x is =
    ap (λ (w : List ℕ). line_at w >>= line_of place) is.text ∙ ap (λ (r : Result (Option Item) LineFault). r >>= line_of place) (line_again x is.ids) ∙ near_judged place x

-- the ids of an item within the limits
ids_within : (x : Item) → is_item_within x ≡ true → list_all is_field (item_ids x) ≡ true
ids_within (Node n) e = let id = id_field n.id (node_id n e) in rw id refl
ids_within (Arc a) e = let p = arc_parts a e in let id = id_field a.id p.id in let from = id_field a.from p.from in let to = id_field a.to p.to in rw (id, from, to) refl
ids_within (Group id) e = let is = id_field id e in rw is refl
ids_within (Decision id) e = let is = id_field id e in rw is refl
ids_within (Set s) e = let is = id_field s.arc e in rw is refl

-- an item's line is read as the item
pub item_again : (place : Part) (x : Item) → may_stand place x ≡ true → is_item_within x ≡ true → line_in place (item_line x) ≡ Ok (Some x)
item_again place x stands within = spelled_item place (item_line x) x (record { ids = ids_within x within; text = refl }) ∙ rw (stands, within) refl

-- the line `end` says no item
pub end_again : (place : Part) → line_in place (joined (codes "end") []) ≡ Ok None
unfolding line_in
end_again place = rw (word_read (codes "end") [] refl refl) refl

-- ---- what was read is spelled so

-- what a line spells that was read with the nearest numbers
pub record ItemRead (bytes : List ℕ) (x : Item) : Type 0 where
  pub item : Item
  pub spells : SpellsItem bytes item
  pub read : x ≡ near_item item

abbrev pub Spells : List ℕ → Option Item → Type 0
Spells bytes None = bytes ≡ joined (codes "end") []
Spells bytes (Some x) = ItemRead bytes x

module _ (bytes : List ℕ) (x : Option Item) where
  abbrev word : List ℕ
  word = take (word_len bytes) bytes

  abbrev rest : List ℕ
  rest = drop (word_len bytes) bytes

  -- the bytes of a line with this first word
  whole : (first fields : List ℕ) → word ≡ first → rest ≡ fields → bytes ≡ first ++ fields
  whole first fields is others =
      sym (take-append-drop (word_len bytes) bytes) ∙ ap (λ (w : List ℕ). w ++ rest) is ∙ ap (λ (r : List ℕ). first ++ r) others

  is_node : word ≡ codes "node" → (node_at rest >>= λ n. Ok (Some (Node n))) ≡ Ok x → Spells bytes x
  is_node is e =
      let n = bound_ok (node_at rest) (λ n. Ok (Some (Node n))) x e in
      let same : Some (Node n.0) ≡ x = let h = n.2 in cc in
      let t = node_at_takes rest n.0 n.1 in
      let id = t.id in
      carry (Spells bytes) (Some (Node n.0)) x same
      (record { item = Node t.node; spells = record { ids = rw id refl; text = whole (codes "node") (spaced (node_fields t.node)) is t.text }; read = ap Node t.read })

  is_group : word ≡ codes "group" → (id_at rest >>= λ id. Ok (Some (Group id))) ≡ Ok x → Spells bytes x
  is_group is e =
      let id = bound_ok (id_at rest) (λ id. Ok (Some (Group id))) x e in
      let same : Some (Group id.0) ≡ x = let h = id.2 in cc in
      let t = id_at_takes rest id.0 id.1 in
      let form = t.form in
      carry (Spells bytes) (Some (Group id.0)) x same
      (record { item = Group id.0; spells = record { ids = rw form refl; text = whole (codes "group") (spaced (id.0 ∷ [])) is t.text }; read = refl })

  is_decision : word ≡ codes "decision" → (id_at rest >>= λ id. Ok (Some (Decision id))) ≡ Ok x → Spells bytes x
  is_decision is e =
      let id = bound_ok (id_at rest) (λ id. Ok (Some (Decision id))) x e in
      let same : Some (Decision id.0) ≡ x = let h = id.2 in cc in
      let t = id_at_takes rest id.0 id.1 in
      let form = t.form in
      carry (Spells bytes) (Some (Decision id.0)) x same
      (record { item = Decision id.0; spells = record { ids = rw form refl; text = whole (codes "decision") (spaced (id.0 ∷ [])) is t.text }; read = refl })

  is_set : word ≡ codes "set" → (set_at rest >>= λ s. Ok (Some (Set s))) ≡ Ok x → Spells bytes x
  is_set is e =
      let s = bound_ok (set_at rest) (λ s. Ok (Some (Set s))) x e in
      let same : Some (Set s.0) ≡ x = let h = s.2 in cc in
      let t = set_at_takes rest s.0 s.1 in
      let form = t.form in
      carry (Spells bytes) (Some (Set s.0)) x same
      (record { item = Set s.0; spells = record { ids = rw form refl; text = whole (codes "set") (spaced (item_fields (Set s.0))) is t.text }; read = refl })

  is_end : word ≡ codes "end" → (ended rest >>= λ _. Ok None) ≡ Ok x → Spells bytes x
  is_end is e =
      let z = bound_ok (ended rest) (λ _. Ok None) x e in
      let same : None ≡ x = let h = z.2 in cc in
      carry (Spells bytes) None x same (whole (codes "end") [] is (end_takes rest z.0 z.1))

  is_arc : (arc_at word rest >>= λ a. Ok (Some (Arc a))) ≡ Ok x → Spells bytes x
  is_arc e =
      let a = bound_ok (arc_at word rest) (λ a. Ok (Some (Arc a))) x e in
      let same : Some (Arc a.0) ≡ x = let h = a.2 in cc in
      let t = arc_at_takes word rest a.0 a.1 in
      let id = t.head.id in
      let from = t.head.from in
      let to = t.head.to in
      carry (Spells bytes) (Some (Arc a.0)) x same
      (record { item = Arc t.arc; spells = record { ids = rw (id, from, to) refl; text = whole (kind_word t.arc.kind) (spaced (arc_fields t.arc)) t.first t.text }; read = ap Arc t.read })

  pub line_takes : line_at bytes ≡ Ok x → Spells bytes x
  unfolding line_at
  line_takes e =
      elim (if_ok (bytes_eq word (codes "node")) _ _ x e) [
        | inl p ↦ is_node (is_word word _ p.0) p.1
        | inr p ↦ elim (if_ok (bytes_eq word (codes "group")) _ _ x p) [
          | inl q ↦ is_group (is_word word _ q.0) q.1
          | inr q ↦ elim (if_ok (bytes_eq word (codes "decision")) _ _ x q) [
            | inl r ↦ is_decision (is_word word _ r.0) r.1
            | inr r ↦ elim (if_ok (bytes_eq word (codes "set")) _ _ x r) [
              | inl s ↦ is_set (is_word word _ s.0) s.1
              | inr s ↦ elim (if_ok (bytes_eq word (codes "end")) _ _ x s) [
                | inl t ↦ is_end (is_word word _ t.0) t.1
                | inr t ↦ is_arc t
              ]
            ]
          ]
        ]
      ]

-- an item within the limits that was read is spelled by its line
pub item_takes : (bytes : List ℕ) (x : Item) → line_at bytes ≡ Ok (Some x) → is_item_within x ≡ true → SpellsItem bytes x
item_takes bytes x e within =
    let t = line_takes bytes (Some x) e in
    let kept : near_item t.item ≡ t.item = near_kept t.item (ap is_item_within (sym t.read) ∙ within) in
    carry (SpellsItem bytes) t.item x (sym (t.read ∙ kept)) t.spells

-- ---- no line has a line feed inside

feedless : (a b : List ℕ) → HasNoFeed a → HasNoFeed b → HasNoFeed (a ++ b)
feedless [] b p q = q
feedless (x ∷ a) b p q =
    let h = and_parts (not (x == 10)) (list_all (λ b. not (b == 10)) a) p in
    rw h.0 (feedless a b h.1 q)

abbrev pub AreVisible : List (List ℕ) → Type 0
AreVisible [] = Unit {0}
AreVisible (field ∷ fields) = IsVisible field × AreVisible fields

fields_feedless : (fields : List (List ℕ)) → AreVisible fields → HasNoFeed (spaced fields)
fields_feedless [] e = refl
fields_feedless (w ∷ fields) e = feedless w (spaced fields) (visible_no_feed w e.0) (fields_feedless fields e.1)

numbers_visible : (zs : List ℤ) → AreVisible (map signed_numeral zs)
numbers_visible [] = tt
numbers_visible (z ∷ zs) = (signed_visible z, numbers_visible zs)

word_visible : (x : Item) → IsVisible (item_word x)
word_visible (Node n) = refl
word_visible (Arc a) = kind_visible a.kind
word_visible (Group id) = refl
word_visible (Decision id) = refl
word_visible (Set s) = refl

fields_visible : (x : Item) → is_item_within x ≡ true → AreVisible (item_fields x)
fields_visible (Node n) within = (id_visible n.id (node_id n within), numbers_visible (node_numbers n))
fields_visible (Arc a) within =
    let p = arc_parts a within in
    (id_visible a.id p.id, (id_visible a.from p.from, (id_visible a.to p.to, numbers_visible (a.q_min ∷ a.q_max ∷ kind_numbers a.kind))))
fields_visible (Group id) within = (id_visible id within, tt)
fields_visible (Decision id) within = (id_visible id within, tt)
fields_visible (Set s) within = (id_visible s.arc within, (allow_visible s.allow, tt))

pub item_feedless : (x : Item) → is_item_within x ≡ true → HasNoFeed (item_line x)
item_feedless x within = feedless (item_word x) (spaced (item_fields x)) (visible_no_feed (item_word x) (word_visible x)) (fields_feedless (item_fields x) (fields_visible x within))
