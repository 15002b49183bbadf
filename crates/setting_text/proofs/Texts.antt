-- The compact text of texts, whole numbers and lists of them: it is UTF-8, and it is read back.
use Rattle.std.proofs.Common.{◌≡◌, ℕ, suc, ◌^◌, ◌<◌, ◌≤◌, List, [], ◌∷◌, Bool, true, false, Some, option_map, option_and_then, negsuc, refl, sym, ap, ◌∙◌, arith, IsUtf8, append-nil}
use Rattle.std.specs.Prelude.{⊤, codes}
use Rattle.std.proofs.lemmas.Str.{IsUtf8-append, IsUtf8-nil, IsUtf8-from_ascii}
use Rattle.std.proofs.lemmas.Fmt.{IsAscii-decimal, IsAscii-signed}
use Rattle.json.specs.Lex.{tokens}
use Rattle.json.specs.Print.{IsNumber}
use Rattle.json.specs.Json as json
use Rattle.json.specs.Tree as tree
use Rattle.json.specs.Tree.{json_tokens, HasNumbers, ItemsHaveNumbers}
use Rattle.json.proofs.Printed.Decimals.{IsNumber-decimal, IsNumber-signed_decimal}
use Rattle.json.proofs.Printed.Tokens.{tokens-print}
use Rattle.json.proofs.Printed.Trees.{ArePrintable-json_tokens, value-json_tokens}
use Rattle.json.proofs.Printed.Utf8.{IsUtf8-quoted, IsUtf8-are_ascii}
use Rattle.serde_json.specs.Data.{Num, unsigned, negative, Data, null, boolean, number, string, array, object, Items, no_items, item, Members, no_members, member, depth, items_depth}
use Rattle.serde_json.specs.Read.{read, number_of, of_json, of_items, max_depth}
use Rattle.serde_json.specs.Written.{number_text, outline, items_outline, compact_text, items_text, members_text, comma_if}
use Rattle.serde_json.proofs.Numbers.{number_of-decimal, number_of-negative}
use Rattle.serde_json.proofs.Texts.{print-outline}
use Rattle.setting_text.proofs.Whole.{three}

-- the text of the number is ASCII, is a number, and is read as this one
pub record IsWhole (n : Num) : Type 0 where
  pub numeral : IsNumber (number_text n)
  pub back : number_of (number_text n) ≡ Some n
  pub utf8 : IsUtf8 (number_text n)

-- a number that isn't below zero
pub whole_unsigned : (n : ℕ) → n < 2 ^ 63 → IsWhole (unsigned n)
whole_unsigned n h = record {
  numeral = IsNumber-decimal n (omega arith);
  back = number_of-decimal n (omega arith);
  utf8 = IsUtf8-from_ascii _ (IsAscii-decimal n (omega arith));
}

-- a number below zero
pub whole_negative : (n : ℕ) → n < 2 ^ 63 → IsWhole (negative (negsuc n))
whole_negative n h = record {
  numeral = IsNumber-signed_decimal (negsuc n) h;
  back = number_of-negative n h;
  utf8 = IsUtf8-from_ascii _ (IsAscii-signed (negsuc n) h);
}

-- texts in UTF-8, whole numbers, and lists of such
abbrev mutual
  pub IsSimple : Data → Type 0
  IsSimple null = ⊤
  IsSimple (boolean b) = ⊤
  IsSimple (number n) = IsWhole n
  IsSimple (string s) = IsUtf8 s
  IsSimple (array ds) = AreSimple ds
  IsSimple (object ms) = ⊥

  pub AreSimple : Items → Type 0
  AreSimple no_items = ⊤
  AreSimple (item d ds) = IsSimple d × AreSimple ds

-- the outline is read as the value
record Reads (d : Data) : Type 0 where
  pub value : of_json (outline d) ≡ Some d
  pub numbers : HasNumbers (outline d)
  pub depth_is : tree.depth (outline d) ≡ depth d

-- the outline of a list is read as the list
record ReadsItems (ds : Items) : Type 0 where
  pub value : of_items (items_outline ds) ≡ Some ds
  pub numbers : ItemsHaveNumbers (items_outline ds)
  pub depth_is : tree.items_depth (items_outline ds) ≡ items_depth ds

mutual
  reads : (d : Data) → IsSimple d → Reads d
  reads null h = record { value = refl; numbers = tt; depth_is = refl }
  reads (boolean b) h = record { value = refl; numbers = tt; depth_is = refl }
  reads (number n) h = record {
    value = ap (option_map number) h.back;
    numbers = h.numeral;
    depth_is = refl;
  }
  reads (string s) h = record { value = refl; numbers = tt; depth_is = refl }
  reads (array ds) h =
      let r = reads_items ds h in
      record { value = ap (option_map array) r.value; numbers = r.numbers; depth_is = ap suc r.depth_is }
  reads (object ms) h = absurd h

  reads_items : (ds : Items) → AreSimple ds → ReadsItems ds
  reads_items no_items h = record { value = refl; numbers = tt; depth_is = refl }
  reads_items (item d ds) h =
      let r = reads d h.0 in
      let rs = reads_items ds h.1 in
      record {
        value = ap (option_and_then (λ d. option_map (item d) (of_items (items_outline ds)))) r.value ∙ ap (option_map (item d)) rs.value;
        numbers = (r.numbers, rs.numbers);
        depth_is = omega (arith, r.depth_is, rs.depth_is);
      }

-- a comma, or none
comma_utf8 : (later : Bool) → IsUtf8 (comma_if later)
comma_utf8 true = IsUtf8-are_ascii (44 ∷ []) refl
comma_utf8 false = IsUtf8-nil

mutual
  pub utf8_text : (d : Data) → IsSimple d → IsUtf8 (compact_text d)
  utf8_text null h = IsUtf8-are_ascii _ refl
  utf8_text (boolean true) h = IsUtf8-are_ascii _ refl
  utf8_text (boolean false) h = IsUtf8-are_ascii _ refl
  utf8_text (number n) h = h.utf8
  utf8_text (string s) h = IsUtf8-quoted s h
  utf8_text (array ds) h = IsUtf8-append (91 ∷ []) _ (IsUtf8-are_ascii (91 ∷ []) refl) (utf8_items false ds h)
  utf8_text (object ms) h = absurd h

  utf8_items : (later : Bool) (ds : Items) → AreSimple ds → IsUtf8 (items_text later ds)
  utf8_items later no_items h = IsUtf8-are_ascii (93 ∷ []) refl
  utf8_items later (item d ds) h = IsUtf8-append _ _ (comma_utf8 later) (IsUtf8-append _ _ (utf8_text d h.0) (utf8_items true ds h.1))

-- a member's text
one_member : (later : Bool) (k : List ℕ) (d : Data) (ms : Members) → IsUtf8 k → IsSimple d → IsUtf8 (members_text true ms) → IsUtf8 (members_text later (member k d ms))
one_member later k d ms hk hd h =
    IsUtf8-append _ _ (comma_utf8 later) (IsUtf8-append _ _ (IsUtf8-quoted k hk) (IsUtf8-append (58 ∷ []) _ (IsUtf8-are_ascii (58 ∷ []) refl) (IsUtf8-append _ _ (utf8_text d hd) h)))

module _ (a d n : Data) (ha : IsSimple a) (hd : IsSimple d) (hn : IsSimple n) where
  abbrev text : List ℕ
  text = compact_text (three a d n)

  tokens_are : tokens text ≡ json_tokens (outline (three a d n))
  tokens_are = ap tokens (sym (print-outline (three a d n))) ∙ tokens-print _ (ArePrintable-json_tokens (outline (three a d n)) ((reads a ha).numbers, ((reads d hd).numbers, ((reads n hn).numbers, tt))))

  value_is : of_json (outline (three a d n)) ≡ Some (three a d n)
  value_is = rw ((reads a ha).value, (reads d hd).value, (reads n hn).value) refl

  pub read_three : depth (three a d n) ≤ max_depth → read text ≡ Some (three a d n)
  read_three shallow =
      let deep : tree.depth (outline (three a d n)) ≤ depth (three a d n) = omega (arith, (reads a ha).depth_is, (reads d hd).depth_is, (reads n hn).depth_is) in
      let j = outline (three a d n) in
      ap (λ o. option_and_then of_json (option_and_then (λ p. json.if_last p.0 p.1) o))
      (ap (json.value max_depth) (tokens_are ∙ sym (append-nil (json_tokens j))) ∙ value-json_tokens j max_depth [] (omega (arith, deep)))
      ∙ value_is

  pub utf8_three : IsUtf8 text
  utf8_three =
      let end = IsUtf8-are_ascii (125 ∷ []) refl in
      let nodes = one_member true (codes "nodes") n no_members (IsUtf8-are_ascii _ refl) hn end in
      let decisions = one_member true (codes "decisions") d (member (codes "nodes") n no_members) (IsUtf8-are_ascii _ refl) hd nodes in
      let arcs = one_member false (codes "arcs") a (member (codes "decisions") d (member (codes "nodes") n no_members)) (IsUtf8-are_ascii _ refl) ha decisions in
      IsUtf8-append (123 ∷ []) _ (IsUtf8-are_ascii (123 ∷ []) refl) arcs
