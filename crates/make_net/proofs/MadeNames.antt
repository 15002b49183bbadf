-- The names of made nodes and arcs: they are ids, and no two are the same.
use Rattle.std.proofs.Common.{◌≡◌, ◌≢◌, ℕ, zero, suc, ◌+◌, ◌<◌, ◌≤◌, ◌^◌, ◌==◌, ◌&&◌, ◌||◌, ◌⊎◌, inl, inr, Bool, true, false, cond, not, leb, List, [], ◌∷◌, ◌++◌, length, map, drop, Some, refl, sym, ap, ◌∙◌, arith}
use Rattle.std.specs.Prelude.{codes}
use Rattle.std.specs.Char.{is_ascii_digit}
use Rattle.std.specs.List.{list_all, list_any, range_with_len}
use Rattle.std.specs.Str.{bytes_eq, is_utf8, IsAscii}
use Rattle.std.proofs.lemmas.Bool.{and_parts, le-leb, leb-true, ne_eqb, cases_lt}
use Rattle.std.proofs.lemmas.Slice.Eq.{bytes_eq-Decides}
use Rattle.std.proofs.lemmas.Str.{IsUtf8-from_ascii, is_utf8-from_IsUtf8}
use Rattle.std.proofs.lemmas.Str.Ascii.{IsAscii-cons}
use Rattle.std.proofs.lemmas.Fmt.{length-decimal-le}
use Rattle.base_types.specs.Ids.{is_id_byte, is_id}
use Rattle.line_text.specs.Numerals.{numeral, natural}
use Rattle.line_text.proofs.Decimals.{numeral_form, numeral_is_decimal}
use Rattle.line_text.proofs.Numbers.{natural_again}
use Rattle.line_text.proofs.Fields.{numeral_ascii}
use Rattle.make_net.specs.Made.{node_name, arc_name}

-- ---- ids
pub plain_utf8 : (ds : List ℕ) → IsAscii ds → is_utf8 ds ≡ true
plain_utf8 ds ascii = is_utf8-from_IsUtf8 ds (IsUtf8-from_ascii ds ascii)

digit_byte : (b : ℕ) → is_ascii_digit b ≡ true → is_id_byte b ≡ true
digit_byte b d =
    let p = and_parts (leb 48 b) (leb b 57) d in
    let high : b ≤ 57 = leb-true b 57 p.1 in
    let low : 33 ≤ b = omega (arith, leb-true 48 b p.0) in
    let other : (b == 127) ≡ false = ne_eqb b 127 (λ h. omega (arith, h, high)) in
    rw (le-leb 33 b low, other) refl

digit_bytes : (ds : List ℕ) → list_all is_ascii_digit ds ≡ true → list_all is_id_byte ds ≡ true
digit_bytes [] all = refl
digit_bytes (d ∷ ds) all =
    let p = and_parts (is_ascii_digit d) (list_all is_ascii_digit ds) all in
    rw (digit_byte d p.0, digit_bytes ds p.1) refl

short : (n : ℕ) → n < 10 ^ 4 → length (numeral n) ≤ 4
short n lt = let wide : n < 10 ^ 64 = omega arith in let held : n < 2 ^ 64 = omega arith in rw (numeral_is_decimal n wide) (length-decimal-le 4 n (omega arith) lt held)

lettered : (letter n : ℕ) → is_id_byte letter ≡ true → letter < 128 → n < 10 ^ 4 → is_id (letter ∷ numeral n) ≡ true
lettered letter n byte ascii lt =
    let len : suc (length (numeral n)) ≤ 200 = omega (arith, short n lt) in
    let some : (suc (length (numeral n)) == 0) ≡ false = ne_eqb (suc (length (numeral n))) 0 (λ h. omega (arith, h)) in
    let text : is_utf8 (letter ∷ numeral n) ≡ true = is_utf8-from_IsUtf8 _ (IsUtf8-from_ascii _ (IsAscii-cons letter (numeral n) ascii (numeral_ascii n))) in
    rw (some, le-leb (suc (length (numeral n))) 200 len, byte, digit_bytes (numeral n) (numeral_form n).0, text) refl

pub node_is_id : (i : ℕ) → i < 10 ^ 4 → is_id (node_name i) ≡ true
node_is_id i lt = lettered 110 i refl (omega arith) lt

pub arc_is_id : (i : ℕ) → i < 10 ^ 4 → is_id (arc_name i) ≡ true
arc_is_id i lt = by (i == 0)
  where
    by : (b : Bool) → is_id (cond b (codes "v") (codes "p") ++ numeral i) ≡ true
    by true = lettered 118 i refl (omega arith) lt
    by false = lettered 112 i refl (omega arith) lt

-- ---- no two are the same
numeral_once : (i j : ℕ) → numeral i ≡ numeral j → i ≡ j
numeral_once i j e = let same : Some i ≡ Some j = sym (natural_again i) ∙ ap natural e ∙ natural_again j in cc

apart : (xs ys : List ℕ) → xs ≢ ys → bytes_eq xs ys ≡ false
apart xs ys ne = grind (arith, bytes_eq-Decides xs ys)

pub alike : (xs : List ℕ) → bytes_eq xs xs ≡ true
alike xs = grind (arith, bytes_eq-Decides xs xs)

pub nodes_apart : (i j : ℕ) → i ≢ j → bytes_eq (node_name i) (node_name j) ≡ false
nodes_apart i j ne = apart (node_name i) (node_name j) (λ e. ne (numeral_once i j (ap (drop 1) e)))

digits_left : (i : ℕ) → drop 1 (arc_name i) ≡ numeral i
digits_left i = by (i == 0)
  where
    by : (b : Bool) → drop 1 (cond b (codes "v") (codes "p") ++ numeral i) ≡ numeral i
    by true = refl
    by false = refl

pub arcs_apart : (i j : ℕ) → i ≢ j → bytes_eq (arc_name i) (arc_name j) ≡ false
arcs_apart i j ne = apart (arc_name i) (arc_name j) (λ e. ne (numeral_once i j (sym (digits_left i) ∙ ap (drop 1) e ∙ digits_left j)))

module _ (name : ℕ → List ℕ) (differ : (i j : ℕ) → i ≢ j → bytes_eq (name i) (name j) ≡ false) where
  pub none_before : (i a n : ℕ) → a + n ≤ i → list_any (bytes_eq (name i)) (map name (range_with_len a n)) ≡ false
  none_before i a zero le = refl
  none_before i a (suc n) le =
      let ne : i ≢ a = λ h. omega (arith, h, le) in
      let further : a + 1 + n ≤ i = omega (arith, le) in
      rw (differ i a ne, none_before i (a + 1) n further) refl

  pub among : (i a n : ℕ) → a ≤ i → i < a + n → list_any (bytes_eq (name i)) (map name (range_with_len a n)) ≡ true
  among i a zero le lt = absurd (omega arith)
  among i a (suc n) le lt = by (cases_lt a i) (λ next room. among i (a + 1) n next room)
    where
      either : (b : Bool) → (b || true) ≡ true
      either true = refl
      either false = refl

      by : ((a < i) ⊎ (i ≤ a)) → (a + 1 ≤ i → i < a + 1 + n → list_any (bytes_eq (name i)) (map name (range_with_len (a + 1) n)) ≡ true) → list_any (bytes_eq (name i)) (map name (range_with_len a (suc n))) ≡ true
      by (inl above) later = rw (later (omega (arith, above)) (omega (arith, lt))) (either (bytes_eq (name i) (name a)))
      by (inr below) later = let same : a ≡ i = omega (arith, le, below) in rw (same, alike (name i)) refl
