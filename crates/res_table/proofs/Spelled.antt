-- A record is a row exactly where it spells one.
use Rattle.std.proofs.Common.{◌≡◌, ◌⊎◌, inl, inr, ℕ, ◌+◌, ◌<◌, ◌≤◌, ◌^◌, ◌==◌, List, [], ◌∷◌, length, Bool, true, false, cond, not, Option, Some, None, ℤ, pos, negsuc, refl, sym, ap, ◌∙◌, arith, lit<}
use Rattle.std.specs.Prelude.{int_le, nat_lt, codes}
use Rattle.std.specs.Str.{bytes_eq}
use Rattle.std.proofs.lemmas.Bool.{and_parts, eqb-true, lt-ltb, leb-true}
use Rattle.std.proofs.lemmas.Slice.Eq.{bytes_eq-Decides}
use Rattle.csv.specs.Records.{field_at}
use Rattle.base_types.specs.Ids.{is_id}
use Rattle.base_types.specs.Numbers.{between}
use Rattle.line_text.specs.Numerals.{signed_numeral, natural}
use Rattle.line_text.proofs.Numbers.{natural_again, natural_takes, bound}
use Rattle.res_table.specs.declared.rows.ResWord.{ResWord}
use Rattle.res_table.specs.declared.rows.ResWord.TheVariants.{Pipe, Resistor, Station}
use Rattle.res_table.specs.declared.rows.ResRow.{ResRow}
use Rattle.res_table.specs.Fields.{word_named, id_named, held, number_named}
use Rattle.res_table.specs.Row.{◌>>=◌, is_within, is_row_within, row_of, limited}
use Rattle.res_table.specs.Spelling.{word_text, spelled, RowsAreSpelled, SpellingsAreRead}

-- ---- what is read is spelled so

kept : {A : Type 0} (b : Bool) (x y : A) → cond b (Some x) None ≡ Some y → (b ≡ true) × (x ≡ y)
kept true x y e = (refl, cc)
kept false x y e = absurd cc

first : (b : Bool) (x y : ResWord) (o : Option ResWord) → cond b (Some x) o ≡ Some y → ((b ≡ true) × (x ≡ y)) ⊎ (o ≡ Some y)
first true x y o e = inl (refl, cc)
first false x y o e = inr e

named : (field text : List ℕ) (x y : ResWord) → (bytes_eq field text ≡ true) × (x ≡ y) → text ≡ word_text x → field ≡ word_text y
named field text x y h t = (bytes_eq-Decides field text).0 h.0 ∙ t ∙ ap word_text h.1

word_spelled : (field : List ℕ) (w : ResWord) → word_named field ≡ Some w → field ≡ word_text w
word_spelled field w e = elim (first (bytes_eq field (codes "pipe")) Pipe w _ e) [
  | inl h ↦ named field (codes "pipe") Pipe w h refl
  | inr f ↦ elim (first (bytes_eq field (codes "resistor")) Resistor w _ f) [
    | inl h ↦ named field (codes "resistor") Resistor w h refl
    | inr g ↦ named field (codes "station") Station w (kept (bytes_eq field (codes "station")) Station w g) refl
  ]
]

id_spelled : (field id : List ℕ) → id_named field ≡ Some id → (field ≡ id) × (is_id id ≡ true)
id_spelled field id e = let k = kept (is_id field) field id e in (k.1, ap is_id (sym k.1) ∙ k.0)

number_spelled : (field : List ℕ) (z : ℤ) → number_named field ≡ Some z → field ≡ signed_numeral z
number_spelled field z e =
    let n = bound held (natural field) z e in
    let k = kept (nat_lt n.0 (2 ^ 63)) (pos n.0) z n.2 in
    natural_takes field n.0 n.1 ∙ ap signed_numeral k.1

-- what each field is
record Parts (word : Option ResWord) (id : Option (List ℕ)) (a b c : Option ℤ) (r : ResRow) : Type 0 where
  is_word : word ≡ Some r.word
  has_id : id ≡ Some r.id
  one : a ≡ Some r.a
  two : b ≡ Some r.b
  three : c ≡ Some r.c

parts_of : (w : Option ResWord) (i : Option (List ℕ)) (x y z : Option ℤ) (r : ResRow)
    → (w >>= λ word. i >>= λ id. x >>= λ a. y >>= λ b. z >>= λ c. Some (record { word = word; id = id; a = a; b = b; c = c })) ≡ Some r → Parts w i x y z r
parts_of None i x y z r e = absurd cc
parts_of (Some w) None x y z r e = absurd cc
parts_of (Some w) (Some i) None y z r e = absurd cc
parts_of (Some w) (Some i) (Some x) None z r e = absurd cc
parts_of (Some w) (Some i) (Some x) (Some y) None r e = absurd cc
parts_of (Some w) (Some i) (Some x) (Some y) (Some z) r e =
    let same : record { word = w; id = i; a = x; b = y; c = z } ≡ r = cc in
    record {
      is_word = ap (λ (s : ResRow). Some s.word) same;
      has_id = ap (λ (s : ResRow). Some s.id) same;
      one = ap (λ (s : ResRow). Some s.a) same;
      two = ap (λ (s : ResRow). Some s.b) same;
      three = ap (λ (s : ResRow). Some s.c) same;
    }

five_spelled : (w i a b c : List ℕ) (r : ResRow) → row_of (w ∷ i ∷ a ∷ b ∷ c ∷ []) ≡ Some r → ((w ∷ i ∷ a ∷ b ∷ c ∷ []) ≡ spelled r) × (is_id r.id ≡ true)
unfolding row_of field_at
five_spelled w i a b c r e =
    let p = parts_of (word_named w) (id_named i) (number_named a) (number_named b) (number_named c) r e in
    let id = id_spelled i r.id p.has_id in
    (rw (word_spelled w r.word p.is_word, id.0, number_spelled a r.a p.one, number_spelled b r.b p.two, number_spelled c r.c p.three) refl, id.1)

-- a list of some length has a first item, and the others
uncons : {A : Type 0} (n : ℕ) (xs : List A) → length xs ≡ n + 1 → (x : A) × (ys : List A) × (xs ≡ x ∷ ys) × (length ys ≡ n)
uncons n [] e = absurd (omega arith)
uncons n (x ∷ ys) e = (x, ys, refl, omega arith)

none_left : {A : Type 0} (xs : List A) → length xs ≡ 0 → xs ≡ []
none_left [] e = refl
none_left (x ∷ xs) e = absurd (omega arith)

pub rows_are_spelled : RowsAreSpelled
rows_are_spelled fields r e =
    let p = counted (length fields == 5) (row_of fields >>= limited) e in
    let l = bound limited (row_of fields) r p.1 in
    let k = kept (is_row_within l.0) l.0 r l.2 in
    let whole : row_of fields ≡ Some r = l.1 ∙ ap (λ (s : ResRow). Some s) k.1 in
    let one = uncons 4 fields (eqb-true _ _ p.0) in
    let two = uncons 3 one.1 one.3 in
    let three = uncons 2 two.1 two.3 in
    let four = uncons 1 three.1 three.3 in
    let five = uncons 0 four.1 four.3 in
    let list : fields ≡ one.0 ∷ two.0 ∷ three.0 ∷ four.0 ∷ five.0 ∷ [] =
    one.2 ∙ ap (λ (xs : List (List ℕ)). one.0 ∷ xs) (two.2 ∙ ap (λ (xs : List (List ℕ)). two.0 ∷ xs) (three.2 ∙ ap (λ (xs : List (List ℕ)). three.0 ∷ xs)
    (four.2 ∙ ap (λ (xs : List (List ℕ)). four.0 ∷ xs) (five.2 ∙ ap (λ (xs : List (List ℕ)). five.0 ∷ xs) (none_left five.1 five.3))))) in
    let s = five_spelled one.0 two.0 three.0 four.0 five.0 r (ap row_of (sym list) ∙ whole) in
    (list ∙ s.0, record { id = s.1; numbers = ap is_row_within (sym k.1) ∙ k.0 })
  where
    counted : (b : Bool) (o : Option ResRow) → cond (not b) None o ≡ Some r → (b ≡ true) × (o ≡ Some r)
    counted true o h = (refl, h)
    counted false o h = absurd cc

-- ---- what is spelled so is read

word_again : (w : ResWord) → word_named (word_text w) ≡ Some w
word_again Pipe = refl
word_again Resistor = refl
word_again Station = refl

number_again : (least most : ℕ) (z : ℤ) → most < 2 ^ 63 → between (pos least) z (pos most) ≡ true → number_named (signed_numeral z) ≡ Some z
number_again least most (pos n) small h =
    let p = and_parts (int_le (pos least) (pos n)) (int_le (pos n) (pos most)) h in
    let le : n ≤ most = leb-true n most p.1 in
    let lt : n < 2 ^ 63 = omega (arith, le, small) in
    rw (natural_again n, lt-ltb n (2 ^ 63) lt) refl
number_again least most (negsuc n) small h = absurd cc

-- three numbers that read as themselves
record Again (a b c : ℤ) : Type 0 where
  one : number_named (signed_numeral a) ≡ Some a
  two : number_named (signed_numeral b) ≡ Some b
  three : number_named (signed_numeral c) ≡ Some c

drag_again : (a b c : ℤ) → is_within Pipe a b c ≡ true → Again a b c
drag_again a b c h =
    let p = and_parts _ _ h in
    let q = and_parts _ _ p.0 in
    let r = and_parts _ _ q.0 in
    record { one = number_again 1 274877906944 a (lit< tt) r.0; two = number_again 1 274877906944 b (lit< tt) r.1; three = number_again 1 274877906944 c (lit< tt) q.1 }

numbers_again : (w : ResWord) (a b c : ℤ) → is_within w a b c ≡ true → Again a b c
numbers_again Pipe a b c h = drag_again a b c h
numbers_again Resistor a b c h = drag_again a b c h
numbers_again Station a b c h =
    let p = and_parts _ _ h in
    let r = and_parts _ _ p.1 in
    record { one = number_again 1 1048576 a (lit< tt) r.0; two = number_again 1 1048576 b (lit< tt) r.1; three = number_again 0 400000000 c (lit< tt) p.0 }

pub spellings_are_read : SpellingsAreRead
unfolding row_of field_at
spellings_are_read r h =
    let n = numbers_again r.word r.a r.b r.c h.numbers in
    rw (word_again r.word, h.id, n.one, n.two, n.three, h.numbers) refl
