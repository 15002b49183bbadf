-- What a field's text reads as, and which text reads as a field.
use Rattle.std.proofs.Common.{◌≡◌, ◌<◌, ◌≤◌, ◌+◌, ℕ, suc, List, [], ◌∷◌, ◌++◌, length, take, drop, take-append-drop, Bool, true, false, cond, not, ◌&&◌, Option, Some, None, ℤ, pos, negsuc, refl, sym, ap, ◌∙◌, arith, inl, inr}
use Rattle.std.specs.Prelude.{◌==◌, nat_le}
use Rattle.std.specs.List.{list_all}
use Rattle.std.specs.Char.{is_ascii_digit}
use Rattle.std.specs.Int.{w64, saturate_signed}
use Rattle.std.specs.Str.{is_utf8, IsAscii}
use Rattle.std.proofs.lemmas.Bool.{eqb-true, ne_eqb, and_parts}
use Rattle.std.proofs.lemmas.Bool.Decides.{leb_tells, nat_tests}
use Rattle.std.proofs.lemmas.Fmt.{IsAscii-from_digits}
use Rattle.std.proofs.lemmas.List.{take_at, drop_at}
use Rattle.std.proofs.lemmas.Str.{IsUtf8-from_ascii, is_utf8-from_IsUtf8}
use Rattle.std.proofs.lemmas.Str.Ascii.{IsAscii-cons}
use Rattle.line_text.specs.Lines.{HasNoFeed}
use Rattle.line_text.specs.Numerals.{numeral, signed_numeral, integer, number_at}
use Rattle.line_text.specs.Words.{◌>>=◌, word_len, is_field, bytes_at, as_text, field_at, number_field}
use Rattle.line_text.proofs.Decimals.{own, numeral_form}
use Rattle.line_text.proofs.Numbers.{integer_again, integer_takes, bound, mapped}

-- no byte is a space, or one below it, as a line feed
abbrev pub IsVisible : List ℕ → Type 0
IsVisible w = list_all (λ b. nat_le 33 b) w ≡ true

above : (n b : ℕ) → nat_le n b ≡ true → n ≤ b
above n b e = elim (leb_tells n b) [ inl h ↦ h.1 | inr h ↦ absurd (let f = h.0 in cc) ]

other : (b c : ℕ) → c < 33 → nat_le 33 b ≡ true → (b == c) ≡ false
other b c low e = ne_eqb b c (λ is. let le = above 33 b e in omega (arith, is, le, low))

pub visible_no_feed : (w : List ℕ) → IsVisible w → HasNoFeed w
visible_no_feed [] e = refl
visible_no_feed (b ∷ w) e =
    let p = and_parts (nat_le 33 b) (list_all (λ b. nat_le 33 b) w) e in
    rw (other b 10 (omega arith) p.0) (visible_no_feed w p.1)

-- no byte is a space
abbrev pub HasNoSpace : List ℕ → Type 0
HasNoSpace w = list_all (λ b. not (b == 32)) w ≡ true

pub visible_no_space : (w : List ℕ) → IsVisible w → HasNoSpace w
visible_no_space [] e = refl
visible_no_space (b ∷ w) e =
    let p = and_parts (nat_le 33 b) (list_all (λ b. nat_le 33 b) w) e in
    rw (other b 32 (omega arith) p.0) (visible_no_space w p.1)

not_false : (b : Bool) → not b ≡ true → b ≡ false
not_false true e = absurd cc
not_false false e = refl

-- a word goes up to the next space
word_before : (w rest : List ℕ) → HasNoSpace w → word_len rest ≡ 0 → word_len (w ++ rest) ≡ length w
word_before [] rest e h = h
word_before (b ∷ w) rest e h =
    let p = and_parts (not (b == 32)) (list_all (λ b. not (b == 32)) w) e in
    rw (not_false (b == 32) p.0) (omega (arith, word_before w rest p.1 h))

pub word_cut : (w rest : List ℕ) → IsVisible w → word_len rest ≡ 0 → (take (word_len (w ++ rest)) (w ++ rest) ≡ w) × (drop (word_len (w ++ rest)) (w ++ rest) ≡ rest)
word_cut w rest e h = let len = word_before w rest (visible_no_space w e) h in (rw len (take_at w rest (length w) refl), rw len (drop_at w rest (length w) refl))

pub visible_field : (w : List ℕ) → IsVisible w → 0 < length w → is_utf8 w ≡ true → is_field w ≡ true
visible_field w visible some text =
    let full : (length w == 0) ≡ false = ne_eqb (length w) 0 (λ e. omega (arith, e, some)) in
    rw (full, visible_no_space w visible, text) refl

pub field_again : (w rest : List ℕ) → is_field w ≡ true → word_len rest ≡ 0 → field_at (32 ∷ (w ++ rest)) ≡ Some (w, rest)
unfolding bytes_at field_at
field_again w rest e h =
    let p = and_parts (not (length w == 0) && list_all (λ b. not (b == 32)) w) (is_utf8 w) e in
    let q = and_parts (not (length w == 0)) (list_all (λ b. not (b == 32)) w) p.0 in
    let len = word_before w rest q.1 h in
    let text = p.1 in
    rw (len, not_false (length w == 0) q.0, take_at w rest (length w) refl, drop_at w rest (length w) refl, text) refl

passed : {A : Type 0} (b : Bool) (o : Option A) (y : A) → cond b None o ≡ Some y → (b ≡ false) × (o ≡ Some y)
passed true o y e = absurd cc
passed false o y e = (refl, e)

is_space : (c : ℕ) → not (c == 32) ≡ false → c ≡ 32
is_space c e = by (c == 32) refl e
  where
    by : (b : Bool) → (c == 32) ≡ b → not b ≡ false → c ≡ 32
    by true t h = eqb-true c 32 t
    by false t h = absurd cc

pub bytes_take : (bytes w rest : List ℕ) → bytes_at bytes ≡ Some (w, rest) → bytes ≡ 32 ∷ (w ++ rest)
unfolding bytes_at
bytes_take [] w rest e = absurd cc
bytes_take (c ∷ bs) w rest e =
    let n = word_len bs in
    let p = passed (not (c == 32)) _ (w, rest) e in
    let q = passed (n == 0) (Some (take n bs, drop n bs)) (w, rest) p.1 in
    let same : (take n bs, drop n bs) ≡ (w, rest) = let h = q.1 in cc in
    let whole : bs ≡ w ++ rest = sym (take-append-drop n bs) ∙ ap (λ (x : List ℕ × List ℕ). x.0 ++ x.1) same in
    ap (λ (b : ℕ). b ∷ bs) (is_space c p.0) ∙ ap (λ (x : List ℕ). 32 ∷ x) whole

-- the bytes that were taken as text
text_is : (bytes w rest : List ℕ) → field_at bytes ≡ Some (w, rest) → (bytes_at bytes ≡ Some (w, rest)) × (is_utf8 w ≡ true)
unfolding field_at
text_is bytes w rest e =
    let f = bound as_text (bytes_at bytes) (w, rest) e in
    let t = passed (not (is_utf8 f.0.0)) (Some f.0) (w, rest) f.2 in
    let same : f.0 ≡ (w, rest) = let h = t.1 in cc in
    (f.1 ∙ ap (λ x. Some x) same, ap (λ (x : List ℕ × List ℕ). is_utf8 x.0) (sym same) ∙ is_not (is_utf8 f.0.0) t.0)
  where
    is_not : (b : Bool) → not b ≡ false → b ≡ true
    is_not true e = refl
    is_not false e = absurd cc

pub field_takes : (bytes w rest : List ℕ) → field_at bytes ≡ Some (w, rest) → bytes ≡ 32 ∷ (w ++ rest)
field_takes bytes w rest e = bytes_take bytes w rest (text_is bytes w rest e).0

-- the bytes before the first space have none
front_no_space : (bs : List ℕ) → HasNoSpace (take (word_len bs) bs)
front_no_space [] = refl
front_no_space (b ∷ bs) = by (b == 32) refl (front_no_space bs)
  where
    by : (t : Bool) → (b == 32) ≡ t → HasNoSpace (take (word_len bs) bs) → HasNoSpace (take (cond (not t) (1 + word_len bs) 0) (b ∷ bs))
    by true e h = refl
    by false e h = let next : 1 + word_len bs ≡ suc (word_len bs) = omega arith in rw (next, e) h

front_some : (bs : List ℕ) → (word_len bs == 0) ≡ false → (length (take (word_len bs) bs) == 0) ≡ false
front_some [] e = e
front_some (b ∷ bs) e = by (b == 32) refl e
  where
    by : (t : Bool) → (b == 32) ≡ t → (cond (not t) (1 + word_len bs) 0 == 0) ≡ false → (length (take (cond (not t) (1 + word_len bs) 0) (b ∷ bs)) == 0) ≡ false
    by true h k = k
    by false h k = let next : 1 + word_len bs ≡ suc (word_len bs) = omega arith in rw next (ne_eqb (length (b ∷ take (word_len bs) bs)) 0 (λ e. omega (arith, e)))

bytes_form : (bytes w rest : List ℕ) → bytes_at bytes ≡ Some (w, rest) → (not (length w == 0) && list_all (λ b. not (b == 32)) w) ≡ true
unfolding bytes_at
bytes_form [] w rest e = absurd cc
bytes_form (c ∷ bs) w rest e =
    let n = word_len bs in
    let p = passed (not (c == 32)) _ (w, rest) e in
    let q = passed (n == 0) (Some (take n bs, drop n bs)) (w, rest) p.1 in
    let same : (take n bs, drop n bs) ≡ (w, rest) = let h = q.1 in cc in
    let form : (not (length (take n bs) == 0) && list_all (λ b. not (b == 32)) (take n bs)) ≡ true = rw (front_some bs q.0) (front_no_space bs) in
    ap (λ (x : List ℕ × List ℕ). not (length x.0 == 0) && list_all (λ b. not (b == 32)) x.0) (sym same) ∙ form

pub field_form : (bytes w rest : List ℕ) → field_at bytes ≡ Some (w, rest) → is_field w ≡ true
field_form bytes w rest e =
    let t = text_is bytes w rest e in
    let text = t.1 in
    let form = bytes_form bytes w rest t.0 in
    rw (form, text) refl

-- ---- numbers

pub digits_visible : (ds : List ℕ) → list_all is_ascii_digit ds ≡ true → IsVisible ds
digits_visible [] e = refl
digits_visible (d ∷ ds) e =
    let p = and_parts (is_ascii_digit d) (list_all is_ascii_digit ds) e in
    let q = and_parts (nat_le 48 d) (nat_le d 57) p.0 in
    let le = above 48 d q.0 in
    let high : nat_le 33 d ≡ true = grind (arith, nat_tests, le) in
    rw high (digits_visible ds p.1)

pub numeral_visible : (n : ℕ) → IsVisible (numeral n)
numeral_visible n = digits_visible (numeral n) (numeral_form n).0

pub signed_visible : (z : ℤ) → IsVisible (signed_numeral z)
signed_visible (pos n) = numeral_visible n
signed_visible (negsuc n) = numeral_visible (suc n)

pub numeral_ascii : (n : ℕ) → IsAscii (numeral n)
numeral_ascii n = IsAscii-from_digits (numeral n) (own.to (numeral n) (numeral_form n).0)

signed_ascii : (z : ℤ) → IsAscii (signed_numeral z)
signed_ascii (pos n) = numeral_ascii n
signed_ascii (negsuc n) = IsAscii-cons 45 (numeral (suc n)) (omega arith) (numeral_ascii (suc n))

signed_some : (z : ℤ) → 0 < length (signed_numeral z)
signed_some (pos n) = (numeral_form n).1
signed_some (negsuc n) = omega arith

pub signed_field_again : (z : ℤ) (rest : List ℕ) → word_len rest ≡ 0 → field_at (32 ∷ (signed_numeral z ++ rest)) ≡ Some (signed_numeral z, rest)
signed_field_again z rest h = field_again (signed_numeral z) rest (visible_field (signed_numeral z) (signed_visible z) (signed_some z) (is_utf8-from_IsUtf8 _ (IsUtf8-from_ascii _ (signed_ascii z)))) h

pub number_field_again : (z : ℤ) (rest : List ℕ) → word_len rest ≡ 0 → number_field (32 ∷ (signed_numeral z ++ rest)) ≡ Some (saturate_signed w64 z, rest)
unfolding number_field
number_field_again z rest h = rw (signed_field_again z rest h, integer_again z) refl

pub number_field_takes : (bytes : List ℕ) (y : ℤ) (rest : List ℕ) → number_field bytes ≡ Some (y, rest) → (z : ℤ) × (bytes ≡ 32 ∷ (signed_numeral z ++ rest)) × (y ≡ saturate_signed w64 z)
unfolding number_field
number_field_takes bytes y rest e =
    let f = bound (λ f. number_at f.0 >>= λ n. Some (n, f.1)) (field_at bytes) (y, rest) e in
    let n = bound (λ n. Some (n, f.0.1)) (number_at f.0.0) (y, rest) f.2 in
    let same : (n.0, f.0.1) ≡ (y, rest) = let h = n.2 in cc in
    let value : n.0 ≡ y = ap (λ (x : ℤ × List ℕ). x.0) same in
    let behind : f.0.1 ≡ rest = ap (λ (x : ℤ × List ℕ). x.1) same in
    let z = mapped (saturate_signed w64) (integer f.0.0) n.0 n.1 in (
      z.0,
      field_takes bytes f.0.0 f.0.1 f.1 ∙ ap (λ (x : List ℕ). 32 ∷ (f.0.0 ++ x)) behind ∙ ap (λ (x : List ℕ). 32 ∷ (x ++ rest)) (integer_takes f.0.0 z.0 z.1),
      sym value ∙ sym z.2,
    )
