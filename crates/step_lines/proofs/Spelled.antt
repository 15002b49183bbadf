-- Numbers and steps are the text that was read.
use Rattle.std.proofs.Common.{◌≡◌, ◌≢◌, ◌<◌, ◌≤◌, ◌-◌, ◌+◌, ◌*◌, ◌^◌, ℕ, suc, min, List, [], ◌∷◌, ◌++◌, length, take, drop, get_or, true, Ok, refl, sym, ap, ◌∙◌, arith, append_assoc, take-append-drop}
use Rattle.std.specs.Char.{is_ascii_digit, digit_value}
use Rattle.std.specs.List.{list_all}
use Rattle.std.specs.Str.Parse.{digits_value}
use Rattle.std.proofs.lemmas.Bool.Decides.{nat_tests}
use Rattle.std.proofs.lemmas.Int.Digits.{digits_value_more}
use Rattle.std.proofs.lemmas.List.{length-take, length-append, get_or-take, take-take}
use Rattle.std.proofs.lemmas.Str.Parse.{digits_value_short}
use Rattle.std.proofs.Math.Seq.{drop-cons}
use Rattle.line_text.specs.Numerals.{numeral, signed_numeral}
use Rattle.line_text.specs.Long.{fits_position, fits_long}
use Rattle.line_text.proofs.Decimals.{own, numeral_of_value}
use Rattle.line_text.proofs.Sizes as sizes
use Rattle.tree_cert.specs.declared.line.Step.{Step}
use Rattle.tree_cert.specs.declared.line.Line.{Line}
use Rattle.line_text.specs.Words.{joined}
use Rattle.tree_cert.specs.Spelling.{end_text, var_text, rule_text, first_word, other_words, spelling, fits_var}
use Rattle.tree_cert.specs.Reading.{line_of}
use Rattle.tree_cert.specs.Texts.{pieces}
use Rattle.tree_cert.proofs.TextLines.{spelled_answer, answer_means, answer_given, pieces_cut, line_feedless}
use Rattle.step_lines.specs.Fronts.{AreDigits, IsLineBefore, IsStepBefore, IsNext}

-- one digit more
pub one_more : (ds : List ℕ) (i size : ℕ) → i < length ds → AreDigits ds i size → is_ascii_digit (get_or ds i 0) ≡ true → AreDigits ds (i + 1) (size * 10 + (get_or ds i 0 - 48))
one_more ds i size lt are is =
    let value : digit_value (get_or ds i 0) ≡ get_or ds i 0 - 48 = grind (arith, nat_tests) in
    let passed = sizes.one_more ds i (min (digits_value 10 (take i ds)) (2 ^ 64 - 1)) lt (record { digits = are.digits; value = refl }) is in
    record {
      digits = passed.digits;
      value = ap (λ k. k * 10 + (get_or ds i 0 - 48)) are.value ∙ rw (digits_value_more 10 ds i lt, value) refl;
    }

-- few digits write a number that one digit more leaves within 64 bits
pub small : (ds : List ℕ) (i size : ℕ) → i ≤ 17 → AreDigits ds i size → size < 10 ^ 17
small ds i size le are =
    let value : digits_value 10 (take i ds) < 10 ^ 17 = digits_value_short own (take i ds) 17 are.digits (simp length-take (omega arith)) in
    omega (arith, are.value, value)

-- digits of a front part
pub of_front : (ds : List ℕ) (n i size : ℕ) → i ≤ n → AreDigits (take n ds) i size → AreDigits ds i size
of_front ds n i size le are =
    let same = take-take i n ds le in
    record { digits = ap (list_all is_ascii_digit) (sym same) ∙ are.digits; value = are.value ∙ ap (digits_value 10) same }

-- a byte, with what comes before and after it
parts_at : (xs : List ℕ) (n : ℕ) → n < length xs → xs ≡ take n xs ++ get_or xs n 0 ∷ drop (n + 1) xs
parts_at xs n lt =
    let more : suc n ≡ n + 1 = omega arith in
    sym (take-append-drop n xs) ∙ ap (λ (r : List ℕ). take n xs ++ r) (drop-cons xs n 0 lt ∙ ap (λ (k : ℕ). get_or xs n 0 ∷ drop k xs) more)

-- digits with no needless zero in front, and the byte behind them
pub number_text : (bytes : List ℕ) (len size stop : ℕ) → AreDigits bytes len size → len < length bytes → len ≢ 0 → get_or bytes len 0 ≡ stop → (get_or bytes 0 0 ≡ 48 → len ≡ 1)
    → bytes ≡ numeral size ++ stop ∷ drop (len + 1) bytes
number_text bytes len size stop are lt some is lone =
    let count : length (take len bytes) ≡ len = simp length-take (omega arith) in
    let first : get_or (take len bytes) 0 0 ≡ get_or bytes 0 0 = get_or-take len bytes 0 0 (omega arith) in
    let text : numeral size ≡ take len bytes =
    ap numeral are.value ∙ numeral_of_value (take len bytes) are.digits (omega arith) (λ h. count ∙ lone (sym first ∙ h)) in
    parts_at bytes len lt ∙ rw (text, is) refl

-- five words and a line feed
five_words : (a b c d e : List ℕ) → joined a (b ∷ c ∷ d ∷ e ∷ []) ++ 10 ∷ [] ≡ a ++ 32 ∷ (b ++ 32 ∷ (c ++ 32 ∷ (d ++ 32 ∷ (e ++ 10 ∷ []))))
five_words a b c d e = simp append_assoc refl

-- a word, and what comes after it
word_more : (w one two rest : List ℕ) → one ++ rest ≡ two → (w ++ 32 ∷ one) ++ rest ≡ w ++ 32 ∷ two
word_more w one two rest e = append_assoc w (32 ∷ one) rest ∙ ap (λ (r : List ℕ). w ++ 32 ∷ r) e

-- the same with what comes after the line
line_more : (a b c d e rest : List ℕ) → (joined a (b ∷ c ∷ d ∷ e ∷ []) ++ 10 ∷ []) ++ rest ≡ a ++ 32 ∷ (b ++ 32 ∷ (c ++ 32 ∷ (d ++ 32 ∷ (e ++ 10 ∷ rest))))
line_more a b c d e rest =
    ap (λ (r : List ℕ). r ++ rest) (five_words a b c d e)
    ∙ word_more a _ _ rest (word_more b _ _ rest (word_more c _ _ rest (word_more d _ _ rest (append_assoc e (10 ∷ []) rest))))

-- the words of a step, each with the byte behind it
pub step_text : (s : Step) (bytes one two three four rest : List ℕ) → bytes ≡ end_text s.low ++ 32 ∷ one → one ≡ var_text s.var ++ 32 ∷ two → two ≡ signed_numeral s.value ++ 32 ∷ three
    → three ≡ rule_text s.rule ++ 32 ∷ four → four ≡ numeral s.place ++ 10 ∷ rest → fits_var s.var ≡ true → fits_long s.value ≡ true → fits_position s.place ≡ true → IsStepBefore bytes s rest
step_text s bytes one two three four rest a b c d e f g h = record {
  ordered = refl;
  text = rw (a, b, c, d, e) (sym (line_more (end_text s.low) (var_text s.var) (signed_numeral s.value) (rule_text s.rule) (numeral s.place) rest));
  fits = rw (f, g, h) refl;
}

-- a line in front is the first one
pub line_is_next : (bytes rest : List ℕ) (line : Line) → IsLineBefore bytes line rest → IsNext bytes (Ok line) rest
line_is_next bytes rest line is =
    let body = joined (first_word line) (other_words line) in
    let whole : bytes ≡ body ++ 10 ∷ rest = is.text ∙ append_assoc body (10 ∷ []) rest in
    let read : line_of (spelling line) ≡ Ok line = spelled_answer line is.ordered ∙ (let fits = is.fits in rw fits refl) in
    record {
      piece = spelling line;
      first = ap pieces whole ∙ pieces_cut body rest (line_feedless line);
      text = is.text;
      shorter = omega (arith, ap length whole, length-append body (10 ∷ rest));
      exact = read;
      means = answer_means (spelling line) (Ok line) read;
      spelled = answer_given (spelling line) (Ok line) read;
    }
