-- Digits with no needless zero in front are the one text of their value, however many there are.
use Rattle.std.proofs.Common.{◌≡◌, ℕ, zero, suc, ◌+◌, ◌*◌, ◌/◌, ◌%◌, ◌<◌, ◌≤◌, ◌^◌, true, List, [], ◌∷◌, ◌++◌, length, map, get_or, ℤ, pos, negsuc, refl, sym, ap, subst, ◌∙◌, inl, inr, arith, append_assoc, rules}
use Rattle.std.specs.Char.{digit_value, is_ascii_digit}
use Rattle.std.specs.Fmt.{decimal, signed_decimal}
use Rattle.std.specs.Int.{IsInRange}
use Rattle.std.specs.Int.Digits.{digits_of}
use Rattle.std.specs.List.{list_all}
use Rattle.std.specs.Str.Parse.{digits_value, AllDigits}
use Rattle.std.proofs.lemmas.Bool.{cases_lt}
use Rattle.std.proofs.lemmas.Bool.Decides.{nat_tests}
use Rattle.std.proofs.lemmas.Fmt.{decimal_by_steps_wide}
use Rattle.std.proofs.lemmas.Int.Digits.{digits_of_step, digits_push, digits_value_push}
use Rattle.std.proofs.lemmas.List.{append-nil, get_or_append_left, length-append, map-append}
use Rattle.std.proofs.lemmas.Str.Parse.{IsNumeralModel, numerals_by_value, digit_from_value, digit_at}
use lib.Signed.{mag}
use Rattle.line_text.specs.Numerals.{numeral, signed_numeral}

pub own : IsNumeralModel (λ ds. list_all is_ascii_digit ds ≡ true) (digits_value 10)
own = numerals_by_value _ (search rules)

-- ---- the text of a number, digit by digit

abbrev glyphs : List ℕ → List ℕ
glyphs ds = map (λ d. 48 + d) ds

numeral_above : (n : ℕ) → 0 < n → numeral n ≡ glyphs (digits_of 10 n)
unfolding numeral
numeral_above zero some = absurd (omega arith)
numeral_above (suc n) some = refl

pub numeral_digit : (n : ℕ) → n < 10 → numeral n ≡ (48 + n) ∷ []
unfolding numeral
numeral_digit zero small = refl
numeral_digit (suc n) small =
    let none : suc n / 10 ≡ 0 = omega arith in
    let rest : suc n % 10 ≡ suc n = omega arith in
    let digits : digits_of 10 (suc n) ≡ suc n ∷ [] =
    digits_of_step 10 (suc n) (omega arith) (omega arith) ∙ ap (λ (q : ℕ). digits_of 10 q ++ suc n % 10 ∷ []) none ∙ ap (λ (r : ℕ). r ∷ []) rest in
    ap glyphs digits

pub numeral_step : (n : ℕ) → 10 ≤ n → numeral n ≡ numeral (n / 10) ++ (48 + n % 10) ∷ []
numeral_step n ten =
    numeral_above n (omega arith) ∙ ap glyphs (digits_of_step 10 n (omega arith) (omega arith)) ∙ map-append (λ d. 48 + d) (digits_of 10 (n / 10)) (n % 10 ∷ [])
    ∙ ap (λ (ds : List ℕ). ds ++ (48 + n % 10) ∷ []) (sym (numeral_above (n / 10) (omega arith)))

-- what holds of one digit, and of one more digit, holds of the text of each number
module _ (P : ℕ → List ℕ → Type 0) (one : (n : ℕ) → n < 10 → P n ((48 + n) ∷ [])) (more : (n : ℕ) (ds : List ℕ) → 10 ≤ n → P (n / 10) ds → P n (ds ++ (48 + n % 10) ∷ [])) where
  steps_up_to : (k n : ℕ) → n ≤ k → P n (numeral n)
  steps_up_to zero n le = subst (P n) (sym (numeral_digit n (omega arith))) (one n (omega arith))
  steps_up_to (suc k) n le =
      elim (cases_lt n 10) [
        | inl lt ↦ subst (P n) (sym (numeral_digit n lt)) (one n lt)
        | inr ge ↦ subst (P n) (sym (numeral_step n ge)) (more n (numeral (n / 10)) ge (steps_up_to k (n / 10) (omega (arith, ge, le))))
      ]

  pub numeral_by_steps : (n : ℕ) → P n (numeral n)
  numeral_by_steps n = steps_up_to n n (omega arith)

-- ---- a number's text has its form

-- digits of this value; the first of them isn't 0 where the value isn't
record Spells (n : ℕ) (ds : List ℕ) : Type 0 where
  digits : AllDigits 10 ds
  value : digits_value 10 ds ≡ n
  some : 0 < length ds
  leads : 0 < n → 48 < get_or ds 0 0
  lone : n ≡ 0 → length ds ≡ 1

glyph_value : (d : ℕ) → d < 10 → digit_value (48 + d) ≡ d
glyph_value d small = grind (arith, nat_tests)

spells_one : (n : ℕ) → n < 10 → Spells n ((48 + n) ∷ [])
spells_one n small =
    let v = glyph_value n small in
    record { digits = (rw v small, tt); value = rw v (omega arith); some = omega arith; leads = λ some. omega (arith, some); lone = λ _. refl }

spells_more : (n : ℕ) (ds : List ℕ) → 10 ≤ n → Spells (n / 10) ds → Spells n (ds ++ (48 + n % 10) ∷ [])
spells_more n ds ten s =
    let below : n % 10 < 10 = omega arith in
    let v = glyph_value (n % 10) below in
    record {
      digits = digits_push 10 ds (48 + n % 10) s.digits (rw v below);
      value = digits_value_push 10 ds (48 + n % 10) ∙ rw (v, s.value) (omega arith);
      some = omega (arith, length-append ds ((48 + n % 10) ∷ []));
      leads = λ some. rw (get_or_append_left ds ((48 + n % 10) ∷ []) 0 0 s.some) (s.leads (omega (arith, ten)));
      lone = λ none. absurd (omega (arith, none, ten));
    }

spells : (n : ℕ) → Spells n (numeral n)
spells n = numeral_by_steps Spells spells_one spells_more n

pub numeral_form : (n : ℕ) → (list_all is_ascii_digit (numeral n) ≡ true) × (0 < length (numeral n)) × (get_or (numeral n) 0 0 ≡ 48 → length (numeral n) ≡ 1) × (digits_value 10 (numeral n) ≡ n)
numeral_form n =
    let s = spells n in
    let first : get_or (numeral n) 0 0 ≡ 48 → length (numeral n) ≡ 1 =
    λ is. elim (cases_lt 0 n) [ inl lt ↦ absurd (let high = s.leads lt in omega (arith, is, high)) | inr le ↦ s.lone (omega (arith, le)) ] in
    (own.from (numeral n) s.digits, s.some, first, s.value)

-- ---- digits of that form are the text of their value

-- induction from the back
from_back : (P : List ℕ → Type 0) → ((ds : List ℕ) (d : ℕ) → P ds → P (ds ++ d ∷ [])) → (ds es : List ℕ) → P ds → P (ds ++ es)
from_back P more ds [] h = rw append-nil h
from_back P more ds (e ∷ es) h = subst P (append_assoc ds (e ∷ []) es) (from_back P more (ds ++ e ∷ []) es (more ds e h))

-- the digits, and the last one, of digits with one more
parts : (ds : List ℕ) (d : ℕ) → AllDigits 10 (ds ++ d ∷ []) → AllDigits 10 ds × (digit_value d < 10)
parts [] d h = (tt, h.0)
parts (c ∷ ds) d h = let r = parts ds d h.1 in ((h.0, r.0), r.1)

glyph_is : (d : ℕ) → digit_value d < 10 → 48 + digit_value d ≡ d
glyph_is d lt = let r : IsInRange 48 57 d = digit_from_value d lt in grind (arith, nat_tests)

-- digits of which the first isn't 0
abbrev Canonical : List ℕ → Type 0
Canonical ds = 0 < length ds → AllDigits 10 ds → 48 < get_or ds 0 0 → (0 < digits_value 10 ds) × (numeral (digits_value 10 ds) ≡ ds)

one_more : (ds : List ℕ) (d : ℕ) → Canonical ds → Canonical (ds ++ d ∷ [])
one_more [] d below some digits first =
    let v : digit_value d < 10 = digits.0 in
    let g = glyph_is d v in
    let value : digits_value 10 (d ∷ []) ≡ digit_value d = omega arith in
    (omega (arith, g, value), rw (value, numeral_digit (digit_value d) v) (ap (λ (n : ℕ). n ∷ []) g))
one_more (c ∷ ds) d below some digits first =
    let p = parts (c ∷ ds) d digits in
    let v = digits_value 10 (c ∷ ds) in
    let k = digit_value d in
    let value : digits_value 10 ((c ∷ ds) ++ d ∷ []) ≡ v * 10 + k = digits_value_push 10 (c ∷ ds) d in
    let h = below (omega arith) p.0 first in
    let big : 10 ≤ v * 10 + k = omega (arith, h.0) in
    let tens : (v * 10 + k) / 10 ≡ v = omega (arith, p.1) in
    let rest : (v * 10 + k) % 10 ≡ k = omega (arith, p.1) in
    let g = glyph_is d p.1 in
    (rw value (omega arith), rw value (numeral_step (v * 10 + k) big ∙ rw (tens, rest, g) (ap (λ (x : List ℕ). x ++ d ∷ []) h.1)))

canonical : (ds : List ℕ) → Canonical ds
canonical ds = from_back Canonical one_more [] ds (λ some. absurd (omega arith))

lone_zero : (ds : List ℕ) → length ds ≡ 1 → get_or ds 0 0 ≡ 48 → numeral (digits_value 10 ds) ≡ ds
lone_zero [] e h = absurd (omega arith)
lone_zero (c ∷ []) e h = rw h (numeral_digit 0 (omega arith))
lone_zero (c ∷ d ∷ ds) e h = absurd (omega arith)

pub numeral_of_value : (ds : List ℕ) → list_all is_ascii_digit ds ≡ true → 0 < length ds → (get_or ds 0 0 ≡ 48 → length ds ≡ 1) → numeral (digits_value 10 ds) ≡ ds
numeral_of_value ds digits some lone =
    let all = own.to ds digits in
    let d : IsInRange 48 57 (get_or ds 0 0) = digit_at ds 0 all some in
    elim (cases_lt 48 (get_or ds 0 0)) [
      | inl above ↦ (canonical ds some all above).1
      | inr low ↦ let is : get_or ds 0 0 ≡ 48 = omega (arith, d, low) in lone_zero ds (lone is) is
    ]

-- ---- what std writes of a number that isn't longer than 64 digits

pub numeral_is_decimal : (n : ℕ) → n < 10 ^ 64 → numeral n ≡ decimal n
numeral_is_decimal n small = decimal_by_steps_wide (λ n ds. numeral n ≡ ds) numeral_digit (λ n ds ten e. numeral_step n ten ∙ ap (λ (x : List ℕ). x ++ (48 + n % 10) ∷ []) e) n small

pub signed_numeral_is_decimal : (z : ℤ) → mag z + 1 < 10 ^ 64 → signed_numeral z ≡ signed_decimal z
signed_numeral_is_decimal (pos n) small = numeral_is_decimal n (omega (arith, small))
signed_numeral_is_decimal (negsuc n) small = ap (λ (ds : List ℕ). 45 ∷ ds) (numeral_is_decimal (suc n) (omega (arith, small)))
