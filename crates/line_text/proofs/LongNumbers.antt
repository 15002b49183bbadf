-- Positions of 32 bits and numbers of 128 bits: what a text reads as, and which text reads as them.
use Rattle.std.proofs.Common.{◌≡◌, ◌≢◌, ◌<◌, ◌≤◌, ◌^◌, ◌-◌, ◌&&◌, ℕ, suc, min, zero, List, [], ◌∷◌, length, get_or, Bool, true, false, cond, Option, Some, None, Result, Ok, Err, ℤ, pos, negsuc, refl, sym, ap, subst, ◌∙◌, arith}
use Rattle.std.specs.Prelude.{option_map, option_and_then, ◌==◌, FitsSigned, int_lt}
use Rattle.std.specs.List.{list_all}
use Rattle.std.specs.Result.{OkIff, result_ok}
use Rattle.std.specs.Char.{is_ascii_digit}
use Rattle.std.specs.Int.{w64, w128, saturate_signed}
use Rattle.std.specs.Str.Parse.{digits_value, ParsesSigned}
use Rattle.std.proofs.lemmas.Bool.{eqb-true, eqb-false}
use Rattle.std.proofs.lemmas.Bool.Decides.{nat_tests}
use Rattle.std.proofs.lemmas.Int.{ints}
use Rattle.std.proofs.lemmas.Str.Parse.{parse_signed_digits, parse_signed_minus}
use lib.Signed.{mag}
use Rattle.line_text.specs.Numerals.{is_numeral, natural, minus, integer, number_at}
use Rattle.line_text.specs.Long.{fits_long, fitting, long_at}
use Rattle.line_text.proofs.Decimals.{own}
use Rattle.line_text.proofs.Numbers.{sized, untests, mapped, bound}

-- ---- what fits

pub fits_from : (z : ℤ) → FitsSigned w128 z → fits_long z ≡ true
fits_from (pos n) h = grind (arith, ints, nat_tests)
fits_from (negsuc n) h = grind (arith, ints, nat_tests)

pub from_fits : (z : ℤ) → fits_long z ≡ true → FitsSigned w128 z
from_fits (pos n) h = grind (arith, ints, nat_tests)
from_fits (negsuc n) h = grind (arith, ints, nat_tests)

pub fitted : {A : Type 0} (fits : A → Bool) (n m : A) → fitting fits n ≡ Some m → (fits n ≡ true) × (n ≡ m)
fitted fits n m e = by (fits n) refl e
  where
    by : (b : Bool) → fits n ≡ b → cond b (Some n) None ≡ Some m → (fits n ≡ true) × (n ≡ m)
    by true h k = (h, cc)
    by false h k = absurd cc

not_fits : (z : ℤ) → (FitsSigned w128 z → ⊥) → fits_long z ≡ false
not_fits z h = by (fits_long z) refl
  where
    by : (b : Bool) → fits_long z ≡ b → b ≡ false
    by true e = absurd (h (from_fits z e))
    by false e = refl

-- ---- what `parse` reads

-- the digits that a number's text is
pub digits_from : (ds : List ℕ) (n : ℕ) → natural ds ≡ Some n → (list_all is_ascii_digit ds ≡ true) × (0 < length ds) × (digits_value 10 ds ≡ n)
digits_from ds n e =
    let s = sized (is_numeral ds) (digits_value 10 ds) n e in
    let t = untests (list_all is_ascii_digit ds) (length ds == 0) (get_or ds 0 0 == 48) (length ds == 1) s.0 in
    let some : length ds ≢ 0 = eqb-false _ _ t.1 in
    (t.0, omega (arith, some), s.1)

-- an answer that is this number exactly where it fits
pub fits_or_not : {E : Type 0} (r : Result ℤ E) (Q : Type 0) (z x : ℤ) → OkIff r Q x → x ≡ z → (Q → FitsSigned w128 z) → (FitsSigned w128 z → Q) → result_ok r ≡ fitting fits_long z
fits_or_not (Ok y) Q z x h e to back = let f = fits_from z (to h.0) in rw f (ap Some (h.1 ∙ e))
fits_or_not (Err f) Q z x h e to back = let f = not_fits z (λ k. h (back k)) in rw f refl

plain_fits : (n : ℕ) → n < 2 ^ 127 → FitsSigned w128 (pos n)
plain_fits n h = grind (arith, ints)

fits_plain : (n : ℕ) → FitsSigned w128 (pos n) → n < 2 ^ 127
fits_plain n h = omega (arith, ints)

minus_fits : (n : ℕ) → suc n ≤ 2 ^ 127 → FitsSigned w128 (negsuc n)
minus_fits n h = grind (arith, ints)

fits_minus : (n : ℕ) → FitsSigned w128 (negsuc n) → suc n ≤ 2 ^ 127
fits_minus n h = omega (arith, ints)

parsed_plain : {E : Type 0} (word : List ℕ) (n : ℕ) (r : Result ℤ E) → natural word ≡ Some n → ParsesSigned w128 10 word r → result_ok r ≡ fitting fits_long (pos n)
parsed_plain word n r e h =
    let d = digits_from word n e in
    fits_or_not r ((0 < length word) × (digits_value 10 word < 2 ^ 127)) (pos n) (pos (digits_value 10 word)) (parse_signed_digits own w128 word r h d.0) (ap (λ n. pos n) d.2)
    (λ q. let lt = q.1 in plain_fits n (omega (arith, d.2, lt))) (λ f. (d.1, omega (arith, d.2, fits_plain n f)))

parsed_minus : {E : Type 0} (ds : List ℕ) (n : ℕ) (z : ℤ) (r : Result ℤ E) → natural ds ≡ Some n → minus n ≡ Some z → ParsesSigned w128 10 (45 ∷ ds) r → result_ok r ≡ fitting fits_long z
parsed_minus ds zero z r e m h = absurd cc
parsed_minus ds (suc n) z r e m h =
    let d = digits_from ds (suc n) e in
    let same : negsuc n ≡ z = cc in
    fits_or_not r ((list_all is_ascii_digit ds ≡ true) × (0 < length ds) × (digits_value 10 ds ≤ 2 ^ 127)) (negsuc n) _ (parse_signed_minus own w128 (45 ∷ ds) r h refl) (rw d.2 refl)
    (λ q. let le = q.2 in minus_fits n (omega (arith, d.2, le))) (λ f. (d.0, d.1, omega (arith, d.2, fits_minus n f)))
    ∙ ap (fitting fits_long) same

parsed : {E : Type 0} (word : List ℕ) (z : ℤ) (r : Result ℤ E) → integer word ≡ Some z → ParsesSigned w128 10 word r → result_ok r ≡ fitting fits_long z
parsed [] z r e h = absurd cc
parsed (c ∷ ds) z r e h = by (c == 45) refl e
  where
    by : (b : Bool) → (c == 45) ≡ b → cond b (option_and_then minus (natural ds)) (option_map (λ n. pos n) (natural (c ∷ ds))) ≡ Some z → result_ok r ≡ fitting fits_long z
    by true t k =
        let m = bound minus (natural ds) z k in
        parsed_minus ds m.0 z r m.1 m.2 (subst (λ (d : ℕ). ParsesSigned w128 10 (d ∷ ds) r) (eqb-true c 45 t) h)
    by false t k =
        let m = mapped (λ n. pos n) (natural (c ∷ ds)) z k in
        parsed_plain (c ∷ ds) m.0 r m.1 h ∙ ap (fitting fits_long) m.2

-- a word is of a number's form where `number_at` gives one
some_integer : (word : List ℕ) (y : ℤ) → number_at word ≡ Some y → (z : ℤ) × (integer word ≡ Some z)
some_integer word y e = let m = mapped (saturate_signed w64) (integer word) y e in (m.0, m.1)

none_integer : (word : List ℕ) → number_at word ≡ None → integer word ≡ None
none_integer word e = by (integer word) e
  where
    by : (o : Option ℤ) → option_map (saturate_signed w64) o ≡ None → o ≡ None
    by None k = refl
    by (Some z) k = absurd cc

pub long_read : {E : Type 0} (word : List ℕ) (y : ℤ) (r : Result ℤ E) → number_at word ≡ Some y → ParsesSigned w128 10 word r → Some (result_ok r) ≡ long_at word
long_read word y r e h = let z = some_integer word y e in ap Some (parsed word z.0 r z.1 h) ∙ ap (option_map (fitting fits_long)) (sym z.1)

pub long_gone : (word : List ℕ) → number_at word ≡ None → None ≡ long_at word
long_gone word e = ap (option_map (fitting fits_long)) (sym (none_integer word e))

-- ---- a number that its nearest of 64 bits tells

-- the nearest of a number is itself where it is none of the two that others count as
inner : (n z : ℤ) → mag n < 2 ^ 63 - 1 → saturate_signed w64 z ≡ n → z ≡ n
inner (pos m) (pos k) small e = let size : min k (2 ^ 63 - 1) ≡ m = ap mag e in ap (λ n. pos n) (omega (arith, size, small))
inner (negsuc m) (negsuc k) small e = let size : min k (2 ^ 63 - 1) ≡ m = ap mag e in ap (λ n. negsuc n) (omega (arith, size, small))
inner (pos m) (negsuc k) small e = absurd cc
inner (negsuc m) (pos k) small e = absurd cc

pub inner_fits : (n : ℤ) → mag n < 2 ^ 63 - 1 → FitsSigned w128 n
inner_fits (pos m) small = grind (arith, ints)
inner_fits (negsuc m) small = grind (arith, ints)

-- a number between the least and the greatest of 64 bits
pub is_small : (n : ℤ) → (int_lt (negsuc (2 ^ 63 - 1)) n && int_lt n (pos (2 ^ 63 - 1))) ≡ true → mag n < 2 ^ 63 - 1
is_small (pos m) e = grind (arith, ints, nat_tests)
is_small (negsuc m) e = grind (arith, ints, nat_tests)

pub long_inner : (word : List ℕ) (n : ℤ) → mag n < 2 ^ 63 - 1 → number_at word ≡ Some n → Some (Some n) ≡ long_at word
long_inner word n small e =
    let z = mapped (saturate_signed w64) (integer word) n e in
    let same = inner n z.0 small z.2 in
    let fits = fits_from n (inner_fits n small) in
    let fitted_is : fitting fits_long n ≡ Some n = rw fits refl in
    sym (ap (option_map (fitting fits_long)) (z.1 ∙ ap (λ z. Some z) same) ∙ ap (λ o. Some o) fitted_is)
