-- What a number's text reads as, and which text reads as a number.
use Rattle.std.proofs.Common.{◌≡◌, ◌≢◌, ◌<◌, ◌≤◌, ◌^◌, ◌-◌, eq-eqb, true≢false, ◌&&◌, ◌||◌, inl, inr, ℕ, suc, zero, min, List, [], ◌∷◌, length, get_or, Bool, true, false, cond, not, Option, Some, None, ℤ, pos, negsuc, refl, sym, ap, ◌∙◌, arith}
use Rattle.std.specs.Prelude.{option_map, option_and_then, ◌==◌, IfSome}
use Rattle.std.specs.List.{list_all}
use Rattle.std.specs.Char.{is_ascii_digit}
use Rattle.std.specs.Int.{w64, saturate_signed}
use Rattle.std.specs.Str.Parse.{digits_value}
use Rattle.std.proofs.lemmas.Bool.{ne_eqb, eqb-true, eqb-false, cases_lt}
use Rattle.line_text.specs.Numerals.{numeral, signed_numeral, is_numeral, natural, minus, integer, up_to_max, below_zero, size_at, number_at}
use Rattle.line_text.proofs.Decimals.{numeral_form, numeral_of_value}

pub too_wide : (v : ℕ) → (v < 2 ^ 64 → ⊥) → 2 ^ 64 ≤ v
too_wide v b = elim (cases_lt v (2 ^ 64)) [ inl lt ↦ absurd (b lt) | inr le ↦ le ]

-- ---- the tests, from what they say

tests : (a b c d : Bool) → a ≡ true → b ≡ false → (c ≡ true → d ≡ true) → (a && not b && (not c || d)) ≡ true
tests true false true d h1 h2 h3 = h3 refl
tests true false false d h1 h2 h3 = refl
tests true true c d h1 h2 h3 = absurd cc
tests false b c d h1 h2 h3 = absurd cc

pub untests : (a b c d : Bool) → (a && not b && (not c || d)) ≡ true → (a ≡ true) × (b ≡ false) × (c ≡ true → d ≡ true)
untests true false true d h = (refl, refl, λ _. h)
untests true false false d h = (refl, refl, λ e. absurd cc)
untests true true c d h = absurd cc
untests false b c d h = absurd cc

-- ---- numbers of any size

pub natural_again : (n : ℕ) → natural (numeral n) ≡ Some n
natural_again n =
    let f = numeral_form n in
    let ds = numeral n in
    let is : is_numeral ds ≡ true = tests (list_all is_ascii_digit ds) (length ds == 0) (get_or ds 0 0 == 48) (length ds == 1) f.0 (ne_eqb _ _ (λ e. omega (arith, f.1, e))) (λ h. eq-eqb _ _ (f.2 (eqb-true _ _ h))) in
    rw (is, f.3) refl

pub sized : (b : Bool) (n m : ℕ) → cond b (Some n) None ≡ Some m → (b ≡ true) × (n ≡ m)
sized true n m e = (refl, cc)
sized false n m e = absurd cc

pub natural_takes : (ds : List ℕ) (n : ℕ) → natural ds ≡ Some n → ds ≡ numeral n
natural_takes ds n e =
    let s = sized (is_numeral ds) (digits_value 10 ds) n e in
    let t = untests (list_all is_ascii_digit ds) (length ds == 0) (get_or ds 0 0 == 48) (length ds == 1) s.0 in
    let some : length ds ≢ 0 = eqb-false _ _ t.1 in
    sym (numeral_of_value ds t.0 (omega (arith, some)) (λ h. eqb-true _ _ (t.2 (eq-eqb _ _ h)))) ∙ ap numeral s.1

pub mapped : {A B : Type 0} (f : A → B) (o : Option A) (y : B) → option_map f o ≡ Some y → (x : A) × (o ≡ Some x) × (f x ≡ y)
mapped f None y e = absurd cc
mapped f (Some x) y e = (x, refl, cc)

pub bound : {A B : Type 0} (f : A → Option B) (o : Option A) (y : B) → option_and_then f o ≡ Some y → (x : A) × (o ≡ Some x) × (f x ≡ Some y)
bound f None y e = absurd cc
bound f (Some x) y e = (x, refl, e)

-- a word that begins with no minus
pub unsigned : (word : List ℕ) → ((rest : List ℕ) → word ≢ 45 ∷ rest) → integer word ≡ option_map (λ n. pos n) (natural word)
unsigned [] h = refl
unsigned (c ∷ ds) h = let other : c ≢ 45 = λ e. h ds (ap (λ x. x ∷ ds) e) in rw (ne_eqb c 45 other) refl

-- digits begin with no minus
no_minus : (rest : List ℕ) → list_all is_ascii_digit (45 ∷ rest) ≡ false
no_minus rest = refl

plain_again : (n : ℕ) → integer (numeral n) ≡ Some (pos n)
plain_again n =
    unsigned (numeral n) (λ rest e. let digits = (numeral_form n).0 in absurd (true≢false (sym (rw e at digits) ∙ no_minus rest)))
    ∙ ap (option_map (λ n. pos n)) (natural_again n)

pub integer_again : (z : ℤ) → integer (signed_numeral z) ≡ Some z
integer_again (pos n) = plain_again n
integer_again (negsuc n) = ap (option_and_then minus) (natural_again (suc n))

minus_is : (n : ℕ) (z : ℤ) → minus n ≡ Some z → 45 ∷ numeral n ≡ signed_numeral z
minus_is zero z e = absurd cc
minus_is (suc n) z e = let same : negsuc n ≡ z = cc in ap signed_numeral same

pub integer_takes : (word : List ℕ) (z : ℤ) → integer word ≡ Some z → word ≡ signed_numeral z
integer_takes [] z e = absurd cc
integer_takes (c ∷ ds) z e = by (c == 45) refl e
  where
    by : (b : Bool) → (c == 45) ≡ b → cond b (option_and_then minus (natural ds)) (option_map (λ n. pos n) (natural (c ∷ ds))) ≡ Some z → c ∷ ds ≡ signed_numeral z
    by true t h =
        let m = bound minus (natural ds) z h in
        let is : c ≡ 45 = eqb-true _ _ t in
        rw (is, natural_takes ds m.0 m.1) (minus_is m.0 z m.2)
    by false t h =
        let m = mapped (λ n. pos n) (natural (c ∷ ds)) z h in
        natural_takes (c ∷ ds) m.0 m.1 ∙ ap signed_numeral m.2

-- ---- what reading does

clamped : (n : ℕ) → below_zero (min n (2 ^ 64 - 1)) ≡ option_map (saturate_signed w64) (minus n)
clamped zero = refl
clamped (suc n) = let less : min (suc n) (2 ^ 64 - 1) ≡ suc (min n (2 ^ 64 - 2)) = omega arith in rw less (ap (λ k. Some (negsuc k)) (omega arith))

-- a word after a minus
pub read_minus : (word digits : List ℕ) → word ≡ 45 ∷ digits → option_and_then below_zero (size_at digits) ≡ number_at word
read_minus word digits e = by (natural digits) ∙ ap number_at (sym e)
  where
    by : (o : Option ℕ) → option_and_then below_zero (option_map (λ n. min n (2 ^ 64 - 1)) o) ≡ option_map (saturate_signed w64) (option_and_then minus o)
    by None = refl
    by (Some n) = clamped n

-- a word with no minus
pub read_plain : (word : List ℕ) → ((rest : List ℕ) → word ≢ 45 ∷ rest) → option_map up_to_max (size_at word) ≡ number_at word
read_plain word h = by (natural word) ∙ ap (option_map (saturate_signed w64)) (sym (unsigned word h))
  where
    by : (o : Option ℕ) → option_map up_to_max (option_map (λ n. min n (2 ^ 64 - 1)) o) ≡ option_map (saturate_signed w64) (option_map (λ n. pos n) o)
    by None = refl
    by (Some n) = ap (λ k. Some (pos k)) (omega arith)

pub size_there : (word : List ℕ) (n : ℕ) → is_numeral word ≡ true → n ≡ min (digits_value 10 word) (2 ^ 64 - 1) → size_at word ≡ Some n
size_there word n is value = rw (is, value) refl

pub size_gone : (word : List ℕ) → is_numeral word ≡ false → size_at word ≡ None
size_gone word is = rw is refl

-- ---- what reading answers, as laws

-- a number that is read by its value
module _ {A B : Type 0} (text : A → List ℕ) (value : List ℕ → Option A) (again : (x : A) → value (text x) ≡ Some x) (takes : (word : List ℕ) (x : A) → value word ≡ Some x → word ≡ text x) (f : A → B) (word : List ℕ) where
  pub value_spelled : (r : Option B) → r ≡ option_map f (value word) → (x : A) → word ≡ text x → r ≡ Some (f x)
  value_spelled r exact x e = exact ∙ ap (λ (w : List ℕ). option_map f (value w)) e ∙ ap (option_map f) (again x)

  pub value_read : (r : Option B) → r ≡ option_map f (value word) → IfSome r (λ y. (x : A) × (word ≡ text x) × (y ≡ f x))
  value_read None exact = tt
  value_read (Some y) exact = let m = mapped f (value word) y (sym exact) in (m.0, takes word m.0 m.1, sym m.2)

abbrev pub natural_spelled : {B : Type 0} (f : ℕ → B) (word : List ℕ) (r : Option B) → r ≡ option_map f (natural word) → (n : ℕ) → word ≡ numeral n → r ≡ Some (f n)
natural_spelled f word = value_spelled numeral natural natural_again natural_takes f word

abbrev pub natural_read : {B : Type 0} (f : ℕ → B) (word : List ℕ) (r : Option B) → r ≡ option_map f (natural word) → IfSome r (λ y. (n : ℕ) × (word ≡ numeral n) × (y ≡ f n))
natural_read f word = value_read numeral natural natural_again natural_takes f word

abbrev pub integer_spelled : {B : Type 0} (f : ℤ → B) (word : List ℕ) (r : Option B) → r ≡ option_map f (integer word) → (z : ℤ) → word ≡ signed_numeral z → r ≡ Some (f z)
integer_spelled f word = value_spelled signed_numeral integer integer_again integer_takes f word

abbrev pub integer_read : {B : Type 0} (f : ℤ → B) (word : List ℕ) (r : Option B) → r ≡ option_map f (integer word) → IfSome r (λ y. (z : ℤ) × (word ≡ signed_numeral z) × (y ≡ f z))
integer_read f word = value_read signed_numeral integer integer_again integer_takes f word
