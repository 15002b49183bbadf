-- Numbers are ordered by how many digits they have, and then by the digits.
use Rattle.std.proofs.Common.{◌≡◌, ◌≢◌, ◌<◌, ◌≤◌, ◌^◌, ◌*◌, ◌+◌, inl, inr, ℕ, suc, List, [], ◌∷◌, length, get_or, true, false, refl, sym, ap, ◌∙◌, arith, nat_lt, eq-eqb}
use Rattle.std.specs.Prelude.{◌==◌}
use Rattle.std.specs.List.{list_all}
use Rattle.std.specs.Char.{is_ascii_digit, digit_value}
use Rattle.std.specs.Cmp.Lexicographic.{slice_cmp}
use Rattle.std.specs.Ordering.{is_lt, nat_cmp}
use Rattle.std.specs.Str.Parse.{digits_value, digits_value_after, AllDigits}
use Rattle.std.specs.Int.{IsInRange}
use Rattle.std.proofs.lemmas.Bool.{eqb-true, eqb-false, ne_eqb, cases_lt, lt-ltb, le-ltb}
use Rattle.std.proofs.lemmas.Bool.Decides.{nat_tests}
use Rattle.std.proofs.lemmas.Int.Digits.{digits_value-lt}
use Rattle.std.proofs.lemmas.Str.Parse.{digit_from_value}
use Rattle.std.proofs.Math.Nat.{mul-le-mul_right, pow-suc, pow-le-pow_right}
use Rattle.line_text.specs.Numerals.{is_numeral}
use Rattle.line_text.proofs.Decimals.{own}
use Rattle.line_text.proofs.Numbers.{untests}

regrouped : (n d P v : ℕ) → (n * 10 + d) * P + v ≡ n * (P * 10) + ((0 * 10 + d) * P + v)
regrouped n d P v = omega arith

-- digits after others weigh as much as alone
weight : (ds : List ℕ) (n : ℕ) → digits_value_after 10 n ds ≡ n * 10 ^ length ds + digits_value 10 ds
weight [] n = omega arith
weight (c ∷ cs) n =
    let P = 10 ^ length cs in
    let power : 10 ^ suc (length cs) ≡ P * 10 = pow-suc 10 (length cs) in
    rw power (weight cs (n * 10 + digit_value c) ∙ regrouped n (digit_value c) P (digits_value 10 cs)
    ∙ ap (λ (k : ℕ). n * (P * 10) + k) (sym (weight cs (0 * 10 + digit_value c))))

first_weighs : (c : ℕ) (cs : List ℕ) → digits_value 10 (c ∷ cs) ≡ digit_value c * 10 ^ length cs + digits_value 10 cs
first_weighs c cs = weight cs (0 * 10 + digit_value c) ∙ ap (λ (k : ℕ). k * 10 ^ length cs + digits_value 10 cs) (omega arith)

glyph : (d : ℕ) → digit_value d < 10 → 48 + digit_value d ≡ d
glyph d lt = let r : IsInRange 48 57 d = digit_from_value d lt in grind (arith, nat_tests)

-- a larger first digit outweighs all others
outweighs : (a b P v w : ℕ) → a < b → v < P → a * P + v < b * P + w
outweighs a b P v w ab vP = let le : suc a * P ≤ b * P = mul-le-mul_right P ab in omega (arith, le)

module _ (c : ℕ) (cs : List ℕ) (d : ℕ) (ds : List ℕ) where
  less : AllDigits 10 (c ∷ cs) → AllDigits 10 (d ∷ ds) → length cs ≡ length ds → c < d → digits_value 10 (c ∷ cs) < digits_value 10 (d ∷ ds)
  less p q len lt =
      let smaller : digit_value c < digit_value d = omega (arith, glyph c p.0, glyph d q.0) in
      let low = digits_value-lt 10 cs p.1 in
      rw (first_weighs c cs, first_weighs d ds, ← len) (outweighs (digit_value c) (digit_value d) (10 ^ length cs) (digits_value 10 cs) (digits_value 10 ds) smaller low)

  first_less : c < d → is_lt (slice_cmp nat_cmp (c ∷ cs) (d ∷ ds)) ≡ true
  first_less lt = let e = lt-ltb c d lt in rw e refl

  first_more : d < c → is_lt (slice_cmp nat_cmp (c ∷ cs) (d ∷ ds)) ≡ false
  first_more lt =
      let e : nat_lt c d ≡ false = le-ltb c d (omega arith) in
      let n : (c == d) ≡ false = ne_eqb c d (λ is. omega (arith, is, lt)) in
      rw (e, n) refl

first_same : (c : ℕ) (cs ds : List ℕ) → is_lt (slice_cmp nat_cmp (c ∷ cs) (c ∷ ds)) ≡ is_lt (slice_cmp nat_cmp cs ds)
first_same c cs ds =
    let e : nat_lt c c ≡ false = le-ltb c c (omega arith) in
    let n : (c == c) ≡ true = grind (arith, nat_tests) in
    rw (e, n) refl

with_same : (m : ℕ) (cs ds : List ℕ) → length cs ≡ length ds → nat_lt (digits_value 10 (m ∷ cs)) (digits_value 10 (m ∷ ds)) ≡ nat_lt (digits_value 10 cs) (digits_value 10 ds)
with_same m cs ds len = rw (first_weighs m cs, first_weighs m ds, ← len) (grind (arith, nat_tests))

pub same_length : (a b : List ℕ) → AllDigits 10 a → AllDigits 10 b → length a ≡ length b → is_lt (slice_cmp nat_cmp a b) ≡ nat_lt (digits_value 10 a) (digits_value 10 b)
same_length [] [] p q e = refl
same_length [] (d ∷ ds) p q e = absurd (omega arith)
same_length (c ∷ cs) [] p q e = absurd (omega arith)
same_length (c ∷ cs) (d ∷ ds) p q e =
    let len : length cs ≡ length ds = omega arith in
    elim (cases_lt c d) [
      | inl lt ↦ first_less c cs d ds lt ∙ sym (lt-ltb _ _ (less c cs d ds p q len lt))
      | inr le ↦ elim (cases_lt d c) [
        | inl lt ↦ first_more c cs d ds lt ∙ sym (le-ltb _ _ (let above = less d ds c cs q p (sym len) lt in omega (arith, above)))
        | inr ge ↦
            (let same : d ≡ c = omega (arith, le, ge) in
            rw same (first_same c cs ds ∙ same_length cs ds p.1 q.1 len ∙ sym (with_same c cs ds len)))
      ]
    ]

-- a number of more than one digit has a first digit above 0
first_counts : (c : ℕ) (cs : List ℕ) → is_numeral (c ∷ cs) ≡ true → 0 < length cs → 1 ≤ digit_value c
first_counts c cs h some =
    let t = untests (list_all is_ascii_digit (c ∷ cs)) (length (c ∷ cs) == 0) (c == 48) (length (c ∷ cs) == 1) h in
    let d = glyph c (own.to (c ∷ cs) t.0).0 in
    elim (cases_lt 0 (digit_value c)) [
      | inl above ↦ above
      | inr none ↦ absurd (let one : length (c ∷ cs) ≡ 1 = eqb-true _ _ (t.2 (let is : c ≡ 48 = omega (arith, d, none) in eq-eqb c 48 is)) in omega (arith, one, some))
    ]

pub shorter : (a b : List ℕ) → is_numeral a ≡ true → is_numeral b ≡ true → length a < length b → digits_value 10 a < digits_value 10 b
shorter a [] p q lt = absurd (omega arith)
shorter a (c ∷ cs) p q lt =
    let t = untests (list_all is_ascii_digit a) (length a == 0) (get_or a 0 0 == 48) (length a == 1) p in
    let some : length a ≢ 0 = eqb-false _ _ t.1 in
    let one = first_counts c cs q (omega (arith, some)) in
    let low = digits_value-lt 10 a (own.to a t.0) in
    let ten : 0 < 10 = omega arith in
    let longer : 10 ^ length a ≤ 10 ^ length cs = pow-le-pow_right ten (omega arith) in
    let front : 1 * 10 ^ length cs ≤ digit_value c * 10 ^ length cs = mul-le-mul_right (10 ^ length cs) one in
    rw (first_weighs c cs) (omega (arith, low, longer, front))

pub digits_of : (a : List ℕ) → is_numeral a ≡ true → AllDigits 10 a
digits_of a h = own.to a (untests (list_all is_ascii_digit a) (length a == 0) (get_or a 0 0 == 48) (length a == 1) h).0
