-- The size that digits write, digit after digit.
use Rattle.std.proofs.Common.{◌≡◌, ◌<◌, ◌≤◌, ◌^◌, ◌-◌, ◌+◌, ◌*◌, ℕ, zero, suc, min, List, [], ◌∷◌, ◌++◌, length, take, get_or, Bool, true, false, cond, not, ◌&&◌, Some, None, refl, sym, ap, ◌∙◌, arith}
use Rattle.std.specs.Prelude.{◌==◌, option_map}
use Rattle.std.specs.Char.{is_ascii_digit, digit_value}
use Rattle.std.specs.List.{list_all}
use Rattle.std.specs.Str.Parse.{digits_value}
use Rattle.std.proofs.lemmas.Bool.Decides.{nat_tests}
use Rattle.std.proofs.lemmas.Int.Digits.{digits_value_more}
use Rattle.std.proofs.lemmas.List.{take_more, take_all}
use Rattle.line_text.specs.Numerals.{begins_well, size_of, size_at}

-- all are digits, and one more
all_more : (ds : List ℕ) (d : ℕ) → list_all is_ascii_digit ds ≡ true → is_ascii_digit d ≡ true → list_all is_ascii_digit (ds ++ d ∷ []) ≡ true
all_more [] d e h = rw h refl
all_more (c ∷ ds) d e h = by (is_ascii_digit c) refl e (λ rest. all_more ds d rest h)
  where
    by : (b : Bool) → is_ascii_digit c ≡ b → (b && list_all is_ascii_digit ds) ≡ true → (list_all is_ascii_digit ds ≡ true → list_all is_ascii_digit (ds ++ d ∷ []) ≡ true) → (b && list_all is_ascii_digit (ds ++ d ∷ [])) ≡ true
    by true p k more = more k
    by false p k more = absurd cc

-- what the digits before the index i are
pub record Passed (ds : List ℕ) (i size : ℕ) : Type 0 where
  pub digits : list_all is_ascii_digit (take i ds) ≡ true
  pub value : size ≡ min (digits_value 10 (take i ds)) (2 ^ 64 - 1)

saturated : (v n d M : ℕ) → v ≡ min n M → min (min (v * 10) M + d) M ≡ min (n * 10 + d) M
saturated v n d M e = omega arith

pub one_more : (ds : List ℕ) (i size : ℕ) → i < length ds → Passed ds i size → is_ascii_digit (get_or ds i 0) ≡ true
    → Passed ds (i + 1) (min (min (size * 10) (2 ^ 64 - 1) + (get_or ds i 0 - 48)) (2 ^ 64 - 1))
one_more ds i size lt p is =
    let d = get_or ds i 0 in
    let value : digit_value d ≡ d - 48 = grind (arith, nat_tests) in
    record {
      digits = rw (take_more ds i 0 lt) (all_more (take i ds) d p.digits is);
      value = saturated size (digits_value 10 (take i ds)) (d - 48) (2 ^ 64 - 1) p.value ∙ rw (digits_value_more 10 ds i lt, value) refl;
    }

-- digits one and all
pub all_passed : (ds : List ℕ) (i size : ℕ) → length ds ≤ i → Passed ds i size → Some size ≡ size_of ds
all_passed ds i size le p =
    let whole = take_all i ds le in
    let digits : list_all is_ascii_digit ds ≡ true = ap (list_all is_ascii_digit) (sym whole) ∙ p.digits in
    rw digits (ap Some (p.value ∙ ap (λ (x : List ℕ). min (digits_value 10 x) (2 ^ 64 - 1)) whole))

-- another byte among them
not_all : (ds : List ℕ) (i : ℕ) → i < length ds → is_ascii_digit (get_or ds i 0) ≡ false → list_all is_ascii_digit ds ≡ false
not_all [] i lt e = absurd (omega arith)
not_all (d ∷ ds) zero lt e = rw e refl
not_all (d ∷ ds) (suc i) lt e = by (is_ascii_digit d) (not_all ds i (omega arith) e)
  where
    by : (b : Bool) → list_all is_ascii_digit ds ≡ false → (b && list_all is_ascii_digit ds) ≡ false
    by true h = h
    by false h = refl

pub none_passed : (ds : List ℕ) (i : ℕ) → i < length ds → is_ascii_digit (get_or ds i 0) ≡ false → None ≡ size_of ds
none_passed ds i lt e = let other = not_all ds i lt e in rw other refl

-- digits that begin well are a number's text
pub well_sized : (ds : List ℕ) → begins_well ds ≡ true → size_of ds ≡ size_at ds
well_sized ds e = by (list_all is_ascii_digit ds) (not (length ds == 0)) _ (digits_value 10 ds) e
  where
    by : (a b c : Bool) (n : ℕ) → (b && c) ≡ true → cond a (Some (min n (2 ^ 64 - 1))) None ≡ option_map (λ n. min n (2 ^ 64 - 1)) (cond (a && b && c) (Some n) None)
    by true true true n h = refl
    by true true false n h = absurd cc
    by true false c n h = absurd cc
    by false b c n h = refl

pub ill_sized : (ds : List ℕ) → begins_well ds ≡ false → None ≡ size_at ds
ill_sized ds e = by (list_all is_ascii_digit ds) (not (length ds == 0)) _ (digits_value 10 ds) e
  where
    by : (a b c : Bool) (n : ℕ) → (b && c) ≡ false → None ≡ option_map (λ n. min n (2 ^ 64 - 1)) (cond (a && b && c) (Some n) None)
    by true true true n h = absurd cc
    by true true false n h = refl
    by true false c n h = refl
    by false b c n h = refl
