-- A text has no fault exactly where it is of the form.
use Rattle.std.proofs.Common.{◌≡◌, ℕ, ◌+◌, ◌++◌, List, [], ◌∷◌, Bool, true, false, ◌&&◌, ◌||◌, if◌then◌else◌, Option, Some, None, ◌⊎◌, inl, inr, refl, sym, ap, subst, ◌∙◌, arith}
use Rattle.std.specs.Prelude.{◌==◌}
use Rattle.std.specs.List.{list_all}
use Rattle.std.specs.Char.{is_ascii_digit, is_ascii_whitespace}
use Rattle.std.proofs.lemmas.Bool.{eqb-true, le-leb, lt-leb, and_parts}
use Rattle.gas_units.specs.declared.decimal.Mode.{Mode}
use Rattle.gas_units.specs.declared.decimal.Mode.TheVariants as mode
use Rattle.gas_units.specs.Decimals.{next, onward, form_fault, is_sign, is_exponent_mark}
use Rattle.gas_units.specs.DecimalForm.{Run, One, is_point, Blank, Digits, Signed, Exponent, Closing, Pointed, Number, IsDecimal, FormIsDecimal}
use Rattle.gas_units.proofs.Sizes.{digit_bounds}

-- ---- a text without a fault is of the form

-- what may follow in each state
abbrev Follows : Mode → List ℕ → Type 0
Follows mode.Front = IsDecimal
Follows mode.Signed = Number
Follows mode.Whole = Run is_ascii_digit Pointed
Follows mode.Point = Digits Closing
Follows mode.Part = Run is_ascii_digit Closing
Follows mode.Exponent = Signed (Digits Blank)
Follows mode.ExponentSign = Digits Blank
Follows mode.Power = Run is_ascii_digit Blank
Follows mode.Tail = Blank

none : {p : ℕ → Bool} {K : List ℕ → Type 0} (bytes : List ℕ) → K bytes → Run p K bytes
none bytes k = record { run = []; rest = bytes; split = refl; passes = refl; then_rest = k }

more : {p : ℕ → Bool} {K : List ℕ → Type 0} (b : ℕ) (bytes : List ℕ) → p b ≡ true → Run p K bytes → Run p K (b ∷ bytes)
more {p} b bytes y r = record { run = b ∷ r.run; rest = r.rest; split = ap (λ l. b ∷ l) r.split; passes = ap (λ (v : Bool). v && list_all p r.run) y ∙ r.passes; then_rest = r.then_rest }

one : {p : ℕ → Bool} {K : List ℕ → Type 0} (b : ℕ) (bytes : List ℕ) → p b ≡ true → K bytes → One p K (b ∷ bytes)
one b bytes y k = record { byte = b; rest = bytes; split = refl; passes = y; then_rest = k }

pick : (f : Mode → Option ℕ) (at : ℕ) (c : Bool) (k : Mode) (o : Option Mode) → onward f at (if c then Some k else o) ≡ None → ((c ≡ true) × (f k ≡ None)) ⊎ (onward f at o ≡ None)
pick f at true k o e = inl (refl, e)
pick f at false k o e = inr e

stuck : (at : ℕ) {A : Type 0} → Some at ≡ None → A
stuck at e = absurd cc

module _ (at b : ℕ) (bytes : List ℕ) (rec : (m : Mode) → form_fault m (at + 1) bytes ≡ None → Follows m bytes) where
  abbrev go : Mode → Option ℕ
  go m = form_fault m (at + 1) bytes

  step : (m : Mode) → onward go at (next m b) ≡ None → Follows m (b ∷ bytes)
  step mode.Front e = elim (pick go at (is_ascii_whitespace b) mode.Front _ e) [
    | inl h ↦ more b bytes h.0 (rec mode.Front h.1)
    | inr f ↦ none (b ∷ bytes) (elim (pick go at (is_sign b) mode.Signed _ f) [
      | inl h ↦ inr (one b bytes h.0 (rec mode.Signed h.1))
      | inr g ↦ inl (elim (pick go at (is_ascii_digit b) mode.Whole _ g) [
        | inl h ↦ inl (one b bytes h.0 (rec mode.Whole h.1))
        | inr i ↦ elim (pick go at (is_point b) mode.Point _ i) [ inl h ↦ inr (one b bytes h.0 (rec mode.Point h.1)) | inr j ↦ stuck at j ]
      ])
    ])
  ]
  step mode.Signed e = elim (pick go at (is_ascii_digit b) mode.Whole _ e) [
    | inl h ↦ inl (one b bytes h.0 (rec mode.Whole h.1))
    | inr f ↦ elim (pick go at (is_point b) mode.Point _ f) [ inl h ↦ inr (one b bytes h.0 (rec mode.Point h.1)) | inr j ↦ stuck at j ]
  ]
  step mode.Whole e = elim (pick go at (is_ascii_digit b) mode.Whole _ e) [
    | inl h ↦ more b bytes h.0 (rec mode.Whole h.1)
    | inr f ↦ none (b ∷ bytes) (elim (pick go at (is_point b) mode.Part _ f) [
      | inl h ↦ inr (one b bytes h.0 (rec mode.Part h.1))
      | inr g ↦ inl (elim (pick go at (is_exponent_mark b) mode.Exponent _ g) [
        | inl h ↦ inr (one b bytes h.0 (rec mode.Exponent h.1))
        | inr i ↦ elim (pick go at (is_ascii_whitespace b) mode.Tail _ i) [ inl h ↦ inl (more b bytes h.0 (rec mode.Tail h.1)) | inr j ↦ stuck at j ]
      ])
    ])
  ]
  step mode.Point e = elim (pick go at (is_ascii_digit b) mode.Part _ e) [ inl h ↦ one b bytes h.0 (rec mode.Part h.1) | inr j ↦ stuck at j ]
  step mode.Part e = elim (pick go at (is_ascii_digit b) mode.Part _ e) [
    | inl h ↦ more b bytes h.0 (rec mode.Part h.1)
    | inr f ↦ none (b ∷ bytes) (elim (pick go at (is_exponent_mark b) mode.Exponent _ f) [
      | inl h ↦ inr (one b bytes h.0 (rec mode.Exponent h.1))
      | inr i ↦ elim (pick go at (is_ascii_whitespace b) mode.Tail _ i) [ inl h ↦ inl (more b bytes h.0 (rec mode.Tail h.1)) | inr j ↦ stuck at j ]
    ])
  ]
  step mode.Exponent e = elim (pick go at (is_sign b) mode.ExponentSign _ e) [
    | inl h ↦ inr (one b bytes h.0 (rec mode.ExponentSign h.1))
    | inr f ↦ elim (pick go at (is_ascii_digit b) mode.Power _ f) [ inl h ↦ inl (one b bytes h.0 (rec mode.Power h.1)) | inr j ↦ stuck at j ]
  ]
  step mode.ExponentSign e = elim (pick go at (is_ascii_digit b) mode.Power _ e) [ inl h ↦ one b bytes h.0 (rec mode.Power h.1) | inr j ↦ stuck at j ]
  step mode.Power e = elim (pick go at (is_ascii_digit b) mode.Power _ e) [
    | inl h ↦ more b bytes h.0 (rec mode.Power h.1)
    | inr f ↦ elim (pick go at (is_ascii_whitespace b) mode.Tail _ f) [ inl h ↦ none (b ∷ bytes) (more b bytes h.0 (rec mode.Tail h.1)) | inr j ↦ stuck at j ]
  ]
  step mode.Tail e = elim (pick go at (is_ascii_whitespace b) mode.Tail _ e) [ inl h ↦ more b bytes h.0 (rec mode.Tail h.1) | inr j ↦ stuck at j ]

blank_end : Blank []
blank_end = none [] refl

ends : (m : Mode) (at : ℕ) → form_fault m at [] ≡ None → Follows m []
ends mode.Front at e = stuck at e
ends mode.Signed at e = stuck at e
ends mode.Whole at e = none [] (inl (inl blank_end))
ends mode.Point at e = stuck at e
ends mode.Part at e = none [] (inl blank_end)
ends mode.Exponent at e = stuck at e
ends mode.ExponentSign at e = stuck at e
ends mode.Power at e = none [] blank_end
ends mode.Tail at e = blank_end

follows : (m : Mode) (at : ℕ) (bytes : List ℕ) → form_fault m at bytes ≡ None → Follows m bytes
follows m at [] e = ends m at e
follows m at (b ∷ bytes) e = step at b bytes (λ k h. follows k (at + 1) bytes h) m e

-- ---- a text of the form has no fault

-- nothing is wrong from this state on, wherever it stands
abbrev Good : Mode → List ℕ → Type 0
Good m bytes = (at : ℕ) → form_fault m at bytes ≡ None

goes : (m k : Mode) (b : ℕ) (bytes : List ℕ) → next m b ≡ Some k → Good k bytes → Good m (b ∷ bytes)
goes m k b bytes e g at = ap (onward (λ j. form_fault j (at + 1) bytes) at) e ∙ g (at + 1)

through : (p : ℕ → Bool) (m : Mode) (run rest : List ℕ) → ((b : ℕ) → p b ≡ true → next m b ≡ Some m) → list_all p run ≡ true → Good m rest → Good m (run ++ rest)
through p m [] rest on y g = g
through p m (b ∷ run) rest on y g = let h = and_parts (p b) (list_all p run) y in goes m m b (run ++ rest) (on b h.0) (through p m run rest on h.1 g)

good_run : (p : ℕ → Bool) (K : List ℕ → Type 0) (m : Mode) (bytes : List ℕ) → ((b : ℕ) → p b ≡ true → next m b ≡ Some m) → ((r : List ℕ) → K r → Good m r) → Run p K bytes → Good m bytes
good_run p K m bytes on k r = subst (λ l. Good m l) (sym r.split) (through p m r.run r.rest on r.passes (k r.rest r.then_rest))

good_one : (p : ℕ → Bool) (K : List ℕ → Type 0) (m n : Mode) (bytes : List ℕ) → ((b : ℕ) → p b ≡ true → next m b ≡ Some n) → ((r : List ℕ) → K r → Good n r) → One p K bytes → Good m bytes
good_one p K m n bytes on k r = subst (λ l. Good m l) (sym r.split) (goes m n r.byte r.rest (on r.byte r.passes) (k r.rest r.then_rest))

-- ---- no byte is of two sorts
not_at : (p : ℕ → Bool) (b k : ℕ) → p k ≡ false → p b ≡ true → (b == k) ≡ false
not_at p b k n y = by (b == k) refl
  where
    by : (v : Bool) → (b == k) ≡ v → (b == k) ≡ false
    by false e = e
    by true e = let t : p k ≡ true = subst (λ (x : ℕ). p x ≡ true) (eqb-true b k e) y in absurd (clash (sym t ∙ n))
      where
        clash : true ≡ false → ⊥
        clash c = cc

flip : (a b : Bool) → (a ≡ true → b ≡ false) → b ≡ true → a ≡ false
flip false b f y = refl
flip true b f y = absurd (clash (sym y ∙ f refl))
  where
    clash : true ≡ false → ⊥
    clash c = cc

digit_blank : (b : ℕ) → is_ascii_digit b ≡ true → is_ascii_whitespace b ≡ false
digit_blank b y =
    let d = digit_bounds b y in
    rw (le-leb 9 b (omega (arith, d)), lt-leb b 10 (omega (arith, d)), le-leb 12 b (omega (arith, d)), lt-leb b 13 (omega (arith, d)), le-leb 32 b (omega (arith, d)), lt-leb b 32 (omega (arith, d))) refl

-- neither of two bytes
neither : (p : ℕ → Bool) (b j k : ℕ) → p j ≡ false → p k ≡ false → p b ≡ true → (b == j || b == k) ≡ false
neither p b j k m n y = ap (λ (v : Bool). v || b == k) (not_at p b j m y) ∙ not_at p b k n y

-- choices
takes : (c : Bool) (x y : Option Mode) → c ≡ true → (if c then x else y) ≡ x
takes c x y e = ap (λ (v : Bool). if v then x else y) e

past : (c : Bool) (x y : Option Mode) → c ≡ false → (if c then x else y) ≡ y
past c x y e = ap (λ (v : Bool). if v then x else y) e

digit_sign : (b : ℕ) → is_ascii_digit b ≡ true → is_sign b ≡ false
digit_sign b y = neither is_ascii_digit b 43 45 refl refl y

blank_digit : (b : ℕ) → is_ascii_whitespace b ≡ true → is_ascii_digit b ≡ false
blank_digit b y = flip (is_ascii_digit b) (is_ascii_whitespace b) (digit_blank b) y

blank_point : (b : ℕ) → is_ascii_whitespace b ≡ true → is_point b ≡ false
blank_point b y = not_at is_ascii_whitespace b 46 refl y

blank_mark : (b : ℕ) → is_ascii_whitespace b ≡ true → is_exponent_mark b ≡ false
blank_mark b y = neither is_ascii_whitespace b 101 69 refl refl y

sign_blank : (b : ℕ) → is_sign b ≡ true → is_ascii_whitespace b ≡ false
sign_blank b y = flip (is_ascii_whitespace b) (is_sign b) (λ w. neither is_ascii_whitespace b 43 45 refl refl w) y

mark_digit : (b : ℕ) → is_exponent_mark b ≡ true → is_ascii_digit b ≡ false
mark_digit b y = flip (is_ascii_digit b) (is_exponent_mark b) (λ d. neither is_ascii_digit b 101 69 refl refl d) y

mark_point : (b : ℕ) → is_exponent_mark b ≡ true → is_point b ≡ false
mark_point b y = not_at is_exponent_mark b 46 refl y

point_blank : (b : ℕ) → is_point b ≡ true → is_ascii_whitespace b ≡ false
point_blank b y = flip (is_ascii_whitespace b) (is_point b) (blank_point b) y

point_sign : (b : ℕ) → is_point b ≡ true → is_sign b ≡ false
point_sign b y = flip (is_sign b) (is_point b) (λ s. not_at is_sign b 46 refl s) y

point_digit : (b : ℕ) → is_point b ≡ true → is_ascii_digit b ≡ false
point_digit b y = flip (is_ascii_digit b) (is_point b) (λ d. not_at is_ascii_digit b 46 refl d) y

-- ---- how each state goes on
front_digit : (b : ℕ) → is_ascii_digit b ≡ true → next mode.Front b ≡ Some mode.Whole
front_digit b y = past (is_ascii_whitespace b) _ _ (digit_blank b y) ∙ past (is_sign b) _ _ (digit_sign b y) ∙ takes (is_ascii_digit b) _ _ y

front_sign : (b : ℕ) → is_sign b ≡ true → next mode.Front b ≡ Some mode.Signed
front_sign b y = past (is_ascii_whitespace b) _ _ (sign_blank b y) ∙ takes (is_sign b) _ _ y

front_point : (b : ℕ) → is_point b ≡ true → next mode.Front b ≡ Some mode.Point
front_point b y = past (is_ascii_whitespace b) _ _ (point_blank b y) ∙ past (is_sign b) _ _ (point_sign b y) ∙ past (is_ascii_digit b) _ _ (point_digit b y) ∙ takes (is_point b) _ _ y

signed_point : (b : ℕ) → is_point b ≡ true → next mode.Signed b ≡ Some mode.Point
signed_point b y = past (is_ascii_digit b) _ _ (point_digit b y) ∙ takes (is_point b) _ _ y

whole_point : (b : ℕ) → is_point b ≡ true → next mode.Whole b ≡ Some mode.Part
whole_point b y = past (is_ascii_digit b) _ _ (point_digit b y) ∙ takes (is_point b) _ _ y

whole_mark : (b : ℕ) → is_exponent_mark b ≡ true → next mode.Whole b ≡ Some mode.Exponent
whole_mark b y = past (is_ascii_digit b) _ _ (mark_digit b y) ∙ past (is_point b) _ _ (mark_point b y) ∙ takes (is_exponent_mark b) _ _ y

whole_blank : (b : ℕ) → is_ascii_whitespace b ≡ true → next mode.Whole b ≡ Some mode.Tail
whole_blank b y = past (is_ascii_digit b) _ _ (blank_digit b y) ∙ past (is_point b) _ _ (blank_point b y) ∙ past (is_exponent_mark b) _ _ (blank_mark b y) ∙ takes (is_ascii_whitespace b) _ _ y

part_mark : (b : ℕ) → is_exponent_mark b ≡ true → next mode.Part b ≡ Some mode.Exponent
part_mark b y = past (is_ascii_digit b) _ _ (mark_digit b y) ∙ takes (is_exponent_mark b) _ _ y

part_blank : (b : ℕ) → is_ascii_whitespace b ≡ true → next mode.Part b ≡ Some mode.Tail
part_blank b y = past (is_ascii_digit b) _ _ (blank_digit b y) ∙ past (is_exponent_mark b) _ _ (blank_mark b y) ∙ takes (is_ascii_whitespace b) _ _ y

exponent_digit : (b : ℕ) → is_ascii_digit b ≡ true → next mode.Exponent b ≡ Some mode.Power
exponent_digit b y = past (is_sign b) _ _ (digit_sign b y) ∙ takes (is_ascii_digit b) _ _ y

power_blank : (b : ℕ) → is_ascii_whitespace b ≡ true → next mode.Power b ≡ Some mode.Tail
power_blank b y = past (is_ascii_digit b) _ _ (blank_digit b y) ∙ takes (is_ascii_whitespace b) _ _ y

-- ---- part by part
blank_good : (m : Mode) (bytes : List ℕ) → Good m [] → ((b : ℕ) → is_ascii_whitespace b ≡ true → next m b ≡ Some mode.Tail) → Blank bytes → Good m bytes
blank_good m bytes over on r = subst (λ l. Good m l) (sym r.split) (by r.run r.passes)
  where
    tail : Good mode.Tail r.rest
    tail = subst (λ l. Good mode.Tail l) (sym r.then_rest) (λ at. refl)

    by : (run : List ℕ) → list_all is_ascii_whitespace run ≡ true → Good m (run ++ r.rest)
    by [] y = subst (λ l. Good m l) (sym r.then_rest) over
    by (b ∷ run) y =
        let h = and_parts (is_ascii_whitespace b) (list_all is_ascii_whitespace run) y in
        goes m mode.Tail b (run ++ r.rest) (on b h.0) (through is_ascii_whitespace mode.Tail run r.rest (λ c z. takes (is_ascii_whitespace c) _ _ z) h.1 tail)

digits_good : (m k : Mode) (K : List ℕ → Type 0) (bytes : List ℕ) → ((b : ℕ) → is_ascii_digit b ≡ true → next m b ≡ Some k) → ((b : ℕ) → is_ascii_digit b ≡ true → next k b ≡ Some k) → ((r : List ℕ) → K r → Good k r) → Digits K bytes → Good m bytes
digits_good m k K bytes first on rest d = good_one is_ascii_digit (Run is_ascii_digit K) m k bytes first (λ r s. good_run is_ascii_digit K k r on rest s) d

power_good : (bytes : List ℕ) → Blank bytes → Good mode.Power bytes
power_good bytes h = blank_good mode.Power bytes (λ at. refl) power_blank h

exponent_good : (m : Mode) (bytes : List ℕ) → ((b : ℕ) → is_exponent_mark b ≡ true → next m b ≡ Some mode.Exponent) → Exponent bytes → Good m bytes
exponent_good m bytes on h = good_one is_exponent_mark (Signed (Digits Blank)) m mode.Exponent bytes on signed h
  where
    signed : (r : List ℕ) → Signed (Digits Blank) r → Good mode.Exponent r
    signed r (inl d) = digits_good mode.Exponent mode.Power Blank r exponent_digit (λ b y. takes (is_ascii_digit b) _ _ y) power_good d
    signed r (inr s) = good_one is_sign (Digits Blank) mode.Exponent mode.ExponentSign r (λ b y. takes (is_sign b) _ _ y) (λ t d. digits_good mode.ExponentSign mode.Power Blank t (λ b y. takes (is_ascii_digit b) _ _ y) (λ b y. takes (is_ascii_digit b) _ _ y) power_good d) s

part_closing : (bytes : List ℕ) → Closing bytes → Good mode.Part bytes
part_closing bytes (inl h) = blank_good mode.Part bytes (λ at. refl) part_blank h
part_closing bytes (inr h) = exponent_good mode.Part bytes part_mark h

whole_closing : (bytes : List ℕ) → Closing bytes → Good mode.Whole bytes
whole_closing bytes (inl h) = blank_good mode.Whole bytes (λ at. refl) whole_blank h
whole_closing bytes (inr h) = exponent_good mode.Whole bytes whole_mark h

whole_pointed : (bytes : List ℕ) → Pointed bytes → Good mode.Whole bytes
whole_pointed bytes (inl h) = whole_closing bytes h
whole_pointed bytes (inr h) = good_one is_point (Run is_ascii_digit Closing) mode.Whole mode.Part bytes whole_point (λ r s. good_run is_ascii_digit Closing mode.Part r (λ b y. takes (is_ascii_digit b) _ _ y) part_closing s) h

number_good : (m : Mode) (bytes : List ℕ) → ((b : ℕ) → is_ascii_digit b ≡ true → next m b ≡ Some mode.Whole) → ((b : ℕ) → is_point b ≡ true → next m b ≡ Some mode.Point) → Number bytes → Good m bytes
number_good m bytes digit point (inl d) = digits_good m mode.Whole Pointed bytes digit (λ b y. takes (is_ascii_digit b) _ _ y) whole_pointed d
number_good m bytes digit point (inr h) = good_one is_point (Digits Closing) m mode.Point bytes point (λ r d. digits_good mode.Point mode.Part Closing r (λ b y. takes (is_ascii_digit b) _ _ y) (λ b y. takes (is_ascii_digit b) _ _ y) part_closing d) h

front_good : (bytes : List ℕ) → Signed Number bytes → Good mode.Front bytes
front_good bytes (inl n) = number_good mode.Front bytes front_digit front_point n
front_good bytes (inr h) = good_one is_sign Number mode.Front mode.Signed bytes front_sign (λ r n. number_good mode.Signed r (λ b y. takes (is_ascii_digit b) _ _ y) signed_point n) h

pub form_is_decimal : FormIsDecimal
form_is_decimal bytes = (λ e. follows mode.Front 0 bytes e, λ h. good_run is_ascii_whitespace (Signed Number) mode.Front bytes (λ b y. takes (is_ascii_whitespace b) _ _ y) front_good h 0)
