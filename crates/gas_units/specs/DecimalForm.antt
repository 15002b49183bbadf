-- The form of a decimal text, part by part.
use Rattle.std.specs.Prelude.{◌≡◌, ℕ, ◌==◌, ◌++◌, List, [], ◌∷◌, Bool, true, ◌⊎◌, ◌↔◌}
use Rattle.std.specs.List.{list_all}
use Rattle.std.specs.Char.{is_ascii_digit, is_ascii_whitespace}
use Rattle.gas_units.specs.Decimals.{is_sign, is_exponent_mark, IsForm}

-- bytes that pass a test, perhaps none, and then the rest
pub record Run (p : ℕ → Bool) (Rest : List ℕ → Type 0) (bytes : List ℕ) : Type 0 where
  pub run : List ℕ
  pub rest : List ℕ
  pub split : bytes ≡ run ++ rest
  pub passes : list_all p run ≡ true
  pub then_rest : Rest rest

-- one byte that passes a test, and then the rest
pub record One (p : ℕ → Bool) (Rest : List ℕ → Type 0) (bytes : List ℕ) : Type 0 where
  pub byte : ℕ
  pub rest : List ℕ
  pub split : bytes ≡ byte ∷ rest
  pub passes : p byte ≡ true
  pub then_rest : Rest rest

abbrev pub is_point : ℕ → Bool
is_point b = b == 46

-- white space up to the end
abbrev pub Blank : List ℕ → Type 0
Blank = Run is_ascii_whitespace (λ r. r ≡ [])

-- at least one digit
abbrev pub Digits : (List ℕ → Type 0) → List ℕ → Type 0
Digits Rest = One is_ascii_digit (Run is_ascii_digit Rest)

abbrev pub Signed : (List ℕ → Type 0) → List ℕ → Type 0
Signed Rest bytes = Rest bytes ⊎ One is_sign Rest bytes

abbrev pub Exponent : List ℕ → Type 0
Exponent = One is_exponent_mark (Signed (Digits Blank))

-- what follows the digits
abbrev pub Closing : List ℕ → Type 0
Closing bytes = Blank bytes ⊎ Exponent bytes

-- what follows digits that no point precedes: a point with more digits, perhaps none, or nothing more
abbrev pub Pointed : List ℕ → Type 0
Pointed bytes = Closing bytes ⊎ One is_point (Run is_ascii_digit Closing) bytes

-- digits with at most one point, at least one of them, and an exponent or none
abbrev pub Number : List ℕ → Type 0
Number bytes = Digits Pointed bytes ⊎ One is_point (Digits Closing) bytes

-- white space, a sign or none, and a number
abbrev pub IsDecimal : List ℕ → Type 0
IsDecimal = Run is_ascii_whitespace (Signed Number)

-- a text has no fault exactly where it is of this form
abbrev pub FormIsDecimal : Type 0
FormIsDecimal = (bytes : List ℕ) → IsForm bytes ↔ IsDecimal bytes
