-- The words of a line, parted by one space.
use Rattle.std.specs.Prelude.{ℕ, ◌==◌, ◌&&◌, not, Bool, List, [], ◌∷◌, ◌++◌, length, take, drop, if◌then◌else◌, Option, Some, None, option_and_then, ℤ}
use Rattle.std.specs.List.{position_or_len, flat_map, list_all}
use Rattle.std.specs.Str.{is_utf8}
use Rattle.line_text.specs.Numerals.{number_at}

infixl 10 ◌>>=◌
abbrev pub ◌>>=◌ : {A B : Type 0} → Option A → (A → Option B) → Option B
o >>= f = option_and_then f o

-- how many bytes come before the first space
abbrev pub word_len : List ℕ → ℕ
word_len bytes = position_or_len (λ b. b == 32) bytes

-- a word and its fields, each after one space
abbrev pub joined : List ℕ → List (List ℕ) → List ℕ
joined word fields = word ++ flat_map (λ field. 32 ∷ field) fields

-- a text that can be a field: it isn't empty, has no space, and is UTF-8
abbrev pub is_field : List ℕ → Bool
is_field w = not (length w == 0) && list_all (λ b. not (b == 32)) w && is_utf8 w

-- a space, and the bytes after it, at least one, up to the next space; and what comes after them
unfoldable pub bytes_at : List ℕ → Option (List ℕ × List ℕ)
bytes_at [] = None
bytes_at (c ∷ rest) = if not (c == 32) then None else if word_len rest == 0 then None else Some (take (word_len rest) rest, drop (word_len rest) rest)

-- the same, where the field is a text
abbrev pub as_text : List ℕ × List ℕ → Option (List ℕ × List ℕ)
as_text f = if not (is_utf8 f.0) then None else Some f

unfoldable pub field_at : List ℕ → Option (List ℕ × List ℕ)
field_at bytes = bytes_at bytes >>= as_text

-- a field that is a number, and what comes after it
unfoldable pub number_field : List ℕ → Option (ℤ × List ℕ)
number_field bytes = do
  field ← field_at bytes
  number ← number_at field.0
  Some (number, field.1)
