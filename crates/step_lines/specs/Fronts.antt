-- What stands in front of bytes.
use Rattle.std.specs.Prelude.{◌≡◌, ℕ, ◌<◌, true, List, length, map, take, ◌∷◌, ◌++◌, Result}
use Rattle.std.specs.Char.{is_ascii_digit}
use Rattle.std.specs.List.{flat_map, list_all}
use Rattle.std.specs.Str.Parse.{digits_value}
use Rattle.line_text.specs.Long.{fits_position}
use Rattle.line_text.specs.Numerals.{numeral}
use Rattle.tree_cert.specs.declared.fault.LineFault.{LineFault}
use Rattle.tree_cert.specs.declared.line.Closing.TheVariants.{Cut}
use Rattle.tree_cert.specs.declared.line.Line.{Line}
use Rattle.tree_cert.specs.declared.line.Line.TheVariants as lines
use Rattle.tree_cert.specs.declared.line.Step.{Step}
use Rattle.tree_cert.specs.Fields.{Gives}
use Rattle.tree_cert.specs.Reading.{line_of, answer_of, Means}
use Rattle.tree_cert.specs.Spelling.{spelling, is_node_list, has_ordered_cut, fits_line, Spells}
use Rattle.tree_cert.specs.Texts.{pieces}

-- the first `len` bytes are digits, which write this number
pub record AreDigits (bytes : List ℕ) (len size : ℕ) : Type 0 where
  pub digits : list_all is_ascii_digit (take len bytes) ≡ true
  pub value : size ≡ digits_value 10 (take len bytes)

-- the first line spells this line, whose numbers fit, and this comes after it
pub record IsLineBefore (bytes : List ℕ) (l : Line) (rest : List ℕ) : Type 0 where
  pub ordered : has_ordered_cut l ≡ true
  pub text : bytes ≡ spelling l ++ rest
  pub fits : fits_line l ≡ true

abbrev pub IsStepBefore : List ℕ → Step → List ℕ → Type 0
IsStepBefore bytes s rest = IsLineBefore bytes (lines.Step s) rest

abbrev pub IsCutBefore : List ℕ → List ℕ → List ℕ → Type 0
IsCutBefore bytes nodes rest = IsLineBefore bytes (lines.Close (Cut nodes)) rest

-- words, each after one space
abbrev pub spaced : List (List ℕ) → List ℕ
spaced words = flat_map (λ word. 32 ∷ word) words

-- after a space the bytes are these nodes, strictly ascending and at least one, up to a line feed, and this comes after it
pub record AreNodesBefore (bytes nodes rest : List ℕ) : Type 0 where
  pub ordered : is_node_list nodes ≡ true
  pub text : 32 ∷ bytes ≡ spaced (map numeral nodes) ++ 10 ∷ rest
  pub fits : list_all fits_position nodes ≡ true

-- the first line of a text, with its line feed if it has one, is read so, and this comes after it
pub record IsNext (bytes : List ℕ) (read : Result Line LineFault) (rest : List ℕ) : Type 0 where
  pub piece : List ℕ
  pub first : pieces bytes ≡ piece ∷ pieces rest
  pub text : bytes ≡ piece ++ rest
  pub shorter : length rest < length bytes
  -- what is read is the line that the piece is, or what is wrong with its form
  pub exact : Gives (λ l. l) read (line_of piece)
  -- A line that is read is spelled so, and fits. `Wide`: a line with a number that doesn't fit is spelled so. `NotLine`:
  -- no line is spelled so.
  pub means : Means piece read
  -- what is spelled so is read: the line where its numbers fit, and else `Wide`
  pub spelled : (l : Line) → Spells piece l → Gives (λ l. l) read (answer_of l)
