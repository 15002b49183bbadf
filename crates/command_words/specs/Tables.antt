-- A table of commands by their names, what words ask for by it, and the place where other words leave it.
use Rattle.std.specs.Prelude.{◌≡◌, ℕ, List, [], ◌∷◌, ◌++◌, length, if◌then◌else◌, Result, Ok, Err}
use Rattle.std.specs.Str.{bytes_eq}
use Rattle.command_words.specs.Forms.{Filled, Form, read_form}
use Rattle.command_words.specs.Words.{Words, ◌>>=◌}

-- a command's name, its form, and what words of that form ask for
pub record Row (Command : Type 0) : Type 0 where
  pub name : List ℕ
  pub form : Form
  pub asks : Filled → Command

-- what the words after this name ask for
abbrev pub asked_in : {Command : Type 0} → List (Row Command) → List ℕ → Words → Result Command ℕ
asked_in [] name words = Err 0
asked_in (row ∷ rows) name words = if bytes_eq name row.name then (read_form row.form words >>= λ filled. Ok (row.asks filled)) else asked_in rows name words

-- the command that plain words ask for, or the number of the first word up to which no plain words begin so
abbrev pub plain_in : {Command : Type 0} → List (Row Command) → Words → Result Command ℕ
plain_in rows [] = Err 0
plain_in rows (name ∷ words) = asked_in rows name words

-- plain words begin with these
pub record BeginPlain {Command : Type 0} (read : Words → Result Command ℕ) (front : Words) : Type 0 where
  pub more : Words
  pub command : Command
  pub is_plain : read (front ++ more) ≡ Ok command

-- some plain words begin as these do up to the word of this number, from 0, and none as up to a later one, if there is one;
-- nor are these plain
pub record IsPlace {Command : Type 0} (read : Words → Result Command ℕ) (at : ℕ) (words : Words) : Type 0 where
  pub front : Words
  pub rest : Words
  pub parts : words ≡ front ++ rest
  pub before : length front ≡ at
  pub begins : BeginPlain read front
  pub no_later : (word : List ℕ) (later : Words) → rest ≡ word ∷ later → BeginPlain read (front ++ word ∷ []) → ⊥
  pub not_plain : (command : Command) → read words ≡ Ok command → ⊥
