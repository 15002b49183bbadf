-- The form of a command's words: what each word after the name is, and which options may follow.
use Rattle.std.specs.Prelude.{ℕ, ◌+◌, List, [], ◌∷◌, if◌then◌else◌, slice_get, ok_or, option_and_then, option_map, unwrap_or, Option, None, Some, Result, Ok, Err}
use Rattle.line_text.specs.Numerals.{natural}
use Rattle.command_words.specs.declared.form.Asked.{Asked}
use Rattle.command_words.specs.declared.form.Form as declared
use Rattle.command_words.specs.declared.form.Part.{Part}
use Rattle.command_words.specs.declared.form.Part.TheVariants.{File, Number}
use Rattle.command_words.specs.declared.options.Offer.{Offer}
use Rattle.command_words.specs.Counts.{count_of}
use Rattle.command_words.specs.Options.{Options, none_given, options_at, options_of}
use Rattle.command_words.specs.Words.{Words, ◌>>=◌, is_file_word, texts}

-- one part for each word after the name, and the options that may come behind these; no other word may
pub record Form : Type 0 where
  pub parts : List Part
  pub options : Offer

abbrev pub form_of : declared.Form → Form
form_of form = record { parts = form.parts.now; options = form.options }

-- words that have a form: the words after the name, the number that one of them is, if any is to be one, and the options
pub record Filled : Type 0 where
  pub words : Words
  pub count : Option ℕ
  pub options : Options

abbrev pub filled_of : Asked → Filled
filled_of asked = record { words = texts asked.words.now; count = option_map (λ count. count.value) asked.count; options = options_of asked.given }

-- the word of this number after the name, from 0
abbrev pub word_at : ℕ → Filled → List ℕ
word_at k filled = unwrap_or (slice_get filled.words k) []

-- the number among the words; where the form has none, 1
abbrev pub count_in : Filled → ℕ
count_in filled = unwrap_or filled.count 1

-- how many nodes a problem is to have, which is word n
abbrev pub number_in : ℕ → Option ℕ → Result ℕ ℕ
number_in n number = ok_or (option_and_then count_of number) n

-- the number among the words up to word n, which is to be of this part
abbrev pub part_in : ℕ → Part → Option ℕ → List ℕ → Result (Option ℕ) ℕ
part_in n File count word = if is_file_word word then Ok count else Err n
part_in n Number count word = number_in n (natural word) >>= λ number. Ok (Some number)

-- the number among the words and the options, from word n on
abbrev pub parts_at : ℕ → List Part → Offer → Option ℕ → Words → Result (Option ℕ × Options) ℕ
parts_at n [] offer count words = options_at n offer none_given words >>= λ given. Ok (count, given)
parts_at n (part ∷ parts) offer count [] = Err n
parts_at n (part ∷ parts) offer count (word ∷ words) = part_in n part count word >>= λ more. parts_at (n + 1) parts offer more words

abbrev pub filled_with : Words → Option ℕ × Options → Filled
filled_with words values = record { words = words; count = values.0; options = values.1 }

-- the words after the name, from word 1 on, in this form, or the number of the first word where they leave it
abbrev pub read_form : Form → Words → Result Filled ℕ
read_form form words = parts_at 1 form.parts form.options None words >>= λ values. Ok (filled_with words values)
