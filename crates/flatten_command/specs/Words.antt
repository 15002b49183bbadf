-- The words of `flat`: four files, and OUT.
use Rattle.std.specs.Prelude.{ℕ, List, [], ◌∷◌, Result, Ok}
use Rattle.command_words.specs.declared.form.Part.TheVariants.{File}
use Rattle.command_words.specs.declared.options.Offer.TheVariants.{NoOption}
use Rattle.command_words.specs.Words.{Words, ◌>>=◌}
use Rattle.command_words.specs.Forms.{Filled, Form, read_form, word_at}
use Rattle.problem_files.specs.Sources.{Origin, origin_of}
use Rattle.problem_files.specs.SourceWords.{joined_form, joined_origin}
use Rattle.flatten_command.specs.declared.flatten.Flatten.{Flatten}

-- where the problem comes from, and OUT
pub record FlattenWords : Type 0 where
  pub origin : Origin
  pub out : List ℕ

abbrev pub words_of : Flatten → FlattenWords
words_of flatten = record { origin = origin_of flatten.source; out = flatten.out.now }

abbrev pub flatten_form : Form
flatten_form = joined_form (File ∷ []) NoOption

abbrev pub flatten_words : Filled → FlattenWords
flatten_words filled = record { origin = joined_origin filled; out = word_at 4 filled }

-- what the words after the name ask for, or the place where they leave the form
abbrev pub flatten_asks : Words → Result FlattenWords ℕ
flatten_asks words = read_form flatten_form words >>= λ filled. Ok (flatten_words filled)
