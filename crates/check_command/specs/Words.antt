-- The words of `check` and `check-flat`: the files of a problem, and TREE.
use Rattle.std.specs.Prelude.{ℕ, List, [], ◌∷◌, Result, Ok}
use Rattle.command_words.specs.declared.form.Part.TheVariants.{File}
use Rattle.command_words.specs.declared.options.Offer.TheVariants.{NoOption}
use Rattle.command_words.specs.Words.{Words, ◌>>=◌}
use Rattle.command_words.specs.Forms.{Filled, Form, read_form, word_at}
use Rattle.problem_files.specs.Sources.{Origin, origin_of}
use Rattle.problem_files.specs.SourceWords.{flat_form, flat_origin, joined_form, joined_origin}
use Rattle.check_command.specs.declared.check.Check.{Check}

-- where the problem comes from, and TREE
pub record CheckWords : Type 0 where
  pub origin : Origin
  pub tree : List ℕ

abbrev pub words_of : Check → CheckWords
words_of check = record { origin = origin_of check.source; tree = check.tree.now }

abbrev pub check_flat_form : Form
check_flat_form = flat_form (File ∷ []) NoOption

abbrev pub check_form : Form
check_form = joined_form (File ∷ []) NoOption

abbrev pub check_flat_words : Filled → CheckWords
check_flat_words filled = record { origin = flat_origin filled; tree = word_at 1 filled }

abbrev pub check_words : Filled → CheckWords
check_words filled = record { origin = joined_origin filled; tree = word_at 4 filled }

-- what the words after the name ask for, or the place where they leave the form
abbrev pub check_flat_asks : Words → Result CheckWords ℕ
check_flat_asks words = read_form check_flat_form words >>= λ filled. Ok (check_flat_words filled)

-- what the words after the name ask for, or the place where they leave the form
abbrev pub check_asks : Words → Result CheckWords ℕ
check_asks words = read_form check_form words >>= λ filled. Ok (check_words filled)
