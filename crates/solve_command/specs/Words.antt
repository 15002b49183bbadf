-- The words of `solve` and `solve-flat`: the files of a problem, OUT and both options.
use Rattle.std.specs.Prelude.{ℕ, List, [], ◌∷◌, Result, Ok}
use Rattle.command_words.specs.declared.form.Part.TheVariants.{File}
use Rattle.command_words.specs.declared.options.Offer.TheVariants.{TolAndBoxes}
use Rattle.command_words.specs.Words.{Words, ◌>>=◌}
use Rattle.command_words.specs.Forms.{Filled, Form, read_form, word_at}
use Rattle.command_words.specs.Options.{boxes_of, tolerance_of}
use Rattle.problem_files.specs.Sources.{Origin, origin_of}
use Rattle.problem_files.specs.SourceWords.{flat_form, flat_origin, joined_form, joined_origin}
use Rattle.solve_command.specs.declared.solve.Solve.{Solve}

-- where the problem comes from, OUT, how far, in Pa^2, a law may be off, and how many boxes may be split
pub record SolveWords : Type 0 where
  pub origin : Origin
  pub out : List ℕ
  pub tol : ℕ
  pub boxes : ℕ

abbrev pub words_of : Solve → SolveWords
words_of solve = record { origin = origin_of solve.source; out = solve.out.now; tol = solve.tol.value; boxes = solve.boxes.value }

abbrev pub solve_flat_form : Form
solve_flat_form = flat_form (File ∷ []) TolAndBoxes

abbrev pub solve_form : Form
solve_form = joined_form (File ∷ []) TolAndBoxes

abbrev pub solve_flat_words : Filled → SolveWords
solve_flat_words filled = record { origin = flat_origin filled; out = word_at 1 filled; tol = tolerance_of filled.options; boxes = boxes_of filled.options }

abbrev pub solve_words : Filled → SolveWords
solve_words filled = record { origin = joined_origin filled; out = word_at 4 filled; tol = tolerance_of filled.options; boxes = boxes_of filled.options }

-- what the words after the name ask for, or the place where they leave the form
abbrev pub solve_flat_asks : Words → Result SolveWords ℕ
solve_flat_asks words = read_form solve_flat_form words >>= λ filled. Ok (solve_flat_words filled)

-- what the words after the name ask for, or the place where they leave the form
abbrev pub solve_asks : Words → Result SolveWords ℕ
solve_asks words = read_form solve_form words >>= λ filled. Ok (solve_words filled)
