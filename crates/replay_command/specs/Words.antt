-- The words of `replay` and `replay-flat`: the files of a problem, SETTING and a tolerance.
use Rattle.std.specs.Prelude.{ℕ, List, [], ◌∷◌, Result, Ok}
use Rattle.command_words.specs.declared.form.Part.TheVariants.{File}
use Rattle.command_words.specs.declared.options.Offer.TheVariants.{TolAlone}
use Rattle.command_words.specs.Words.{Words, ◌>>=◌}
use Rattle.command_words.specs.Forms.{Filled, Form, read_form, word_at}
use Rattle.command_words.specs.Options.{tolerance_of}
use Rattle.problem_files.specs.Sources.{Origin, origin_of}
use Rattle.problem_files.specs.SourceWords.{flat_form, flat_origin, joined_form, joined_origin}
use Rattle.replay_command.specs.declared.replay.Replay.{Replay}

-- where the problem comes from, SETTING, and how far, in Pa^2, a law may be off
pub record ReplayWords : Type 0 where
  pub origin : Origin
  pub setting : List ℕ
  pub tol : ℕ

abbrev pub words_of : Replay → ReplayWords
words_of replay = record { origin = origin_of replay.source; setting = replay.setting.now; tol = replay.tol.value }

abbrev pub replay_flat_form : Form
replay_flat_form = flat_form (File ∷ []) TolAlone

abbrev pub replay_form : Form
replay_form = joined_form (File ∷ []) TolAlone

abbrev pub replay_flat_words : Filled → ReplayWords
replay_flat_words filled = record { origin = flat_origin filled; setting = word_at 1 filled; tol = tolerance_of filled.options }

abbrev pub replay_words : Filled → ReplayWords
replay_words filled = record { origin = joined_origin filled; setting = word_at 4 filled; tol = tolerance_of filled.options }

-- what the words after the name ask for, or the place where they leave the form
abbrev pub replay_flat_asks : Words → Result ReplayWords ℕ
replay_flat_asks words = read_form replay_flat_form words >>= λ filled. Ok (replay_flat_words filled)

-- what the words after the name ask for, or the place where they leave the form
abbrev pub replay_asks : Words → Result ReplayWords ℕ
replay_asks words = read_form replay_form words >>= λ filled. Ok (replay_words filled)
