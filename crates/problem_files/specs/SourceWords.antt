-- The words that name the files of a problem.
use Rattle.std.specs.Prelude.{ℕ, List, ◌∷◌, if◌then◌else◌, codes, Option, None, Some}
use Rattle.std.specs.Str.{bytes_eq}
use Rattle.command_words.specs.declared.form.Part.{Part}
use Rattle.command_words.specs.declared.form.Part.TheVariants.{File}
use Rattle.command_words.specs.declared.options.Offer.{Offer}
use Rattle.command_words.specs.Forms.{Filled, Form, word_at}
use Rattle.problem_files.specs.Sources.{Origin, flat, joined}

-- PROBLEM, and then these parts
abbrev pub flat_form : List Part → Offer → Form
flat_form parts options = record { parts = File ∷ parts; options = options }

-- NET SCN CDF RES, and then these parts
abbrev pub joined_form : List Part → Offer → Form
joined_form parts options = record { parts = File ∷ File ∷ File ∷ File ∷ parts; options = options }

-- the decision file that a word names; `none` says that there is none
abbrev pub groups_file : List ℕ → Option (List ℕ)
groups_file word = if bytes_eq word (codes "none") then None else Some word

abbrev pub flat_origin : Filled → Origin
flat_origin filled = flat (word_at 0 filled)

abbrev pub joined_origin : Filled → Origin
joined_origin filled = joined (record { net = word_at 0 filled; scn = word_at 1 filled; cdf = groups_file (word_at 2 filled); res = word_at 3 filled })
