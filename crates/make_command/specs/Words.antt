-- The words of `make`: N and OUT.
use Rattle.std.specs.Prelude.{ℕ, List, [], ◌∷◌, Result, Ok}
use Rattle.command_words.specs.declared.form.Part.TheVariants.{File, Number}
use Rattle.command_words.specs.declared.options.Offer.TheVariants.{NoOption}
use Rattle.command_words.specs.Words.{Words, ◌>>=◌}
use Rattle.command_words.specs.Forms.{Filled, Form, read_form, count_in, word_at}
use Rattle.make_command.specs.declared.making.Make.{Make}

-- how many nodes the problem is to have, and OUT
pub record MakeWords : Type 0 where
  pub count : ℕ
  pub out : List ℕ

abbrev pub words_of : Make → MakeWords
words_of make = record { count = make.count.value; out = make.out.now }

abbrev pub make_form : Form
make_form = record { parts = Number ∷ File ∷ []; options = NoOption }

abbrev pub make_words : Filled → MakeWords
make_words filled = record { count = count_in filled; out = word_at 1 filled }

-- what the words after the name ask for, or the place where they leave the form
abbrev pub make_asks : Words → Result MakeWords ℕ
make_asks words = read_form make_form words >>= λ filled. Ok (make_words filled)
