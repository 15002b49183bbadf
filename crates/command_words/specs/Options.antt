-- The options of a command, each at most once and with its number.
use Rattle.std.specs.Prelude.{ℕ, ◌+◌, List, [], ◌∷◌, Bool, true, false, ◌&&◌, is_none, nat_le, if◌then◌else◌, codes, ok_or, option_and_then, option_map, unwrap_or, Option, None, Some, Result, Ok, Err}
use Rattle.std.specs.Str.{bytes_eq}
use Rattle.line_text.specs.Numerals.{natural}
use Rattle.command_words.specs.declared.options.Choice.{Choice}
use Rattle.command_words.specs.declared.options.Choice.TheVariants.{Tol, Boxes}
use Rattle.command_words.specs.declared.options.Given.{Given}
use Rattle.command_words.specs.declared.options.Offer.{Offer}
use Rattle.command_words.specs.declared.options.Offer.TheVariants.{NoOption, TolAlone, TolAndBoxes}
use Rattle.command_words.specs.Budgets.{budget_of, default_budget}
use Rattle.command_words.specs.Tolerances.{default_tolerance, most_tolerance}
use Rattle.command_words.specs.Words.{Words, ◌>>=◌}

-- what the options gave, if they were given
pub record Options : Type 0 where
  pub tol : Option ℕ
  pub boxes : Option ℕ

abbrev pub options_of : Given → Options
options_of given = record { tol = option_map (λ tol. tol.value) given.tol; boxes = option_map (λ boxes. boxes.value) given.boxes }

-- no option was given yet
abbrev pub none_given : Options
none_given = record { tol = None; boxes = None }

-- how far, in Pa^2, a law may be off
abbrev pub tolerance_of : Options → ℕ
tolerance_of given = unwrap_or given.tol default_tolerance

-- how many boxes may be split
abbrev pub boxes_of : Options → ℕ
boxes_of given = unwrap_or given.boxes default_budget

-- a tolerance, which is word n
abbrev pub tolerance_in : ℕ → Option ℕ → Result ℕ ℕ
tolerance_in n None = Err n
tolerance_in n (Some tol) = if nat_le tol most_tolerance then Ok tol else Err n

-- how many boxes may be split, which is word n
abbrev pub budget_in : ℕ → Option ℕ → Result ℕ ℕ
budget_in n number = ok_or (option_and_then budget_of number) n

-- whether `--tol` is among the options
abbrev pub has_tol : Offer → Bool
has_tol NoOption = false
has_tol TolAlone = true
has_tol TolAndBoxes = true

-- whether `--boxes` is
abbrev pub has_boxes : Offer → Bool
has_boxes NoOption = false
has_boxes TolAlone = false
has_boxes TolAndBoxes = true

-- the option that word n is, if the command has it and it wasn't given yet
abbrev pub option_in : ℕ → Offer → Options → List ℕ → Result Choice ℕ
option_in n offer given word =
    if has_tol offer && is_none given.tol && bytes_eq word (codes "--tol") then Ok Tol
    else if has_boxes offer && is_none given.boxes && bytes_eq word (codes "--boxes") then Ok Boxes
    else Err n

-- what is given with this option and its number, which is word n
abbrev pub give : ℕ → Choice → Options → Option ℕ → Result Options ℕ
give n Tol given number = tolerance_in n number >>= λ tol. Ok (record { tol = Some tol; boxes = given.boxes })
give n Boxes given number = budget_in n number >>= λ boxes. Ok (record { tol = given.tol; boxes = Some boxes })

-- the options from word n on, in any order, to the last word
abbrev pub options_at : ℕ → Offer → Options → Words → Result Options ℕ
options_at n offer given [] = Ok given
options_at n offer given (word ∷ []) = option_in n offer given word >>= λ option. Err (n + 1)
options_at n offer given (word ∷ number ∷ words) =
    option_in n offer given word >>= λ option. give (n + 1) option given (natural number) >>= λ more. options_at (n + 2) offer more words
